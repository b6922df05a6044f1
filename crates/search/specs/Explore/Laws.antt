-- Laws of a search's parts: its flags, what every search has, how it grows, and what keeping a node leaves true. Assumes nothing.
use Rattle.std.specs.Prelude.{◌≡◌, ◌≢◌, ◌⊎◌, Bool, get_or, set}
use Rattle.std.proofs.Math.Path.{refl}
use Rattle.std.proofs.Common.{sym, ap, ◌∙◌, true≢false, not-suc-le-zero, arith}
use Rattle.std.proofs.Math.Logic.{inl, inr}
use Rattle.std.proofs.Math.Bool.{true, false}
use mathlib.Core.List.{List, [], ◌∷◌, ◌++◌}
use Prim.Native.Nat.{ℕ, zero, suc, ◌≤◌, ◌<◌}
use Rattle.std.proofs.Math.ListN.{length, length-append, get_or-append}
use Rattle.std.proofs.Math.Seq.{get_or_at}
use Rattle.loops.specs.Count.Laws.{below_cases}
use Rattle.task.specs.declared.Task.{Task}
use Rattle.search.specs.Node.{Node, first_node, key, is_goal, goal_cost, dominates}
use Rattle.search.specs.Node.Laws.{dominates_refl}
use Rattle.search.specs.Made.{Made}
use Rattle.search.specs.Explore.{Search, node_at, below_best, best_with, keep}
use Rattle.search.specs.Explore.Closure.{Beaten, beaten_some, beaten_in, beaten_best, below_some, Handled}

-- ---- flags

-- how many flags are not 0
unfoldable pub ones : List ℕ → ℕ
ones [] = 0
ones (zero ∷ xs) = ones xs
ones (suc x ∷ xs) = suc (ones xs)

-- no more than there are
pub ones_le : (xs : List ℕ) → ones xs ≤ length xs
unfolding ones
ones_le [] = omega arith
ones_le (zero ∷ xs) = omega (arith, ones_le xs)
ones_le (suc x ∷ xs) = omega (arith, ones_le xs)

-- a flag more that is 0
ones_snoc : (xs : List ℕ) → ones (xs ++ (0 ∷ [])) ≡ ones xs
unfolding ones
ones_snoc [] = refl
ones_snoc (zero ∷ xs) = ones_snoc xs
ones_snoc (suc x ∷ xs) = ap suc (ones_snoc xs)

-- a flag raised
pub ones_set : (xs : List ℕ) (u : ℕ) → get_or xs u 1 ≡ 0 → ones (set xs u 1) ≡ suc (ones xs)
unfolding ones
ones_set [] u e = absurd (omega arith)
ones_set (zero ∷ xs) zero e = refl
ones_set (suc x ∷ xs) zero e = absurd (omega arith)
ones_set (zero ∷ xs) (suc u) e = ones_set xs u e
ones_set (suc x ∷ xs) (suc u) e = ap suc (ones_set xs u e)

-- a flag more that is 0 stands for no flag
pub flag_snoc : (xs : List ℕ) (j : ℕ) → get_or (xs ++ (0 ∷ [])) j 0 ≡ get_or xs j 0
flag_snoc [] zero = refl
flag_snoc [] (suc j) = refl
flag_snoc (x ∷ xs) zero = refl
flag_snoc (x ∷ xs) (suc j) = flag_snoc xs j

-- a flag that is 0, where no flag counts as 1
pub flag_in : (xs : List ℕ) (u : ℕ) → get_or xs u 1 ≡ 0 → u < length xs
flag_in [] u e = absurd (omega arith)
flag_in (x ∷ xs) zero e = omega arith
flag_in (x ∷ xs) (suc u) e = omega (arith, flag_in xs u e)

-- a flag that is not 0 is one of the flags
pub flag_up : (xs : List ℕ) (u : ℕ) → get_or xs u 0 ≢ 0 → u < length xs
flag_up [] u h = absurd (h refl)
flag_up (x ∷ xs) zero h = omega arith
flag_up (x ∷ xs) (suc u) h = omega (arith, flag_up xs u h)

-- a flag is a flag, whatever stands for none
pub flag_any : (xs : List ℕ) (u : ℕ) → u < length xs → get_or xs u 1 ≡ get_or xs u 0
flag_any [] u l = absurd (not-suc-le-zero l)
flag_any (x ∷ xs) zero l = refl
flag_any (x ∷ xs) (suc u) l = flag_any xs u (omega arith)

-- ---- what every search has, and how it grows

-- a flag for each node, at most `nodes` nodes, each of a centre path not longer than its number; best is a goal node, and no goal node is below it
pub record Base (t : Task) (nodes : ℕ) (s : Search) : Type 0 where
  pub even : length s.done ≡ length s.kept
  pub room : length s.kept ≤ nodes
  pub made : (u : ℕ) → u < length s.kept → Made t u (node_at t s u)
  pub best_in : (u : ℕ) → s.best ≡ suc u → (u < length s.kept) × (is_goal t (node_at t s u) ≡ true)
  pub goals : (u : ℕ) → u < length s.kept → is_goal t (node_at t s u) ≡ true → Beaten t s (goal_cost t (node_at t s u))

-- r comes after s while a node is expanded
pub record Grows (t : Task) (s r : Search) : Type 0 where
  pub more : length s.kept ≤ length r.kept
  pub node : (j : ℕ) → j < length s.kept → node_at t r j ≡ node_at t s j
  pub better : (k : ℕ) → Beaten t s k → Beaten t r k
  pub flag : (j : ℕ) → get_or r.done j 0 ≡ get_or s.done j 0
  pub count : ones r.done ≡ ones s.done

module _ (t : Task) where
  -- a search that stays as it is
  pub grows_none : (s : Search) → Grows t s s
  grows_none s = record { more = omega arith; node = λ j l. refl; better = λ k b. b; flag = λ j. refl; count = refl }

  -- one growth behind another
  pub grows_on : {s r q : Search} → Grows t s r → Grows t r q → Grows t s q
  grows_on g h =
      record {
        more = omega (arith, g.more, h.more);
        node = λ j l. h.node j (omega (arith, g.more)) ∙ g.node j l;
        better = λ k b. h.better k (g.better k b);
        flag = λ j. h.flag j ∙ g.flag j;
        count = h.count ∙ g.count;
      }

  -- what is dealt with stays so
  pub handled_on : {s r : Search} (n : Node) → Grows t s r → Handled t s n → Handled t r n
  unfolding Handled
  handled_on {s} {r} n g h = go h
    where
      go : Beaten t s (key t n) ⊎ ((m : ℕ) × (m < length s.kept) × (dominates (node_at t s m) n ≡ true))
          → Beaten t r (key t n) ⊎ ((m : ℕ) × (m < length r.kept) × (dominates (node_at t r m) n ≡ true))
      go (inl b) = inl (g.better (key t n) b)
      go (inr (m, l, d)) = inr (m, omega (arith, g.more), rw (g.node m l) d)

-- ---- keep

module _ (t : Task) (s : Search) (n : Node) where
  -- the new node is best, or best is as before
  best_cases : ((is_goal t n ≡ true) × (below_best t s (goal_cost t n) ≡ true) × (best_with t s n ≡ suc (length s.kept)))
      ⊎ ((is_goal t n ≡ true → Beaten t s (goal_cost t n)) × (best_with t s n ≡ s.best))
  unfolding best_with
  best_cases = go (is_goal t n) refl (below_best t s (goal_cost t n)) refl
    where
      go : (a : Bool) → is_goal t n ≡ a → (b : Bool) → below_best t s (goal_cost t n) ≡ b
          → ((is_goal t n ≡ true) × (below_best t s (goal_cost t n) ≡ true) × (best_with t s n ≡ suc (length s.kept)))
          ⊎ ((is_goal t n ≡ true → Beaten t s (goal_cost t n)) × (best_with t s n ≡ s.best))
      go true p true q = inl (p, q, rw (p, q, best_with))
      go true p false q = inr (λ _. q, rw (p, q, best_with))
      go false p b q = inr (λ f. absurd (true≢false (sym f ∙ p)), rw (p, best_with))

  -- the nodes before it are as they were
  keep_old : (j : ℕ) → j < length s.kept → node_at t (keep t s n) j ≡ node_at t s j
  unfolding keep
  keep_old j l = get_or-append s.kept (n ∷ []) (first_node t) j l

  -- the new node has the next number
  keep_new : node_at t (keep t s n) (length s.kept) ≡ n
  unfolding keep
  keep_new = get_or_at s.kept n [] (first_node t) (length s.kept) refl

  -- there is one node more
  keep_length : length (keep t s n).kept ≡ suc (length s.kept)
  unfolding keep
  keep_length = simp length-append (omega arith)

  module _ (nodes : ℕ) (b : Base t nodes s) where
    -- no cost that is not below best comes to be below best
    keep_better : (k : ℕ) → Beaten t s k → Beaten t (keep t s n) k
    unfolding keep
    keep_better k h = let (u, e) = beaten_best t s k h in go u e best_cases
      where
        go : (u : ℕ) → s.best ≡ suc u
            → ((is_goal t n ≡ true) × (below_best t s (goal_cost t n) ≡ true) × (best_with t s n ≡ suc (length s.kept)))
            ⊎ ((is_goal t n ≡ true → Beaten t s (goal_cost t n)) × (best_with t s n ≡ s.best))
            → Beaten t (keep t s n) k
        go u e (inl (g, l, q)) = beaten_in t (keep t s n) k (length s.kept) q (rw keep_new (omega (arith, beaten_some t s k u e h, below_some t s _ u e l)))
        go u e (inr (_, q)) = beaten_in t (keep t s n) k u (q ∙ e) (rw (keep_old u (b.best_in u e).0) (beaten_some t s k u e h))

    -- a search grows by keeping a node
    pub keep_grows : Grows t s (keep t s n)
    unfolding keep
    keep_grows = record { more = omega (arith, keep_length); node = keep_old; better = keep_better; flag = flag_snoc s.done; count = ones_snoc s.done }

    -- and has what every search has, if the node has a path
    pub keep_base : length s.kept < nodes → Made t (length s.kept) n → Base t nodes (keep t s n)
    unfolding keep
    keep_base fits m =
        record {
          even = simp length-append (omega (arith, b.even));
          room = omega (arith, keep_length);
          made = λ u l. made (below_cases (omega (arith, keep_length)));
          best_in = λ u e. best u e best_cases;
          goals = λ u l g. goals (below_cases (omega (arith, keep_length))) g;
        }
      where
        made : {u : ℕ} → (u < length s.kept) ⊎ (u ≡ length s.kept) → Made t u (node_at t (keep t s n) u)
        made {u} (inl l) = rw (keep_old u l) (b.made u l)
        made (inr q) = rw (q, keep_new) m

        best : (u : ℕ) → best_with t s n ≡ suc u
            → ((is_goal t n ≡ true) × (below_best t s (goal_cost t n) ≡ true) × (best_with t s n ≡ suc (length s.kept)))
            ⊎ ((is_goal t n ≡ true → Beaten t s (goal_cost t n)) × (best_with t s n ≡ s.best))
            → (u < length (keep t s n).kept) × (is_goal t (node_at t (keep t s n) u) ≡ true)
        best u e (inl (g, _, q)) = let f : u ≡ length s.kept = omega arith in (omega (arith, keep_length), rw (f, keep_new) g)
        best u e (inr (_, q)) =
            let (l, g) = b.best_in u (sym q ∙ e) in
            (omega (arith, keep_length), rw (keep_old u l) g)

        new : is_goal t n ≡ true
            → ((is_goal t n ≡ true) × (below_best t s (goal_cost t n) ≡ true) × (best_with t s n ≡ suc (length s.kept)))
            ⊎ ((is_goal t n ≡ true → Beaten t s (goal_cost t n)) × (best_with t s n ≡ s.best))
            → Beaten t (keep t s n) (goal_cost t n)
        new g (inl (_, _, q)) = beaten_in t (keep t s n) (goal_cost t n) (length s.kept) q (rw keep_new (omega arith))
        new g (inr (f, q)) = keep_better (goal_cost t n) (f g)

        goals : {u : ℕ} → (u < length s.kept) ⊎ (u ≡ length s.kept) → is_goal t (node_at t (keep t s n) u) ≡ true
            → Beaten t (keep t s n) (goal_cost t (node_at t (keep t s n) u))
        goals {u} (inl l) g = rw (keep_old u l) (keep_better _ (b.goals u l (rw (keep_old u l) at g)))
        goals (inr q) g = rw (q, keep_new) (new (rw (q, keep_new) at g) best_cases)

    -- the node is dealt with
    pub keep_handled : Handled t (keep t s n) n
    unfolding Handled
    keep_handled = inr (length s.kept, omega (arith, keep_length), rw keep_new (dominates_refl n))
