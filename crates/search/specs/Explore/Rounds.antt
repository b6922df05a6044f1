-- The exploration's invariant: it holds at the start, each round keeps it and expands another node, so the fuel does not run out; and where the
-- search has finished, it is closed. Assumes nothing.
use Rattle.std.specs.Prelude.{◌≡◌, ◌≢◌, ◌⊎◌, Bool, [], set}
use Rattle.std.proofs.Math.Path.{refl}
use Rattle.std.proofs.Common.{◌∙◌, inl, inr, not-suc-le-zero, arith}
use Rattle.std.proofs.Math.Bool.{true, false}
use Prim.Native.Nat.{ℕ, zero, suc, ◌+◌, ◌≤◌, ◌<◌}
use Rattle.std.proofs.Math.Dec.{eqb}
use Rattle.std.proofs.Math.ListN.{length, get_or, length-set}
use Rattle.leaf.specs.Settle.Steps.{set_cases}
use Rattle.layer.specs.Layer.{applies_to}
use Rattle.task.specs.declared.Task.{Task}
use Rattle.task.specs.Factors.{centre_action}
use Rattle.search.specs.Node.{Node, first_node, next_node, key}
use Rattle.search.specs.Made.{made_first}
use Rattle.search.specs.Explore.{Search, finished, tableFull, budgetSpent, node_at, below_best, keep, start, waits, choose, Expanded, through, filled, expand, begin, explore, explored}
use Rattle.search.specs.Explore.Closure.{Beaten, Handled, Opened, Closure}
use Rattle.search.specs.Explore.Laws.{ones, ones_le, ones_set, flag_in, flag_up, flag_any, Base, handled_on, keep_base}
use Rattle.search.specs.Explore.Turns.{After, expand_through, expand_filled, waits_out, waits_not, choose_some, choose_none}

-- what holds before each round: what every search has, node 0, and closure for each node that has been expanded
pub record Holds (t : Task) (nodes : ℕ) (s : Search) : Type 0 where
  pub base : Base t nodes s
  pub some : 0 < length s.kept
  pub first : node_at t s 0 ≡ first_node t
  pub closed : (u : ℕ) → get_or s.done u 0 ≢ 0 → Opened t s u

module _ (t : Task) (nodes : ℕ) where
  -- ---- the start

  -- a search of no nodes has what every search has
  pub base_none : Base t nodes (record { kept = []; done = []; begun = 0; best = 0 })
  base_none =
      record {
        even = refl;
        room = omega arith;
        made = λ u l. absurd (not-suc-le-zero l);
        best_in = λ u e. absurd (omega arith);
        goals = λ u l. absurd (not-suc-le-zero l);
      }

  -- the invariant holds at the start
  pub holds_start : 1 ≤ nodes → Holds t nodes (start t)
  unfolding start keep
  holds_start h =
      record {
        base = keep_base t (record { kept = []; done = []; begun = 0; best = 0 }) (first_node t) nodes base_none h (made_first t);
        some = omega arith;
        first = refl;
        closed = λ u d. absurd (none u d);
      }
    where
      none : (u : ℕ) → get_or (start t).done u 0 ≢ 0 → ⊥
      none zero d = d refl
      none (suc u) d = d refl

  -- at the start nothing is expanded
  pub start_ones : ones (start t).done ≡ 0
  unfolding start keep ones
  start_ones = refl

  -- ---- a round

  -- the search whose next expansion has begun has what every search has
  pub begin_base : (x : ℕ) (s : Search) → Base t nodes s → Base t nodes (begin x s)
  unfolding begin below_best
  begin_base x s b = record { even = length-set s.done x 1 ∙ b.even; room = b.room; made = b.made; best_in = b.best_in; goals = b.goals }

  module _ (x : ℕ) (s r : Search) (v : Holds t nodes s) (w : waits t s x ≡ true) (e : expand t nodes x t.actions 0 (begin x s) ≡ through r) where
    -- the node is one of those kept
    round_in : x < length s.kept
    round_in = omega (arith, flag_in s.done x (waits_out t s x w), v.base.even)

    -- the expansion deals with all actions of the node
    round_done : After t nodes (begin x s) r
        × ((a : ℕ) → 0 ≤ a → a < 0 + t.actions → centre_action t a ≡ true → applies_to t (node_at t s x).spot (node_at t s x).prices a ≡ true
        → Handled t r (next_node t x (node_at t s x) a))
    unfolding begin
    round_done = expand_through t nodes x t.actions 0 (begin x s) (begin_base x s v.base) round_in (omega arith) e

    -- one flag more is up
    pub round_ones : ones r.done ≡ suc (ones s.done)
    unfolding begin
    round_ones = round_done.0.grows.count ∙ ones_set s.done x (waits_out t s x w)

    -- the nodes are as they were
    round_node : (j : ℕ) → j < length s.kept → node_at t r j ≡ node_at t s j
    unfolding begin
    round_node = round_done.0.grows.node

    -- what was dealt with is
    round_handled : (n : Node) → Handled t s n → Handled t r n
    unfolding begin Handled below_best
    round_handled n h = handled_on t n round_done.0.grows h

    -- the invariant holds behind the round
    pub round_holds : Holds t nodes r
    unfolding begin
    round_holds =
        record {
          base = round_done.0.base;
          some = omega (arith, round_done.0.grows.more, v.some);
          first = round_node 0 v.some ∙ v.first;
          closed = λ u d. go u (set_cases s.done x 1 u 0) (λ q. d (round_done.0.grows.flag u ∙ q));
        }
      where
        go : (u : ℕ) → (get_or (set s.done x 1) u 0 ≡ get_or s.done u 0) ⊎ ((u ≡ x) × (get_or (set s.done x 1) u 0 ≡ 1)) → get_or (set s.done x 1) u 0 ≢ 0 → Opened t r u
        go u (inl q) d a h c f =
            let n : get_or s.done u 0 ≢ 0 = λ p. d (q ∙ p) in
            let l : u < length s.kept = omega (arith, flag_up s.done u n, v.base.even) in
            rw (round_node u l) (round_handled (next_node t u (node_at t s u) a) (v.closed u n a h c (rw (round_node u l) at f)))
        go u (inr (q, _)) d a h c f =
            let g : applies_to t (node_at t s x).spot (node_at t s x).prices a ≡ true = rw (q, round_node x round_in) at f in
            rw (q, round_node x round_in) (round_done.1 a (omega arith) (omega arith) c g)

  -- a round that found the table full leaves what every search has
  round_filled : (x : ℕ) (s r : Search) → Holds t nodes s → waits t s x ≡ true → expand t nodes x t.actions 0 (begin x s) ≡ filled r → Base t nodes r
  unfolding begin
  round_filled x s r v w e =
      let l : x < length s.kept = omega (arith, flag_in s.done x (waits_out t s x w), v.base.even) in
      expand_filled t nodes x t.actions 0 (begin x s) (begin_base x s v.base) l (omega arith) e

  -- ---- the end

  -- where no node waits, the search is closed
  pub holds_closure : (s : Search) → nodes ≤ 4096 → Holds t nodes s → choose t s (length s.kept) ≡ 0 → Closure t s
  holds_closure s few v e =
      record {
        some = v.some;
        few = omega (arith, v.base.room);
        first = v.first;
        made = v.base.made;
        goals = v.base.goals;
        closed = λ u l. go u l (waits_not t s u (choose_none t s (length s.kept) e u l));
      }
    where
      go : (u : ℕ) → u < length s.kept → (get_or s.done u 1 ≢ 0) ⊎ Beaten t s (key t (node_at t s u)) → Beaten t s (key t (node_at t s u)) ⊎ Opened t s u
      go u l (inl d) = inr (v.closed u (λ q. d (flag_any s.done u (omega (arith, v.base.even)) ∙ q)))
      go u l (inr b) = inl b

  -- ---- explore

  -- an exploration with fuel for each node not yet expanded: where it has finished, the search is closed
  pub explore_ended : (budget fuel : ℕ) (s : Search) → nodes ≤ 4096 → Holds t nodes s → ones s.done + fuel ≡ suc nodes → (explore t nodes budget fuel s).reason ≡ finished
      → Holds t nodes (explore t nodes budget fuel s).search × Closure t (explore t nodes budget fuel s).search
  unfolding explore
  explore_ended budget zero s few v n e = absurd (omega (arith, ones_le s.done, v.base.even, v.base.room))
  explore_ended budget (suc fuel) s few v n e = chosen (choose t s (length s.kept)) refl (λ r w k f. explore_ended budget fuel r few w k f)
    where
      Rest : Type 0
      Rest = (r : Search) → Holds t nodes r → ones r.done + fuel ≡ suc nodes → (explore t nodes budget fuel r).reason ≡ finished
          → Holds t nodes (explore t nodes budget fuel r).search × Closure t (explore t nodes budget fuel r).search

      Goal : Type 0
      Goal = Holds t nodes (explore t nodes budget (suc fuel) s).search × Closure t (explore t nodes budget (suc fuel) s).search

      done : (u : ℕ) → choose t s (length s.kept) ≡ suc u → eqb s.begun budget ≡ false → (x : Expanded) → expand t nodes u t.actions 0 (begin u s) ≡ x → Rest → Goal
      done u p q (through r) f rest =
          let w = choose_some t s (length s.kept) u p in
          rw (p, q, f, explore) (rest r (round_holds u s r v w f) (omega (arith, round_ones u s r v w f)) (rw (p, q, f, explore) at e))
      done u p q (filled r) f rest = let g : tableFull ≡ finished = rw (p, q, f, explore) at e in let z : ◌≡◌ {A = ℕ} 0 1 = cc in absurd (omega arith)

      spent : (u : ℕ) → choose t s (length s.kept) ≡ suc u → (c : Bool) → eqb s.begun budget ≡ c → Rest → Goal
      spent u p true q rest = let g : budgetSpent ≡ finished = rw (p, q, explore) at e in let z : ◌≡◌ {A = ℕ} 0 1 = cc in absurd (omega arith)
      spent u p false q rest = done u p q (expand t nodes u t.actions 0 (begin u s)) refl rest

      chosen : (x : ℕ) → choose t s (length s.kept) ≡ x → Rest → Goal
      chosen zero p rest = rw (p, explore) (v, holds_closure s few v p)
      chosen (suc u) p rest = spent u p (eqb s.begun budget) refl rest

  -- where the whole exploration has finished, its search is closed
  pub explored_ended : (budget : ℕ) → 1 ≤ nodes → nodes ≤ 4096 → (explored t nodes budget).reason ≡ finished
      → Holds t nodes (explored t nodes budget).search × Closure t (explored t nodes budget).search
  unfolding explored
  explored_ended budget some few e = explore_ended budget (suc nodes) (start t) few (holds_start some) (omega (arith, start_ones)) e

  -- ---- wherever it stops

  -- an exploration leaves what every search has, whatever the reason
  pub explore_base : (budget fuel : ℕ) (s : Search) → Holds t nodes s → Base t nodes (explore t nodes budget fuel s).search
  unfolding explore
  explore_base budget zero s v = v.base
  explore_base budget (suc fuel) s v = chosen (choose t s (length s.kept)) refl (explore_base budget fuel)
    where
      done : (u : ℕ) → choose t s (length s.kept) ≡ suc u → eqb s.begun budget ≡ false → (x : Expanded) → expand t nodes u t.actions 0 (begin u s) ≡ x
          → ((r : Search) → Holds t nodes r → Base t nodes (explore t nodes budget fuel r).search) → Base t nodes (explore t nodes budget (suc fuel) s).search
      done u p q (through r) f rest = rw (p, q, f, explore) (rest r (round_holds u s r v (choose_some t s (length s.kept) u p) f))
      done u p q (filled r) f rest = rw (p, q, f, explore) (round_filled u s r v (choose_some t s (length s.kept) u p) f)

      spent : (u : ℕ) → choose t s (length s.kept) ≡ suc u → (c : Bool) → eqb s.begun budget ≡ c
          → ((r : Search) → Holds t nodes r → Base t nodes (explore t nodes budget fuel r).search) → Base t nodes (explore t nodes budget (suc fuel) s).search
      spent u p true q rest = rw (p, q, explore) v.base
      spent u p false q rest = done u p q (expand t nodes u t.actions 0 (begin u s)) refl rest

      chosen : (x : ℕ) → choose t s (length s.kept) ≡ x
          → ((r : Search) → Holds t nodes r → Base t nodes (explore t nodes budget fuel r).search) → Base t nodes (explore t nodes budget (suc fuel) s).search
      chosen zero p rest = rw (p, explore) v.base
      chosen (suc u) p rest = spent u p (eqb s.begun budget) refl rest

  -- the whole exploration leaves what every search has
  pub explored_base : (budget : ℕ) → 1 ≤ nodes → Base t nodes (explored t nodes budget).search
  unfolding explored
  explored_base budget some = explore_base budget (suc nodes) (start t) (holds_start some)
