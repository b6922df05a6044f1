-- Laws of an expansion and of the choice before it: an offered successor is dealt with, an expansion deals with every action, and what the choice of
-- the next node says. Assumes nothing.
use Rattle.std.proofs.Math.Path.{◌≡◌, refl}
use Rattle.std.proofs.Common.{sym, ◌∙◌, true≢false, not-suc-le-zero}
use Rattle.std.specs.Prelude.{◌≢◌, ◌⊎◌, Bool, get_or}
use Rattle.std.proofs.Math.Logic.{inl, inr}
use Rattle.std.proofs.Math.Bool.{true, false}
use Prim.Native.Nat.{ℕ, zero, suc, ◌+◌, ◌≤◌, ◌<◌}
use Rattle.std.proofs.Math.Decide.{ℕ_discrete}
use native.Mathlib.Omega.{arith}
use Rattle.std.proofs.Math.Dec.{ltb, eqb}
use Rattle.std.proofs.Math.ListN.{length}
use borrow.Author.Tests.{ltb-true, eqb-true, eqb-false}
use Rattle.loops.specs.Count.{any}
use Rattle.loops.specs.Count.Laws.{and_in, and_out, any_out, below_cases}
use Rattle.task.specs.declared.Task.{Task}
use Rattle.task.specs.Factors.{centre_action}
use Rattle.layer.specs.Layer.{applies_to}
use Rattle.search.specs.Node.{Node, next_node, key, dominates}
use Rattle.search.specs.Made.{Made, made_next}
use Rattle.search.specs.Explore.{Search, node_at, below_best, keep, waits, choose, Turn, on, full, offer, turn, through, filled, expand}
use Rattle.search.specs.Explore.Closure.{Beaten, Handled}
use Rattle.search.specs.Explore.Laws.{Base, Grows, grows_none, grows_on, handled_on, keep_grows, keep_base, keep_handled}

-- r comes after s, and has what every search has
pub record After (t : Task) (nodes : ℕ) (s r : Search) : Type 0 where
  pub base : Base t nodes r
  pub grows : Grows t s r

-- ---- offer

module _ (t : Task) (nodes : ℕ) where
  -- a successor that the table had room for is dealt with
  pub offer_on : {r : Search} (s : Search) (n : Node) → Base t nodes s → Made t (length s.kept) n → offer t nodes s n ≡ on r → After t nodes s r × Handled t r n
  unfolding offer Handled
  offer_on {r} s n b m e = best (below_best t s (key t n)) refl
    where
      same : s ≡ r → Handled t s n → After t nodes s r × Handled t r n
      same q h = rw (← q) (record { base = b; grows = grows_none t s }, h)

      room : below_best t s (key t n) ≡ true → any (length s.kept) (λ u. dominates (node_at t s u) n) ≡ false → (c : Bool) → ltb (length s.kept) nodes ≡ c
          → After t nodes s r × Handled t r n
      room p q true f =
          let g : on (keep t s n) ≡ on r = rw (p, q, f, offer) at e in
          let h : keep t s n ≡ r = cc in
          rw (← h) (record { base = keep_base t s n nodes b (ltb-true _ _ f) m; grows = keep_grows t s n nodes b }, keep_handled t s n nodes b)
      room p q false f = let g : full ≡ on r = rw (p, q, f, offer) at e in let z : ◌≡◌ {A = ℕ} 0 1 = cc in absurd (omega arith)

      dominated : below_best t s (key t n) ≡ true → (c : Bool) → any (length s.kept) (λ u. dominates (node_at t s u) n) ≡ c → After t nodes s r × Handled t r n
      dominated p true q =
          let g : on s ≡ on r = rw (p, q, offer) at e in
          let (k, (l, d)) = any_out (length s.kept) _ q in
          same (cc) (inr (k, l, d))
      dominated p false q = room p q (ltb (length s.kept) nodes) refl

      best : (c : Bool) → below_best t s (key t n) ≡ c → After t nodes s r × Handled t r n
      best false p = let g : on s ≡ on r = rw (p, offer) at e in same (cc) (inl p)
      best true p = dominated p (any (length s.kept) (λ u. dominates (node_at t s u) n)) refl

  -- ---- turn

  -- the successor of node u by action a, if there is one, is dealt with
  abbrev pub Dealt : Search → ℕ → Node → ℕ → Type 0
  Dealt r u n a = centre_action t a ≡ true → applies_to t n.spot n.prices a ≡ true → Handled t r (next_node t u n a)

  -- a turn deals with its action
  pub turn_on : {r : Search} (u a : ℕ) (s : Search) → Base t nodes s → u < length s.kept → a < t.actions → turn t nodes u a s ≡ on r
      → After t nodes s r × Dealt r u (node_at t s u) a
  unfolding turn
  turn_on {r} u a s b l h e = centre (centre_action t a) refl (applies_to t (node_at t s u).spot (node_at t s u).prices a) refl
    where
      same : s ≡ r → After t nodes s r
      same q = rw (← q) (record { base = b; grows = grows_none t s })

      centre : (c : Bool) → centre_action t a ≡ c → (d : Bool) → applies_to t (node_at t s u).spot (node_at t s u).prices a ≡ d
          → After t nodes s r × Dealt r u (node_at t s u) a
      centre true p true q =
          let (g, d) =
          offer_on s (next_node t u (node_at t s u) a) b (made_next t u (length s.kept) u (node_at t s u) a l h p q (b.made u l)) (rw (p, q, turn) at e) in
          (g, λ _ _. d)
      centre true p false q = let g : on s ≡ on r = rw (p, q, turn) at e in (same (cc), λ _ f. absurd (true≢false (sym f ∙ q)))
      centre false p d q = let g : on s ≡ on r = rw (p, turn) at e in (same (cc), λ f. absurd (true≢false (sym f ∙ p)))

  -- ---- expand

  -- an expansion deals with its actions
  pub expand_through : {r : Search} (u n a : ℕ) (s : Search) → Base t nodes s → u < length s.kept → a + n ≤ t.actions → expand t nodes u n a s ≡ through r
      → After t nodes s r × ((b : ℕ) → a ≤ b → b < a + n → Dealt r u (node_at t s u) b)
  unfolding expand
  expand_through {r} u zero a s v l h e =
      let g : through s ≡ through r = e in
      let q : s ≡ r = cc in
      (rw (← q) (record { base = v; grows = grows_none t s }), λ b x y. absurd (omega arith))
  expand_through {r} u (suc n) a s v l h e = go (turn t nodes u a s) refl (λ s'. expand_through {r = r} u n (a + 1) s')
    where
      Goal : Type 0
      Goal = After t nodes s r × ((b : ℕ) → a ≤ b → b < a + suc n → Dealt r u (node_at t s u) b)

      dealt : (s' : Search) → After t nodes s s' → Dealt s' u (node_at t s u) a → After t nodes s' r
          → ((b : ℕ) → a + 1 ≤ b → b < a + 1 + n → Dealt r u (node_at t s' u) b) → (b : ℕ) → a ≤ b → b < a + suc n → Dec (b ≡ a) → Dealt r u (node_at t s u) b
      dealt s' w d w' ds b x y (yes q) = rw q (λ p f. handled_on t (next_node t u (node_at t s u) a) w'.grows (d p f))
      dealt s' w d w' ds b x y (no q) = rw (w.grows.node u l) at (ds b (omega arith) (omega arith))

      go : (x : Turn) → turn t nodes u a s ≡ x
          → ((s' : Search) → Base t nodes s' → u < length s'.kept → a + 1 + n ≤ t.actions → expand t nodes u n (a + 1) s' ≡ through r
          → After t nodes s' r × ((b : ℕ) → a + 1 ≤ b → b < a + 1 + n → Dealt r u (node_at t s' u) b)) → Goal
      go (on s') q rest =
          let (w, d) = turn_on u a s v l (omega arith) q in
          let (w', ds) = rest s' w.base (omega (arith, w.grows.more)) (omega arith) (rw (q, expand) at e) in
          (record { base = w'.base; grows = grows_on t w.grows w'.grows }, λ b x y. dealt s' w d w' ds b x y (ℕ_discrete b a))
      go full q rest = let g : filled s ≡ through r = rw (q, expand) at e in let z : ◌≡◌ {A = ℕ} 0 1 = cc in absurd (omega arith)

  -- an expansion that found the table full leaves what every search has
  pub expand_filled : {r : Search} (u n a : ℕ) (s : Search) → Base t nodes s → u < length s.kept → a + n ≤ t.actions → expand t nodes u n a s ≡ filled r → Base t nodes r
  unfolding expand
  expand_filled {r} u zero a s v l h e = let g : through s ≡ filled r = e in let z : ◌≡◌ {A = ℕ} 0 1 = cc in absurd (omega arith)
  expand_filled {r} u (suc n) a s v l h e = go (turn t nodes u a s) refl (λ s'. expand_filled {r = r} u n (a + 1) s')
    where
      go : (x : Turn) → turn t nodes u a s ≡ x
          → ((s' : Search) → Base t nodes s' → u < length s'.kept → a + 1 + n ≤ t.actions → expand t nodes u n (a + 1) s' ≡ filled r → Base t nodes r) → Base t nodes r
      go (on s') q rest =
          let (w, _) = turn_on u a s v l (omega arith) q in
          rest s' w.base (omega (arith, w.grows.more)) (omega arith) (rw (q, expand) at e)
      go full q rest = let g : filled s ≡ filled r = rw (q, expand) at e in let f : s ≡ r = cc in rw f at v

-- ---- waits and choose

module _ (t : Task) (s : Search) where
  -- a node that waits has not been expanded
  pub waits_out : (u : ℕ) → waits t s u ≡ true → get_or s.done u 1 ≡ 0
  unfolding waits
  waits_out u e = eqb-true _ _ (and_out (eqb (get_or s.done u 1) 0) _ e).0

  -- a node that does not wait has been expanded, or its key is not below best
  pub waits_not : (u : ℕ) → waits t s u ≡ false → (get_or s.done u 1 ≢ 0) ⊎ Beaten t s (key t (node_at t s u))
  unfolding waits
  waits_not u e = go (eqb (get_or s.done u 1) 0) refl (below_best t s (key t (node_at t s u))) refl
    where
      go : (a : Bool) → eqb (get_or s.done u 1) 0 ≡ a → (b : Bool) → below_best t s (key t (node_at t s u)) ≡ b
          → (get_or s.done u 1 ≢ 0) ⊎ Beaten t s (key t (node_at t s u))
      go false p b q = inl (eqb-false _ _ p)
      go true p false q = inr q
      go true p true q = absurd (true≢false (sym (and_in p q) ∙ e))

  -- the node chosen waits
  pub choose_some : (i u : ℕ) → choose t s i ≡ suc u → waits t s u ≡ true
  unfolding choose
  choose_some zero u e = absurd (omega arith)
  choose_some (suc i) u e = go (choose t s i) refl (waits t s i) refl (choose_some i)
    where
      new : suc i ≡ suc u → waits t s i ≡ true → waits t s u ≡ true
      new q w = let f : u ≡ i = omega arith in rw f w

      less : (v : ℕ) → choose t s i ≡ suc v → waits t s i ≡ true → (c : Bool) → ltb (key t (node_at t s i)) (key t (node_at t s v)) ≡ c → waits t s v ≡ true
          → waits t s u ≡ true
      less v p q true f w = new (rw (p, q, f, choose) at e) q
      less v p q false f w = let g : suc v ≡ suc u = rw (p, q, f, choose) at e in let h : u ≡ v = omega arith in rw h w

      go : (x : ℕ) → choose t s i ≡ x → (b : Bool) → waits t s i ≡ b → ((v : ℕ) → choose t s i ≡ suc v → waits t s v ≡ true) → waits t s u ≡ true
      go zero p true q r = new (rw (p, q, choose) at e) q
      go zero p false q r = let f : 0 ≡ suc u = rw (p, q, choose) at e in absurd (omega arith)
      go (suc v) p true q r = less v p q (ltb (key t (node_at t s i)) (key t (node_at t s v))) refl (r v p)
      go (suc v) p false q r = let g : suc v ≡ suc u = rw (p, q, choose) at e in let h : u ≡ v = omega arith in rw h (r v p)

  -- where none is chosen, none waits
  pub choose_none : (i : ℕ) → choose t s i ≡ 0 → (u : ℕ) → u < i → waits t s u ≡ false
  unfolding choose
  choose_none zero e u l = absurd (not-suc-le-zero l)
  choose_none (suc i) e u l = go (choose t s i) refl (waits t s i) refl (choose_none i)
    where
      less : (v : ℕ) → choose t s i ≡ suc v → waits t s i ≡ true → (c : Bool) → ltb (key t (node_at t s i)) (key t (node_at t s v)) ≡ c → waits t s u ≡ false
      less v p q true f = let g : suc i ≡ 0 = rw (p, q, f, choose) at e in absurd (omega arith)
      less v p q false f = let g : suc v ≡ 0 = rw (p, q, f, choose) at e in absurd (omega arith)

      last : (u < i) ⊎ (u ≡ i) → waits t s i ≡ false → ((u : ℕ) → u < i → waits t s u ≡ false) → waits t s u ≡ false
      last (inl m) w r = r u m
      last (inr q) w r = rw q w

      go : (x : ℕ) → choose t s i ≡ x → (b : Bool) → waits t s i ≡ b → (choose t s i ≡ 0 → (u : ℕ) → u < i → waits t s u ≡ false) → waits t s u ≡ false
      go zero p true q r = let f : suc i ≡ 0 = rw (p, q, choose) at e in absurd (omega arith)
      go zero p false q r = last (below_cases l) q (r p)
      go (suc v) p true q r = less v p q (ltb (key t (node_at t s i)) (key t (node_at t s v))) refl
      go (suc v) p false q r = let g : suc v ≡ 0 = rw (p, q, choose) at e in absurd (omega arith)
