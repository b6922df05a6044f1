-- Laws of the steps of settling: lowering one price, picking a state, lowering what a state's actions make of it. Assumes nothing.
use Rattle.std.specs.Prelude.{◌≡◌, ◌≢◌, ◌⊎◌, Bool, true, false, List, [], ◌∷◌, ltb, length, set, replicate}
use Rattle.std.proofs.Math.Path.{refl}
use Rattle.std.proofs.Common.{ap, ◌∙◌, not-suc-le-zero, arith, length-set, get_or-set_same, ltb-true, ltb-false}
use Rattle.std.proofs.Math.Logic.{inl, inr}
use Prim.Native.Nat.{ℕ, zero, suc, ◌+◌, ◌≤◌, ◌<◌, min}
use Rattle.std.proofs.Math.Decide.{dec_le}
use Rattle.std.proofs.Math.ListN.{get_or, get_or-eq_default}
use Rattle.std.proofs.lemmas.List.{length-replicate, get_or-replicate}
use Rattle.loops.specs.Count.Laws.{below_cases}
use Rattle.leaf.specs.Settle.{lower, key, key_at, key_of, pick, relax}

-- ---- numbers and lists

-- what holds below i and at i holds below i + 1
pub below_suc : (Q : ℕ → Type 0) (i : ℕ) → ((u : ℕ) → u < i → Q u) → Q i → (u : ℕ) → u < suc i → Q u
below_suc Q i f q u h = go (below_cases h)
  where
    go : (u < i) ⊎ (u ≡ i) → Q u
    go (inl l) = f u l
    go (inr e) = rw e q

-- an entry after one is set: as before, or the one that was set
pub set_cases : (P : List ℕ) (x w u d : ℕ) → (get_or (set P x w) u d ≡ get_or P u d) ⊎ ((u ≡ x) × (get_or (set P x w) u d ≡ w))
set_cases [] x w u d = inl refl
set_cases (p ∷ P) zero w zero d = inr (refl, refl)
set_cases (p ∷ P) zero w (suc u) d = inl refl
set_cases (p ∷ P) (suc x) w zero d = inl refl
set_cases (p ∷ P) (suc x) w (suc u) d = go (set_cases P x w u d)
  where
    go : (get_or (set P x w) u d ≡ get_or P u d) ⊎ ((u ≡ x) × (get_or (set P x w) u d ≡ w))
        → (get_or (set P x w) u d ≡ get_or P u d) ⊎ ((suc u ≡ suc x) × (get_or (set P x w) u d ≡ w))
    go (inl e) = inl e
    go (inr (e, f)) = inr (ap suc e, f)

-- a list of one number has it everywhere, also behind its end
pub replicate_at : (n d u : ℕ) → get_or (replicate n d) u d ≡ d
replicate_at n d u = go (dec_le (suc u) n)
  where
    go : Dec (u < n) → get_or (replicate n d) u d ≡ d
    go (yes h) = get_or-replicate n u d d h
    go (no h) = get_or-eq_default (replicate n d) d (omega (arith, length-replicate n d))

-- a state with a price below M is one of the list's
pub price_in_lem : (M : ℕ) (P : List ℕ) (u : ℕ) → get_or P u M < M → u < length P
price_in_lem M P u h = go (dec_le (suc u) (length P))
  where
    go : Dec (u < length P) → u < length P
    go (yes l) = l
    go (no l) = absurd (omega (arith, get_or-eq_default P M {n = u} (omega arith)))

-- ---- lower

-- the count of states stays
pub lower_length : (M : ℕ) (P : List ℕ) (k v : ℕ) → length (lower M P k v) ≡ length P
unfolding lower
lower_length M P zero v = refl
lower_length M P (suc x) v = length-set P x _

-- the price of u afterwards: as before, or v, which is no higher
pub lower_from : (M : ℕ) (P : List ℕ) (k v u : ℕ)
    → (get_or (lower M P k v) u M ≡ get_or P u M) ⊎ ((k ≡ suc u) × (get_or (lower M P k v) u M ≡ v) × (v ≤ get_or P u M))
unfolding lower
lower_from M P zero v u = inl refl
lower_from M P (suc x) v u = go (set_cases P x (min (get_or P x M) v) u M) (dec_le v (get_or P u M))
  where
    go : (get_or (lower M P (suc x) v) u M ≡ get_or P u M) ⊎ ((u ≡ x) × (get_or (lower M P (suc x) v) u M ≡ min (get_or P x M) v)) → Dec (v ≤ get_or P u M)
        → (get_or (lower M P (suc x) v) u M ≡ get_or P u M) ⊎ ((suc x ≡ suc u) × (get_or (lower M P (suc x) v) u M ≡ v) × (v ≤ get_or P u M))
    go (inl e) d = inl e
    go (inr (e, f)) (yes h) = let q = ap (λ z. get_or P z M) e in inr (omega arith, omega arith, h)
    go (inr (e, f)) (no h) = let q = ap (λ z. get_or P z M) e in inl (omega arith)

-- no price rises
pub lower_below : (M : ℕ) (P : List ℕ) (k v u : ℕ) → get_or (lower M P k v) u M ≤ get_or P u M
lower_below M P k v u = go (lower_from M P k v u)
  where
    go : {q r : ℕ} → (q ≡ r) ⊎ ((k ≡ suc u) × (q ≡ v) × (v ≤ r)) → q ≤ r
    go (inl e) = omega arith
    go (inr h) = omega arith

-- the price of the state itself is v at most
pub lower_hit : (M : ℕ) (P : List ℕ) (x v : ℕ) → x < length P → get_or (lower M P (suc x) v) x M ≤ v
unfolding lower
lower_hit M P x v h = omega (arith, get_or-set_same P x (min (get_or P x M) v) M h)

-- ---- key_at

-- the key of an open state is its price, that of a settled one is M
pub key_at_cases : (M : ℕ) (P D : List ℕ) (u : ℕ) → ((get_or D u 0 ≡ 0) × (key_at M P D u ≡ get_or P u M)) ⊎ ((get_or D u 0 ≢ 0) × (key_at M P D u ≡ M))
unfolding key_at key
key_at_cases M P D u = go (get_or D u 0) refl
  where
    go : (f : ℕ) → get_or D u 0 ≡ f → ((get_or D u 0 ≡ 0) × (key_at M P D u ≡ get_or P u M)) ⊎ ((get_or D u 0 ≢ 0) × (key_at M P D u ≡ M))
    go zero e = inl (e, rw e)
    go (suc f) e = inr (omega arith, rw e)

-- behind the lists' ends the key is M
pub key_at_out : (M : ℕ) (P D : List ℕ) (u : ℕ) → length P ≤ u → length D ≤ u → key_at M P D u ≡ M
unfolding key_at key
key_at_out M P D u h g = rw (get_or-eq_default D 0 g, get_or-eq_default P M h)

-- ---- pick

-- the pick's key is M at most, and no state's key is lower
pub pick_low : (M : ℕ) (P D : List ℕ) (i : ℕ) → (key_of M P D (pick M P D i) ≤ M) × ((u : ℕ) → u < i → key_of M P D (pick M P D i) ≤ key_at M P D u)
unfolding pick key_of
pick_low M P D zero = (omega arith, λ u h. omega arith)
pick_low M P D (suc i) = go _ refl (pick_low M P D i)
  where
    go : (b : Bool) → ltb (key_at M P D i) (key_of M P D (pick M P D i)) ≡ b
        → (key_of M P D (pick M P D i) ≤ M) × ((u : ℕ) → u < i → key_of M P D (pick M P D i) ≤ key_at M P D u)
        → (key_of M P D (pick M P D (suc i)) ≤ M) × ((u : ℕ) → u < suc i → key_of M P D (pick M P D (suc i)) ≤ key_at M P D u)
    go true e h = rw e (omega (arith, ltb-true), below_suc _ i (λ u g. omega (arith, ltb-true, h.1 u g)) (omega arith))
    go false e h = rw e (omega arith, below_suc _ i h.1 (omega (arith, ltb-false)))

-- a state that is picked is in range, and its key is below M
pub pick_in : (M : ℕ) (P D : List ℕ) (i x : ℕ) → pick M P D i ≡ suc x → (x < i) × (key_at M P D x < M)
unfolding pick key_of
pick_in M P D zero x e = omega arith
pick_in M P D (suc i) x e = go _ refl (λ e'. pick_in M P D i x e')
  where
    go : (b : Bool) → ltb (key_at M P D i) (key_of M P D (pick M P D i)) ≡ b
        → (pick M P D i ≡ suc x → (x < i) × (key_at M P D x < M)) → (x < suc i) × (key_at M P D x < M)
    go true f rec =
        let q : suc i ≡ suc x = rw f at e in
        let z : i ≡ x = omega arith in
        rw (← z) (omega arith, omega (arith, ltb-true, (pick_low M P D i).0))
    go false f rec = let r = rec (rw f at e) in (omega arith, r.1)

-- its key is the least of all
pub pick_least : (M : ℕ) (P D : List ℕ) (x u : ℕ) → length D ≡ length P → pick M P D (length P) ≡ suc x → key_at M P D x ≤ key_at M P D u
unfolding key_of
pick_least M P D x u l e = go (dec_le (suc u) (length P))
  where
    go : Dec (u < length P) → key_at M P D x ≤ key_at M P D u
    go (yes h) = rw e at ((pick_low M P D (length P)).1 u h)
    go (no h) = omega (arith, key_at_out M P D u (omega arith) (omega arith), pick_in M P D (length P) x e)

-- what a picked state is: open, with a price below M that is the least key
pub record Picked (M : ℕ) (P D : List ℕ) (x : ℕ) : Type 0 where
  pub inside : x < length P
  pub is_open : get_or D x 0 ≡ 0
  pub is_key : key_at M P D x ≡ get_or P x M
  pub some : get_or P x M < M
  pub least : (u : ℕ) → get_or P x M ≤ key_at M P D u

-- a state that is picked is such a state
pub pick_some : (M : ℕ) (P D : List ℕ) (x : ℕ) → length D ≡ length P → pick M P D (length P) ≡ suc x → Picked M P D x
pick_some M P D x l e = go (key_at_cases M P D x) (pick_in M P D (length P) x e)
  where
    go : ((get_or D x 0 ≡ 0) × (key_at M P D x ≡ get_or P x M)) ⊎ ((get_or D x 0 ≢ 0) × (key_at M P D x ≡ M)) → (x < length P) × (key_at M P D x < M) → Picked M P D x
    go (inl (o, k)) (b, c) = record { inside = b; is_open = o; is_key = k; some = omega arith; least = λ u. omega (arith, pick_least M P D x u l e) }
    go (inr (o, k)) (b, c) = absurd (omega arith)

-- where none is picked, no key is below M
pub pick_none : (M : ℕ) (P D : List ℕ) (u : ℕ) → length D ≡ length P → pick M P D (length P) ≡ zero → M ≤ key_at M P D u
unfolding key_of
pick_none M P D u l e = go (dec_le (suc u) (length P))
  where
    go : Dec (u < length P) → M ≤ key_at M P D u
    go (yes h) = rw e at ((pick_low M P D (length P)).1 u h)
    go (no h) = omega (arith, key_at_out M P D u (omega arith) (omega arith))

-- ---- relax

-- u has its price p from x, whose price is d, by an action below i
pub record Hit (cost : ℕ → ℕ) (to : ℕ → ℕ → ℕ) (x d i u p : ℕ) : Type 0 where
  pub act : ℕ
  pub below : act < i
  pub leads : to act x ≡ suc u
  pub price : p ≡ d + cost act

module _ (M : ℕ) (cost : ℕ → ℕ) (to : ℕ → ℕ → ℕ) where
  -- the count of states stays
  pub relax_length : (x d : ℕ) (P : List ℕ) (i : ℕ) → length (relax M cost to x d P i) ≡ length P
  unfolding relax
  relax_length x d P zero = refl
  relax_length x d P (suc i) = lower_length M _ (to i x) (d + cost i) ∙ relax_length x d P i

  -- the price of u afterwards: as before, or one from x, which is no higher
  pub relax_from : (x d : ℕ) (P : List ℕ) (i u : ℕ)
      → (get_or (relax M cost to x d P i) u M ≡ get_or P u M)
      ⊎ (Hit cost to x d i u (get_or (relax M cost to x d P i) u M) × (get_or (relax M cost to x d P i) u M ≤ get_or P u M))
  unfolding relax
  relax_from x d P zero u = inl refl
  relax_from x d P (suc i) u = go (lower_from M (relax M cost to x d P i) (to i x) (d + cost i) u) (relax_from x d P i u)
    where
      go : {p q r : ℕ} → (q ≡ p) ⊎ ((to i x ≡ suc u) × (q ≡ d + cost i) × (d + cost i ≤ p))
          → (p ≡ r) ⊎ (Hit cost to x d i u p × (p ≤ r))
          → (q ≡ r) ⊎ (Hit cost to x d (suc i) u q × (q ≤ r))
      go (inl e) (inl f) = inl (e ∙ f)
      go (inl e) (inr (h, l)) = inr (record { act = h.act; below = omega (arith, h.below); leads = h.leads; price = e ∙ h.price }, omega arith)
      go (inr (t, e, l)) (inl f) = inr (record { act = i; below = omega arith; leads = t; price = e }, omega arith)
      go (inr (t, e, l)) (inr (h, g)) = inr (record { act = i; below = omega arith; leads = t; price = e }, omega arith)

  -- no price rises
  pub relax_below : (x d : ℕ) (P : List ℕ) (i u : ℕ) → get_or (relax M cost to x d P i) u M ≤ get_or P u M
  relax_below x d P i u = go (relax_from x d P i u)
    where
      go : {q r : ℕ} → (q ≡ r) ⊎ (Hit cost to x d i u q × (q ≤ r)) → q ≤ r
      go (inl e) = omega arith
      go (inr (h, l)) = l

  -- no price falls below that of x
  pub relax_above : (x d : ℕ) (P : List ℕ) (i u : ℕ) → min (get_or P u M) d ≤ get_or (relax M cost to x d P i) u M
  relax_above x d P i u = go (relax_from x d P i u)
    where
      go : {q r : ℕ} → (q ≡ r) ⊎ (Hit cost to x d i u q × (q ≤ r)) → min r d ≤ q
      go (inl e) = omega arith
      go (inr (h, l)) = omega (arith, h.price)

  -- what an action makes of x costs no more than x and the action
  pub relax_hit : (x d : ℕ) (P : List ℕ) (i a y : ℕ) → y < length P → a < i → to a x ≡ suc y → get_or (relax M cost to x d P i) y M ≤ d + cost a
  unfolding relax
  relax_hit x d P zero a y h l e = absurd (not-suc-le-zero l)
  relax_hit x d P (suc i) a y h l e =
      below_suc (λ b. to b x ≡ suc y → get_or (relax M cost to x d P (suc i)) y M ≤ d + cost b) i
      (λ b g f. omega (arith, relax_hit x d P i b y h g f, lower_below M (relax M cost to x d P i) (to i x) (d + cost i) y))
      (λ f. rw f (lower_hit M _ y (d + cost i) (rw (relax_length x d P i) h))) a l e
