-- Laws of one leaf in a layer, in a task's own words: settling, starting and passing its prices. Assumes nothing; what needs it says that
-- the task is valid.
use Rattle.std.specs.Prelude.{◌≡◌, ◌⊎◌, Bool, not, ◌&&◌, ltb, eqb, replicate}
use Rattle.std.proofs.Math.Path.{refl, sym}
use Rattle.std.proofs.Common.{◌∙◌, not-suc-le-zero}
use Rattle.std.proofs.Math.Logic.{inl, inr}
use Rattle.std.proofs.Math.Bool.{true, false}
use mathlib.Core.List.{List, [], ◌∷◌, ◌++◌}
use Prim.Native.Nat.{ℕ, zero, suc, ◌+◌, ◌*◌, ◌≤◌, ◌<◌}
use native.Mathlib.Omega.{arith}
use Rattle.std.proofs.Math.ListN.{length, get_or, length-append, length-set, length-replicate, get_or-append}
use Rattle.std.proofs.lemmas.List.{get_or_at}
use Rattle.std.proofs.Math.Seq.{get_or-set_same}
use borrow.Author.Tests.{ltb-true, lt-ltb, eqb-false, ne_eqb, not-true}
use Rattle.loops.specs.Count.Laws.{and_in, and_out, below_cases, any_in, any_out}
use Rattle.task.specs.declared.Task.{Task}
use Rattle.task.specs.declared.Centre.{Centre}
use Rattle.task.specs.Meaning.{initial, factor, condition, cost}
use Rattle.task.specs.Factors.{leaf_action, number, states, to}
use Rattle.task.specs.Centre.{centre_meets}
use Rattle.task.specs.Valid.{dearest, Valid}
use Rattle.task.specs.Star.{number_lt, to_in}
use Rattle.leaf.specs.Price.{mark}
use Rattle.leaf.specs.Settle.Steps.{set_cases, replicate_at}
use Rattle.leaf.specs.Settle.Walks.{Walk, stand, step, Ranged, Capped, Below, Closed}
use Rattle.leaf.specs.Settle.Laws.{settled_length, settled_below, settled_real, settled_bound, settled_floor, settled_closed, settled_mono}
use Rattle.leaf.specs.Pass.Laws.{pass_length, pass_cap, pass_hit, pass_from, pass_mono}
use Rattle.layer.specs.Layer.{enabled_to, enabled, settle_leaf, LeafWalk, start_leaf, pass_leaf, passes}

-- ---- enabled

module _ (t : Task) (l : ℕ) (c : Centre) where
  -- a, below n, is an action of the leaf, and its centre conditions hold
  abbrev Enabled : ℕ → ℕ → Type 0
  Enabled n a = (a < n) × (leaf_action t a l ≡ true) × (centre_meets (factor t) (condition t a) c ≡ true)

  -- the test of an action
  abbrev test : ℕ → Bool
  test a = leaf_action t a l && centre_meets (factor t) (condition t a) c

  -- each entry is such an action below n
  enabled_to_at : (n j : ℕ) → j < length (enabled_to t l c n) → Enabled n (get_or (enabled_to t l c n) j 0)
  unfolding enabled_to
  enabled_to_at zero j h = absurd (not-suc-le-zero h)
  enabled_to_at (suc n) j h = cases (test n) refl h (enabled_to_at n j)
    where
      last : test n ≡ true → (j < length (enabled_to t l c n)) ⊎ (j ≡ length (enabled_to t l c n))
          → (j < length (enabled_to t l c n) → Enabled n (get_or (enabled_to t l c n) j 0))
          → Enabled (suc n) (get_or (enabled_to t l c n ++ (n ∷ [])) j 0)
      last e (inl h) r = let w = r h in rw (get_or-append (enabled_to t l c n) (n ∷ []) 0 j h) (omega arith, w.1, w.2)
      last e (inr q) r =
          let w = and_out (leaf_action t n l) _ e in
          rw (get_or_at (enabled_to t l c n) n [] 0 j (sym q)) (omega arith, w.0, w.1)

      cases : (b : Bool) → test n ≡ b → j < length (enabled_to t l c (suc n))
          → (j < length (enabled_to t l c n) → Enabled n (get_or (enabled_to t l c n) j 0)) → Enabled (suc n) (get_or (enabled_to t l c (suc n)) j 0)
      cases true e h r = rw e (last e (below_cases (omega (arith, simp (e, length-append) at h))) r)
      cases false e h r = let w = r (rw e at h) in rw e (omega arith, w.1, w.2)

  -- each entry is an action of the leaf whose centre conditions hold
  pub enabled_at : (j : ℕ) → j < length (enabled t l c)
      → (get_or (enabled t l c) j 0 < t.actions) × (leaf_action t (get_or (enabled t l c) j 0) l ≡ true) × (centre_meets (factor t) (condition t (get_or (enabled t l c) j 0)) c ≡ true)
  enabled_at j h = enabled_to_at t.actions j h

  -- each such action below n is an entry
  enabled_to_find : (n a : ℕ) → Enabled n a → (j : ℕ) × (j < length (enabled_to t l c n)) × (get_or (enabled_to t l c n) j 0 ≡ a)
  unfolding enabled_to
  enabled_to_find zero a h = absurd (not-suc-le-zero h.0)
  enabled_to_find (suc n) a h = cases (below_cases h.0) (λ h'. enabled_to_find n a (h', h.1, h.2))
    where
      old : (j : ℕ) → j < length (enabled_to t l c n) → get_or (enabled_to t l c n) j 0 ≡ a → (b : Bool) → test n ≡ b
          → (k : ℕ) × (k < length (enabled_to t l c (suc n))) × (get_or (enabled_to t l c (suc n)) k 0 ≡ a)
      old j i q true e = rw e (j, simp length-append (omega arith), get_or-append (enabled_to t l c n) (n ∷ []) 0 j i ∙ q)
      old j i q false e = rw e (j, i, q)

      cases : (a < n) ⊎ (a ≡ n) → (a < n → (j : ℕ) × (j < length (enabled_to t l c n)) × (get_or (enabled_to t l c n) j 0 ≡ a))
          → (k : ℕ) × (k < length (enabled_to t l c (suc n))) × (get_or (enabled_to t l c (suc n)) k 0 ≡ a)
      cases (inl h') r = let (j, i, q) = r h' in old j i q (test n) refl
      cases (inr q) r =
          let e : test n ≡ true = rw (← q) (and_in h.1 h.2) in
          rw e (length (enabled_to t l c n), simp length-append (omega arith), get_or_at (enabled_to t l c n) n [] 0 _ refl ∙ sym q)

  -- each action of the leaf whose centre conditions hold is an entry
  pub enabled_find : (a : ℕ) → a < t.actions → leaf_action t a l ≡ true → centre_meets (factor t) (condition t a) c ≡ true
      → (j : ℕ) × (j < length (enabled t l c)) × (get_or (enabled t l c) j 0 ≡ a)
  enabled_find a h e m = enabled_to_find t.actions a (h, e, m)

-- ---- settle_leaf

-- what the entries of the enabled actions cost, and what they make of a state
abbrev costs : Task → ℕ → Centre → ℕ → ℕ
costs t l c j = cost t (get_or (enabled t l c) j 0)

abbrev moves : Task → ℕ → Centre → ℕ → ℕ → ℕ
moves t l c j x = to t l (get_or (enabled t l c) j 0) x

module _ (t : Task) (l : ℕ) (c : Centre) (P : List ℕ) where
  -- settling keeps the count of states
  pub leaf_length : length (settle_leaf t l c P) ≡ length P
  unfolding settle_leaf
  leaf_length = settled_length mark (length (enabled t l c)) _ _ P

  -- no price rises
  pub leaf_below : Below mark (settle_leaf t l c P) P
  unfolding settle_leaf
  leaf_below = settled_below mark (length (enabled t l c)) _ _ P

  -- where no start price is below b, no price is
  pub leaf_floor : (b : ℕ) → ((u : ℕ) → b ≤ get_or P u mark) → (u : ℕ) → b ≤ get_or (settle_leaf t l c P) u mark
  unfolding settle_leaf
  leaf_floor b = settled_floor mark (length (enabled t l c)) _ _ b P

  -- a walk of enabled actions is a walk of the leaf
  leaf_walk : {x y w : ℕ} → Walk (length (enabled t l c)) (costs t l c) (moves t l c) x y w → LeafWalk t l c x y w
  leaf_walk stand = LeafWalk.stay
  leaf_walk (step j r h e) = let (la, el, ec) = enabled_at t l c j h in LeafWalk.go (get_or (enabled t l c) j 0) (leaf_walk r) la el ec e refl

  -- a price below the mark is what a walk costs, added to the start price, below the mark, of the state where it begins
  pub leaf_real : (y : ℕ) → get_or (settle_leaf t l c P) y mark < mark
      → (x : ℕ) × (w : ℕ) × (get_or P x mark < mark) × LeafWalk t l c x y w × (get_or P x mark + w ≡ get_or (settle_leaf t l c P) y mark)
  unfolding settle_leaf
  leaf_real y h =
      let r = settled_real mark (length (enabled t l c)) _ _ P y h in
      (r.from, r.toll, omega (arith, r.sum), leaf_walk r.walk, sym r.sum)

module _ (t : Task) (ok : Valid t) where
  -- a walk that begins in range ends there
  pub leaf_walk_in : {l : ℕ} {c : Centre} {x y w : ℕ} → x < states t l → LeafWalk t l c x y w → y < states t l
  leaf_walk_in h LeafWalk.stay = h
  leaf_walk_in {l} h (LeafWalk.go a r la el ec e k) = to_in t ok l a _ _ la e

  -- the enabled actions stay in range
  enabled_ranged : (l : ℕ) (c : Centre) → Ranged (states t l) (length (enabled t l c)) (moves t l c)
  enabled_ranged l c j x y h _ e = to_in t ok l _ x y (enabled_at t l c j h).0 e

  module _ (l : ℕ) (c : Centre) (P : List ℕ) (len : length P ≡ states t l) (cap : Capped mark P) where
    -- no enabled action leads to a state at less than its price
    pub leaf_closed : (x a y : ℕ) → x < states t l → a < t.actions → leaf_action t a l ≡ true → centre_meets (factor t) (condition t a) c ≡ true
        → to t l a x ≡ suc y → get_or (settle_leaf t l c P) y mark ≤ get_or (settle_leaf t l c P) x mark + cost t a
    unfolding settle_leaf Closed
    leaf_closed x a y h la el ec e =
        let (j, i, q) = enabled_find t l c a la el ec in
        rw q at (settled_closed mark (states t l) (length (enabled t l c)) (costs t l c) (moves t l c) (enabled_ranged l c) P len cap x j y h i (rw q e))

    -- no walk leads from a state to another for less than its settled price, counted from the start price
    pub leaf_least : {x y w : ℕ} → x < states t l → LeafWalk t l c x y w → get_or (settle_leaf t l c P) y mark ≤ get_or P x mark + w
    leaf_least {x} h LeafWalk.stay = omega (arith, leaf_below t l c P x)
    leaf_least h (LeafWalk.go a r la el ec e k) = omega (arith, leaf_least h r, leaf_closed _ a _ (leaf_walk_in h r) la el ec e)

  -- lower start prices settle at lower prices
  pub leaf_mono : (l : ℕ) (c : Centre) (P R : List ℕ) → length P ≡ states t l → length R ≡ states t l → Capped mark P → Below mark P R
      → Below mark (settle_leaf t l c P) (settle_leaf t l c R)
  unfolding settle_leaf
  leaf_mono l c P R len len' cap h = settled_mono mark (states t l) (length (enabled t l c)) (costs t l c) (moves t l c) (enabled_ranged l c) P R len len' cap h

  -- start prices of B at most: no price below the mark is above B and one cost for each state
  pub leaf_bound : (i : ℕ) (c : Centre) (B : ℕ) (P : List ℕ) → i < t.leaves → length P ≡ states t (suc i)
      → ((u : ℕ) → get_or P u mark < mark → get_or P u mark ≤ B)
      → (u : ℕ) → get_or (settle_leaf t (suc i) c P) u mark < mark → get_or (settle_leaf t (suc i) c P) u mark ≤ B + 256 * dearest
  unfolding settle_leaf
  leaf_bound i c B P l len b u h =
      let r = settled_bound mark (length (enabled t (suc i) c)) _ _ B dearest P (λ j k. ok.fields.cost_bound _ (enabled_at t (suc i) c j k).0) b u h in
      omega (arith, ok.whole.few_states i l)

-- ---- start_leaf

module _ (t : Task) (l : ℕ) where
  -- there are as many prices as states
  pub start_leaf_length : length (start_leaf t l) ≡ states t l
  unfolding start_leaf
  start_leaf_length = length-set (replicate (states t l) mark) (number t l (initial t)) 0 ∙ length-replicate (states t l) mark

  -- a price is the mark, or it is that of the initial state and is 0
  pub start_leaf_cases : (u : ℕ) → (get_or (start_leaf t l) u mark ≡ mark) ⊎ ((u ≡ number t l (initial t)) × (get_or (start_leaf t l) u mark ≡ 0))
  unfolding start_leaf
  start_leaf_cases u = of (set_cases (replicate (states t l) mark) (number t l (initial t)) 0 u mark)
    where
      of : {q : ℕ} → (q ≡ get_or (replicate (states t l) mark) u mark) ⊎ ((u ≡ number t l (initial t)) × (q ≡ 0)) → (q ≡ mark) ⊎ ((u ≡ number t l (initial t)) × (q ≡ 0))
      of (inl e) = inl (e ∙ replicate_at (states t l) mark u)
      of (inr h) = inr h

  -- no price is above the mark
  pub start_leaf_cap : Capped mark (start_leaf t l)
  start_leaf_cap u = of (start_leaf_cases u)
    where
      of : {q : ℕ} → (q ≡ mark) ⊎ ((u ≡ number t l (initial t)) × (q ≡ 0)) → q ≤ mark
      of (inl e) = omega arith
      of (inr h) = omega arith

  -- the price of the initial state is 0
  pub start_leaf_at : Valid t → get_or (start_leaf t l) (number t l (initial t)) mark ≡ 0
  unfolding start_leaf
  start_leaf_at ok =
      get_or-set_same (replicate (states t l) mark) (number t l (initial t)) 0 mark (rw length-replicate (number_lt t l ok.fields.initial_inside))

-- ---- pass_leaf

module _ (t : Task) (l a : ℕ) (P : List ℕ) where
  -- there are as many prices as states
  pub pass_leaf_length : length (pass_leaf t l a P) ≡ states t l
  unfolding pass_leaf
  pass_leaf_length = pass_length mark (states t l) (to t l a) P (states t l)

  -- no price is above the mark
  pub pass_leaf_cap : Capped mark (pass_leaf t l a P)
  unfolding pass_leaf
  pass_leaf_cap = pass_cap mark (states t l) (to t l a) P (states t l)

  -- what the action makes of a state has the state's price at most
  pub pass_leaf_hit : Valid t → (x y : ℕ) → a < t.actions → x < states t l → to t l a x ≡ suc y → get_or (pass_leaf t l a P) y mark ≤ get_or P x mark
  unfolding pass_leaf
  pass_leaf_hit ok x y la h e = pass_hit mark (states t l) (to t l a) P (states t l) x y (to_in t ok l a x y la e) h e

  -- a price below the mark is that of a state which came through
  pub pass_leaf_from : (y : ℕ) → get_or (pass_leaf t l a P) y mark < mark
      → (x : ℕ) × (x < states t l) × (to t l a x ≡ suc y) × (get_or (pass_leaf t l a P) y mark ≡ get_or P x mark)
  unfolding pass_leaf
  pass_leaf_from = pass_from mark (states t l) (to t l a) P (states t l)

  -- lower prices pass at lower prices
  pub pass_leaf_mono : Valid t → (R : List ℕ) → a < t.actions → ((x : ℕ) → x < states t l → get_or P x mark ≤ get_or R x mark)
      → Below mark (pass_leaf t l a P) (pass_leaf t l a R)
  unfolding pass_leaf
  pass_leaf_mono ok R la h = pass_mono mark (states t l) (to t l a) P R (λ x y _ e. to_in t ok l a x y la e) h

-- ---- passes

module _ (t : Task) (l a : ℕ) (P : List ℕ) where
  -- one reachable state that the action takes somewhere
  pub passes_in : (x y : ℕ) → x < states t l → get_or P x mark < mark → to t l a x ≡ suc y → passes t l a P ≡ true
  unfolding passes
  passes_in x y h p e = any_in (states t l) _ x h (and_in (lt-ltb (get_or P x mark) mark p) (rw (ne_eqb (to t l a x) 0 (λ q. omega arith))))

  -- where the test passes, there is such a state
  pub passes_out : passes t l a P ≡ true → (x : ℕ) × (y : ℕ) × (x < states t l) × (get_or P x mark < mark) × (to t l a x ≡ suc y)
  unfolding passes
  passes_out e =
      let (x, (h, q)) = any_out (states t l) _ e in
      of x h (and_out (ltb (get_or P x mark) mark) _ q) (to t l a x) refl
    where
      of : (x : ℕ) → x < states t l → (ltb (get_or P x mark) mark ≡ true) × (not (eqb (to t l a x) 0) ≡ true) → (z : ℕ) → to t l a x ≡ z
          → (x : ℕ) × (y : ℕ) × (x < states t l) × (get_or P x mark < mark) × (to t l a x ≡ suc y)
      of x h q zero f = absurd (eqb-false (to t l a x) 0 (not-true _ q.1) f)
      of x h q (suc y) f = (x, y, h, ltb-true (get_or P x mark) mark q.0, f)
