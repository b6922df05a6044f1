-- An action that applies acts on the centre and on each leaf's number, and back: whether it applies, and what comes of it, is seen
-- from the centre state and the leaves' numbers alone. All of it follows from the definitions and `Valid`.
use Rattle.std.specs.Prelude.{◌≡◌, ◌≢◌, ◌⊎◌, Bool, ◌&&◌, ltb}
use Rattle.std.proofs.Math.Path.{refl, sym, ap}
use Rattle.std.proofs.Common.{◌∙◌, inl, inr, true≢false, arith}
use Rattle.std.proofs.Math.Bool.{true, false, cond}
use Prim.Native.Nat.{ℕ, zero, suc, ◌≤◌, ◌<◌}
use Rattle.std.proofs.Math.Decide.{ℕ_discrete, dec_lt}
use Rattle.std.proofs.Math.Dec.{eqb}
use Rattle.std.proofs.lemmas.List.{get_or-replicate}
use borrow.Author.Tests.{ltb-true, lt-ltb, eqb-true, eqb-false, eq-eqb, ne_eqb}
use Rattle.loops.specs.Count.Laws.{and_in, and_out, test_cases, any_out, list_ext}
use Rattle.task.specs.declared.Task.{Task}
use Rattle.task.specs.declared.Centre.{Centre}
use Rattle.task.specs.Meaning.{State, Partial, free, size, factor, initial, goal, condition, effect, holds, put, applies, outcome}
use Rattle.task.specs.Factors.{named, touches, within, leaf_pairs, centre_action, leaf_action, number, states, values_of, meets_in, to, assemble}
use Rattle.task.specs.Centre.{value_in, blank_centre, centre_of, centre_after, centre_meets, centre}
use Rattle.task.specs.Valid.{PairIn, Inside, Valid}
use Rattle.task.specs.Pairs.{within_out, holds_ext, holds_free, holds_split, holds_join, holds_rest, centre_value, centre_ext, centre_put, gate_in, gate_out}
use Rattle.task.specs.Radix.{num_lt, num_ext, dig_num, dig_lt, num_dig}

-- ---- of any task

module _ (t : Task) where
  -- ---- leaf states and their numbers

  -- a leaf state's number is below the count of its states
  pub number_lt : {s : State} (l : ℕ) → Inside t s → number t l s < states t l
  unfolding number states
  number_lt {s} l h = num_lt (factor t) (size t) l s t.variables (λ v m f. h v m)

  -- the values of a leaf state's number are the state's
  pub value_number : {s : State} (l v : ℕ) → Inside t s → v < t.variables → factor t v ≡ l → values_of t l (number t l s) v ≡ s v
  unfolding number values_of
  value_number {s} l v h m f = dig_num (factor t) (size t) l s v t.variables m f (λ w k _. h w k)

  -- a state put together has the centre state that went in
  pub centre_assemble : (c : State) (xs : ℕ → ℕ) → centre t (assemble t c xs) ≡ centre t c
  unfolding assemble
  centre_assemble c xs = centre_ext (factor t) _ _ (λ v l f. rw (eq-eqb (factor t v) 0 f))

  -- a state put together has the leaf states that went in
  pub number_assemble : (c : State) (xs : ℕ → ℕ) (i : ℕ) → xs (suc i) < states t (suc i) → number t (suc i) (assemble t c xs) ≡ xs (suc i)
  unfolding assemble number states values_of
  number_assemble c xs i h =
      num_ext (factor t) (size t) (suc i) _ _ t.variables (λ v l f. rw (ne_eqb (factor t v) 0 (λ q. omega arith), f)) ∙ num_dig (factor t) (size t) (suc i) (xs (suc i)) t.variables h

  -- ---- conditions and effects, seen from the centre state and the leaves' numbers

  -- a variable of the centre has its value in the centre state
  pub centre_at : (s : State) (v : ℕ) → v < 32 → factor t v ≡ 0 → value_in (centre t s) v ≡ s v
  centre_at s = centre_value (factor t) s

  -- the centre state takes an action's effects
  pub centre_next : (s : State) (a : ℕ) → centre t (outcome t a s) ≡ centre_after (factor t) (effect t a) (centre t s)
  centre_next s a = centre_put (factor t) (effect t a) s

  -- pairs on a leaf are seen from the leaf's number
  pub leaf_meets : {s : State} (l : ℕ) (p : Partial) → Inside t s → meets_in t l p (values_of t l (number t l s)) ≡ meets_in t l p s
  unfolding meets_in
  leaf_meets {s} l p h = holds_ext t.variables (factor t) l p _ s (λ v m f. value_number l v h m f)

  -- a leaf's next state is seen from the leaf's number
  pub leaf_next : {s : State} (l : ℕ) (q : Partial) → Inside t s → number t l (put q (values_of t l (number t l s))) ≡ number t l (put q s)
  unfolding number
  leaf_next {s} l q h = num_ext (factor t) (size t) l _ _ t.variables (λ v m f. ap (λ (x : ℕ). cond (eqb (q v) free) x (q v)) (value_number l v h m f))

  -- ---- a leaf action

  -- a leaf action names no variable outside its leaf as an effect
  pub leaf_effect : (a l : ℕ) → leaf_action t a l ≡ true → (v : ℕ) → v < t.variables → factor t v ≢ l → effect t a v ≡ free
  unfolding leaf_action leaf_pairs
  leaf_effect a l e v m d = within_out t.variables (factor t) l l (effect t a) (and_out _ _ e).0 v m d d

  -- a leaf action names no variable outside its leaf and the centre as a condition
  pub leaf_condition : (a l : ℕ) → leaf_action t a l ≡ true → (v : ℕ) → v < t.variables → factor t v ≢ l → factor t v ≢ 0 → condition t a v ≡ free
  unfolding leaf_action leaf_pairs
  leaf_condition a l e = within_out t.variables (factor t) l 0 (condition t a) (and_out (within t.variables (factor t) l l (effect t a)) _ e).1

  -- what a leaf action names as an effect is in its leaf
  pub leaf_named : (a l : ℕ) → leaf_action t a l ≡ true → (v : ℕ) → v < t.variables → named (effect t a v) ≡ true → factor t v ≡ l
  leaf_named a l e v m w = go (ℕ_discrete (factor t v) l)
    where
      go : Dec (factor t v ≡ l) → factor t v ≡ l
      go (yes q) = q
      go (no d) = absurd (true≢false (sym w ∙ rw (leaf_effect a l e v m d)))

  -- a leaf action is no centre action
  pub leaf_not_centre : (a i : ℕ) → leaf_action t a (suc i) ≡ true → centre_action t a ≡ false
  unfolding centre_action touches
  leaf_not_centre a i e = go (test_cases (centre_action t a))
    where
      go : (centre_action t a ≡ true) ⊎ (centre_action t a ≡ false) → centre_action t a ≡ false
      go (inl q) =
          let w = any_out t.variables _ q in
          let u = and_out (eqb (factor t w.0) 0) (named (effect t a w.0)) w.1.1 in
          let f = eqb-true (factor t w.0) 0 u.0 in
          let f' = leaf_named a (suc i) e w.0 w.1.0 u.1 in
          absurd (omega arith)
      go (inr q) = q

  -- a leaf action leaves every other leaf in its state
  pub leaf_other : (s : State) (a i j : ℕ) → leaf_action t a (suc i) ≡ true → j ≢ i → number t (suc j) (outcome t a s) ≡ number t (suc j) s
  unfolding number
  leaf_other s a i j e d = num_ext (factor t) (size t) (suc j) _ _ t.variables (λ v l f. rw (leaf_effect a (suc i) e v l (λ q. omega arith)))

  -- its conditions hold in every state of every other leaf, and it leaves the leaf there
  pub to_still : (a i j x : ℕ) → leaf_action t a (suc i) ≡ true → j ≢ i → x < states t (suc j) → to t (suc j) a x ≡ suc x
  unfolding to meets_in number states values_of
  to_still a i j x e d l =
      gate_in _ _ (holds_free t.variables (factor t) (suc j) (condition t a) _ (λ v m f. leaf_condition a (suc i) e v m (λ q. omega arith) (λ q. omega arith)))
      ∙ ap suc (leaf_other (values_of t (suc j) x) a i j e d ∙ num_dig (factor t) (size t) (suc j) x t.variables l)

-- ---- of a valid task

module _ (t : Task) (ok : Valid t) where
  -- ---- states by their centre state and leaf states

  -- an action leaves a value inside its size
  pub outcome_at : (s : State) (a v : ℕ) → a < t.actions → v < t.variables → s v < size t v → outcome t a s v < size t v
  outcome_at s a v la l h = go (ok.fields.effect_in a la v l) _ refl
    where
      go : PairIn (size t v) (effect t a v) → (b : Bool) → eqb (effect t a v) free ≡ b → outcome t a s v < size t v
      go k true e = rw e h
      go (inl q) false e = absurd (eqb-false (effect t a v) free e q)
      go (inr m) false e = rw e m

  -- an action leaves every value inside its size
  pub outcome_inside : {s : State} (a : ℕ) → a < t.actions → Inside t s → Inside t (outcome t a s)
  outcome_inside {s} a la h v l = outcome_at s a v la l (h v l)

  -- a leaf state's values are inside their sizes
  pub values_inside : (l x v : ℕ) → v < t.variables → factor t v ≡ l → values_of t l x v < size t v
  unfolding values_of
  values_inside l x v m f = dig_lt (factor t) (size t) l x v t.variables m f (omega (arith, ok.fields.size_low v m))

  -- a state put together has every value inside its size
  pub assemble_inside : (c : State) (xs : ℕ → ℕ) → ((v : ℕ) → v < t.variables → factor t v ≡ 0 → c v < size t v) → Inside t (assemble t c xs)
  unfolding assemble
  assemble_inside c xs h v l = go _ refl
    where
      go : (b : Bool) → eqb (factor t v) 0 ≡ b → assemble t c xs v < size t v
      go true e = rw e (h v l (eqb-true (factor t v) 0 e))
      go false e = rw e (values_inside (factor t v) (xs (factor t v)) v l refl)

  -- what is in the centre is a variable of the task
  pub centre_known : (v : ℕ) → v < 32 → factor t v ≡ 0 → v < t.variables
  centre_known v l f = go (dec_lt v t.variables)
    where
      go : Dec (v < t.variables) → v < t.variables
      go (yes m) = m
      go (no d) = absurd (omega (arith, ok.fields.factor_unused v (omega arith) l))

  -- a state is determined by its centre state and its leaves' numbers
  pub determined : {s s' : State} → Inside t s → Inside t s' → centre t s ≡ centre t s'
      → ((i : ℕ) → i < t.leaves → number t (suc i) s ≡ number t (suc i) s') → (v : ℕ) → v < t.variables → s v ≡ s' v
  determined {s} {s'} h h' c ns v l = go (factor t v) refl
    where
      l' : v < 32
      l' = omega (arith, ok.fields.few_variables)

      go : (g : ℕ) → factor t v ≡ g → s v ≡ s' v
      go zero f = sym (centre_at t s v l' f) ∙ ap (λ (k : Centre). value_in k v) c ∙ centre_at t s' v l' f
      go (suc i) f =
          sym (value_number t (suc i) v h l f) ∙ ap (λ (x : ℕ). values_of t (suc i) x v) (ns i (omega (arith, ok.fields.factor_known v l))) ∙ value_number t (suc i) v h' l f

  -- ---- conditions, seen from the centre state and the leaves' numbers

  -- pairs on the centre are seen from the centre state
  pub centre_meets_lem : (p : Partial) (s : State) → centre_meets (factor t) p (centre t s) ≡ meets_in t 0 p s
  unfolding centre_meets meets_in
  centre_meets_lem p s =
      holds_ext 32 (factor t) 0 p _ s (centre_at t s) ∙ holds_rest t.variables 32 (factor t) 0 p s ok.fields.few_variables (λ v k l f. omega (arith, centre_known v l f))

  -- pairs that hold in a state hold in its centre state and in each leaf's state
  pub pairs_split : {s : State} (p : Partial) → Inside t s → holds t.variables p s ≡ true
      → (centre_meets (factor t) p (centre t s) ≡ true) × ((i : ℕ) → i < t.leaves → meets_in t (suc i) p (values_of t (suc i) (number t (suc i) s)) ≡ true)
  unfolding meets_in
  pairs_split {s} p h e = (centre_meets_lem p s ∙ each 0, λ i l. leaf_meets t (suc i) p h ∙ each (suc i))
    where
      each : (g : ℕ) → meets_in t g p s ≡ true
      each g = holds_split t.variables (factor t) g p s e

  -- pairs that hold in the centre state and in each leaf's state hold in the state
  pub pairs_join : {s : State} (p : Partial) → Inside t s → centre_meets (factor t) p (centre t s) ≡ true
      → ((i : ℕ) → i < t.leaves → meets_in t (suc i) p (values_of t (suc i) (number t (suc i) s)) ≡ true) → holds t.variables p s ≡ true
  unfolding meets_in
  pairs_join {s} p h c ls = holds_join t.variables (factor t) p s (λ v l. each (factor t v) (ok.fields.factor_known v l))
    where
      each : (g : ℕ) → g ≤ t.leaves → meets_in t g p s ≡ true
      each zero l = sym (centre_meets_lem p s) ∙ c
      each (suc i) l = sym (leaf_meets t (suc i) p h) ∙ ls i l

  -- ---- an action, seen from the centre state and the leaves' numbers

  -- an action that applies: it meets the centre state, and takes each leaf from its state to its next
  pub applies_in : {s : State} (a : ℕ) → Inside t s → applies t a s ≡ true
      → (a < t.actions) × ((centre_meets (factor t) (condition t a) (centre t s) ≡ true) × ((i : ℕ) → i < t.leaves → to t (suc i) a (number t (suc i) s) ≡ suc (number t (suc i) (outcome t a s))))
  unfolding applies to
  applies_in {s} a h e =
      let u = and_out (ltb a t.actions) (holds t.variables (condition t a) s) e in
      let w = pairs_split (condition t a) h u.1 in
      (ltb-true a t.actions u.0, (w.0, λ i l. gate_in _ _ (w.1 i l) ∙ ap suc (leaf_next t (suc i) (effect t a) h)))

  -- an action that meets the centre state and takes each leaf somewhere applies
  pub applies_from : {s : State} (a : ℕ) → Inside t s → a < t.actions → centre_meets (factor t) (condition t a) (centre t s) ≡ true
      → ((i : ℕ) → i < t.leaves → (y : ℕ) × (to t (suc i) a (number t (suc i) s) ≡ suc y)) → applies t a s ≡ true
  unfolding applies to
  applies_from {s} a h l c ls = and_in (lt-ltb a t.actions l) (pairs_join (condition t a) h c (λ i m. (gate_out _ _ (ls i m).1).0))

  -- an action takes a leaf's state to a state of the leaf
  pub to_in : (l a x y : ℕ) → a < t.actions → to t l a x ≡ suc y → y < states t l
  unfolding to number states
  to_in l a x y la e =
      let q = (gate_out (meets_in t l (condition t a) (values_of t l x)) (number t l (outcome t a (values_of t l x))) e).1 in
      rw (← q) (num_lt (factor t) (size t) l _ t.variables (λ v m f. outcome_at (values_of t l x) a v la m (values_inside l x v m f)))

  -- ---- a leaf action

  -- a leaf action applies where it meets the centre state and takes its own leaf somewhere
  pub leaf_applies_from : {s : State} (a i : ℕ) {y : ℕ} → Inside t s → a < t.actions → leaf_action t a (suc i) ≡ true
      → centre_meets (factor t) (condition t a) (centre t s) ≡ true → to t (suc i) a (number t (suc i) s) ≡ suc y → applies t a s ≡ true
  leaf_applies_from {s} a i {y} h l e c k = applies_from a h l c (λ j m. go j (ℕ_discrete j i))
    where
      go : (j : ℕ) → Dec (j ≡ i) → (z : ℕ) × (to t (suc j) a (number t (suc j) s) ≡ suc z)
      go j (yes q) = (y, rw q k)
      go j (no d) = (number t (suc j) s, to_still t a i j (number t (suc j) s) e d (number_lt t (suc j) h))

  -- a leaf action leaves the centre state as it is
  pub leaf_centre : (s : State) (a i : ℕ) → leaf_action t a (suc i) ≡ true → centre t (outcome t a s) ≡ centre t s
  leaf_centre s a i e = centre_ext (factor t) _ _ (λ v l f. rw (leaf_effect t a (suc i) e v (centre_known v l f) (λ q. omega arith)))

  -- a leaf action belongs to one leaf
  pub leaf_one : (a i j : ℕ) → a < t.actions → leaf_action t a (suc i) ≡ true → leaf_action t a (suc j) ≡ true → i ≡ j
  leaf_one a i j l e e' =
      let w = ok.fields.has_effect a l in
      omega (arith, leaf_named t a (suc i) e w.0 w.1.0 w.1.1, leaf_named t a (suc j) e' w.0 w.1.0 w.1.1)

  -- ---- the goal and the initial state

  -- where the goal holds, it holds in the centre state and in each leaf's state
  pub goal_splits : {s : State} → Inside t s → holds t.variables (goal t) s ≡ true
      → (centre_meets (factor t) (goal t) (centre t s) ≡ true) × ((i : ℕ) → i < t.leaves → meets_in t (suc i) (goal t) (values_of t (suc i) (number t (suc i) s)) ≡ true)
  goal_splits h e = pairs_split (goal t) h e

  -- where the goal holds in the centre state and in each leaf's state, it holds
  pub goal_joins : {s : State} → Inside t s → centre_meets (factor t) (goal t) (centre t s) ≡ true
      → ((i : ℕ) → i < t.leaves → meets_in t (suc i) (goal t) (values_of t (suc i) (number t (suc i) s)) ≡ true)
      → holds t.variables (goal t) s ≡ true
  goal_joins h c ls = pairs_join (goal t) h c ls

  -- the initial values, put as effects into the blank centre state, are the initial centre state
  pub initial_centre : centre_after (factor t) (initial t) blank_centre ≡ centre t (initial t)
  unfolding centre_after centre_of
  initial_centre = ap {B = Centre} (λ xs. record { values = xs }) (list_ext 32 _ _ (λ v l. go v l _ refl))
    where
      go : (v : ℕ) → v < 32 → (b : Bool) → eqb (factor t v) 0 ≡ b
          → cond (eqb (factor t v) 0 && named (initial t v)) (initial t v) (value_in blank_centre v) ≡ cond (eqb (factor t v) 0) (initial t v) 0
      go v l true e =
          let m = centre_known v l (eqb-true (factor t v) 0 e) in
          rw (e, ne_eqb (initial t v) free (λ q. omega (arith, ok.fields.initial_inside v m, ok.fields.size_high v m)))
      go v l false e = rw e (get_or-replicate 32 v 0 0 l)
