-- Laws of sequences: one behind the other, one more action, values inside their sizes along a sequence, and the cost by centre and leaf actions.
-- Assumes nothing.
use Rattle.std.specs.Prelude.{◌≡◌, ◌⊎◌, Bool, ℕ, suc, ◌+◌, ◌<◌, ltb}
use Rattle.std.proofs.Math.Path.{refl}
use Rattle.std.proofs.Common.{inl, inr}
use Rattle.std.proofs.Math.Bool.{true, false, cond}
use mathlib.Core.List.{List, [], ◌∷◌, ◌++◌}
use native.Mathlib.Omega.{arith}
use borrow.Author.Tests.{ltb-true}
use Rattle.loops.specs.Count.Laws.{and_in, and_out}
use Rattle.task.specs.declared.Task.{Task}
use Rattle.task.specs.Meaning.{State, condition, cost, holds, applies, outcome, runs, final, cost_of}
use Rattle.task.specs.Factors.{centre_action, leaf_action, centre_actions, leaf_cost}
use Rattle.task.specs.Valid.{Inside, Valid}
use Rattle.task.specs.Star.{outcome_inside, leaf_not_centre}

module _ (t : Task) where
  -- ---- runs

  -- what runs: its first action applies, and the others run behind it
  pub runs_head : (s : State) (a : ℕ) (acts : List ℕ) → runs t s (a ∷ acts) ≡ true → (applies t a s ≡ true) × (runs t (outcome t a s) acts ≡ true)
  unfolding runs
  runs_head s a acts e = and_out (applies t a s) (runs t (outcome t a s) acts) e

  -- an action that applies, and others that run behind it, run
  pub runs_cons : (s : State) (a : ℕ) (acts : List ℕ) → applies t a s ≡ true → runs t (outcome t a s) acts ≡ true → runs t s (a ∷ acts) ≡ true
  unfolding runs
  runs_cons s a acts p q = and_in p q

  -- a sequence that runs, and one that runs behind it, run one behind the other
  pub runs_join : (s : State) (xs ys : List ℕ) → runs t s xs ≡ true → runs t (final t s xs) ys ≡ true → runs t s (xs ++ ys) ≡ true
  unfolding runs final
  runs_join s [] ys p q = q
  runs_join s (a ∷ xs) ys p q =
      let u = runs_head s a xs p in
      runs_cons s a (xs ++ ys) u.0 (runs_join (outcome t a s) xs ys u.1 q)

  -- ---- final

  -- where two sequences end, one behind the other
  pub final_append : (s : State) (xs ys : List ℕ) → final t s (xs ++ ys) ≡ final t (final t s xs) ys
  unfolding final
  final_append s [] ys = refl
  final_append s (a ∷ xs) ys = final_append (outcome t a s) xs ys

  -- ---- cost_of

  -- what two sequences cost, one behind the other
  pub cost_of_append : (xs ys : List ℕ) → cost_of t (xs ++ ys) ≡ cost_of t xs + cost_of t ys
  unfolding cost_of
  cost_of_append [] ys = omega arith
  cost_of_append (a ∷ xs) ys = omega (arith, cost_of_append xs ys)

  -- with one more action
  pub cost_of_snoc : (xs : List ℕ) (a : ℕ) → cost_of t (xs ++ (a ∷ [])) ≡ cost_of t xs + cost t a
  unfolding cost_of
  cost_of_snoc xs a = omega (arith, cost_of_append xs (a ∷ []))

  -- ---- centre_actions

  -- a centre action in front
  pub centre_actions_centre : (a : ℕ) (acts : List ℕ) → centre_action t a ≡ true → centre_actions t (a ∷ acts) ≡ a ∷ centre_actions t acts
  unfolding centre_actions
  centre_actions_centre a acts e = rw e

  -- a leaf action in front
  pub centre_actions_leaf : (a : ℕ) (acts : List ℕ) → centre_action t a ≡ false → centre_actions t (a ∷ acts) ≡ centre_actions t acts
  unfolding centre_actions
  centre_actions_leaf a acts e = rw e

  -- those of two sequences, one behind the other
  pub centre_actions_append : (xs ys : List ℕ) → centre_actions t (xs ++ ys) ≡ centre_actions t xs ++ centre_actions t ys
  unfolding centre_actions
  centre_actions_append [] ys = refl
  centre_actions_append (a ∷ xs) ys = rw (centre_actions_append xs ys) (go (centre_action t a))
    where
      go : (b : Bool) → cond b (a ∷ (centre_actions t xs ++ centre_actions t ys)) (centre_actions t xs ++ centre_actions t ys)
          ≡ cond b (a ∷ centre_actions t xs) (centre_actions t xs) ++ centre_actions t ys
      go true = refl
      go false = refl

  -- ---- leaf_cost

  -- a centre action in front
  pub leaf_cost_centre : (a : ℕ) (acts : List ℕ) → centre_action t a ≡ true → leaf_cost t (a ∷ acts) ≡ leaf_cost t acts
  unfolding leaf_cost
  leaf_cost_centre a acts e = rw e

  -- a leaf action in front
  pub leaf_cost_leaf : (a : ℕ) (acts : List ℕ) → centre_action t a ≡ false → leaf_cost t (a ∷ acts) ≡ cost t a + leaf_cost t acts
  unfolding leaf_cost
  leaf_cost_leaf a acts e = rw e

  -- that of two sequences, one behind the other
  pub leaf_cost_append : (xs ys : List ℕ) → leaf_cost t (xs ++ ys) ≡ leaf_cost t xs + leaf_cost t ys
  unfolding leaf_cost
  leaf_cost_append [] ys = omega arith
  leaf_cost_append (a ∷ xs) ys = go (centre_action t a) (leaf_cost_append xs ys)
    where
      go : (b : Bool) → leaf_cost t (xs ++ ys) ≡ leaf_cost t xs + leaf_cost t ys
          → cond b (leaf_cost t (xs ++ ys)) (cost t a + leaf_cost t (xs ++ ys)) ≡ cond b (leaf_cost t xs) (cost t a + leaf_cost t xs) + leaf_cost t ys
      go true e = e
      go false e = omega arith

  -- ---- cost_of, by centre and leaf actions

  -- a sequence costs what its centre actions and its leaf actions cost
  pub cost_of_split : (acts : List ℕ) → cost_of t acts ≡ cost_of t (centre_actions t acts) + leaf_cost t acts
  unfolding cost_of centre_actions leaf_cost
  cost_of_split [] = refl
  cost_of_split (a ∷ acts) = go (centre_action t a) (cost_of_split acts)
    where
      go : (b : Bool) → cost_of t acts ≡ cost_of t (centre_actions t acts) + leaf_cost t acts
          → cost t a + cost_of t acts ≡ cost_of t (cond b (a ∷ centre_actions t acts) (centre_actions t acts)) + cond b (leaf_cost t acts) (cost t a + leaf_cost t acts)
      go true e = omega arith
      go false e = omega arith

-- ---- of a valid task

module _ (t : Task) (ok : Valid t) where
  -- what applies is an action of the task
  pub applies_known : (s : State) (a : ℕ) → applies t a s ≡ true → a < t.actions
  unfolding applies
  applies_known s a e = ltb-true a t.actions (and_out (ltb a t.actions) (holds t.variables (condition t a) s) e).0

  -- a sequence that runs leaves every value inside its size
  pub final_inside : (s : State) (acts : List ℕ) → Inside t s → runs t s acts ≡ true → Inside t (final t s acts)
  unfolding final
  final_inside s [] h e = h
  final_inside s (a ∷ acts) h e =
      let u = runs_head t s a acts e in
      final_inside (outcome t a s) acts (outcome_inside t ok a (applies_known s a u.0) h) u.1

  -- an action is a centre action, or a leaf action of some leaf and no centre action
  pub action_kind : (a : ℕ) → a < t.actions
      → (centre_action t a ≡ true) ⊎ ((i : ℕ) × ((i < t.leaves) × ((leaf_action t a (suc i) ≡ true) × (centre_action t a ≡ false))))
  action_kind a l = go (ok.whole.star a l)
    where
      go : (centre_action t a ≡ true) ⊎ ((i : ℕ) × ((i < t.leaves) × (leaf_action t a (suc i) ≡ true)))
          → (centre_action t a ≡ true) ⊎ ((i : ℕ) × ((i < t.leaves) × ((leaf_action t a (suc i) ≡ true) × (centre_action t a ≡ false))))
      go (inl c) = inl c
      go (inr (i, (m, e))) = inr (i, (m, (e, leaf_not_centre t a i e)))
