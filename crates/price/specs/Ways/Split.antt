-- A sequence that runs gives each leaf a way along its centre actions, and the ways' costs add up to what its leaf actions cost. Assumes nothing.
use Rattle.std.specs.Prelude.{◌≡◌, ◌≢◌, ◌⊎◌, true, false, ℕ, suc, ◌+◌, ◌<◌}
use Rattle.std.proofs.Math.Path.{refl, sym, ap}
use Rattle.std.proofs.Common.{◌∙◌, inl, inr, arith}
use mathlib.Core.List.{List, [], ◌∷◌}
use Rattle.loops.specs.Count.{sum}
use Rattle.task.specs.declared.Task.{Task}
use Rattle.task.specs.declared.Centre.{Centre}
use Rattle.task.specs.Meaning.{State, factor, condition, cost, applies, outcome, runs, final}
use Rattle.task.specs.Factors.{centre_action, leaf_action, number, to, centre_actions, leaf_cost}
use Rattle.task.specs.Centre.{centre, centre_meets}
use Rattle.task.specs.Valid.{Inside, Valid}
use Rattle.task.specs.Star.{outcome_inside, applies_in, centre_next, leaf_centre, leaf_other}
use Rattle.price.specs.Sums.{bump, bump_cases, sum_bump, sum_zero}
use Rattle.price.specs.Sequences.{runs_head, action_kind, centre_actions_centre, centre_actions_leaf, leaf_cost_centre, leaf_cost_leaf}
use Rattle.price.specs.Ways.{centre_along, Open, stop, next, Way, done, move, cross}

-- the ways of the leaves in a sequence from state s
pub record Split (t : Task) (s : State) (acts : List ℕ) : Type 0 where
  -- what each leaf's actions cost
  pub share : ℕ → ℕ
  pub ways : (i : ℕ) → i < t.leaves → Way t (suc i) (centre t s) (number t (suc i) s) (centre_actions t acts) (number t (suc i) (final t s acts)) (share i)
  pub total : leaf_cost t acts ≡ sum t.leaves share
  -- the centre conditions hold along the centre actions, and the centre state is theirs
  pub passable : Open t (centre t s) (centre_actions t acts)
  pub spot : centre t (final t s acts) ≡ centre_along t (centre t s) (centre_actions t acts)

module _ (t : Task) (ok : Valid t) where
  -- an action that applies, as each leaf and the centre see it
  record Seen (s : State) (a : ℕ) : Type 0 where
    known : a < t.actions
    meets : centre_meets (factor t) (condition t a) (centre t s) ≡ true
    takes : (i : ℕ) → i < t.leaves → to t (suc i) a (number t (suc i) s) ≡ suc (number t (suc i) (outcome t a s))
    inside : Inside t (outcome t a s)

  -- every action that applies is seen so
  seen : (s : State) (a : ℕ) → Inside t s → applies t a s ≡ true → Seen s a
  seen s a h e =
      let u = applies_in t ok a h e in
      record { known = u.0; meets = u.1.0; takes = u.1.1; inside = outcome_inside t ok a u.0 h }

  -- a centre action in front
  split_centre : (s : State) (a : ℕ) (acts : List ℕ) → Seen s a → centre_action t a ≡ true → Split t (outcome t a s) acts → Split t s (a ∷ acts)
  unfolding final centre_along
  split_centre s a acts u c d =
      record {
        share = d.share;
        ways = λ i l. rw (centre_actions_centre t a acts c) (cross a u.known (u.takes i l) (rw (centre_next t s a) at (d.ways i l)));
        total = leaf_cost_centre t a acts c ∙ d.total;
        passable = rw (centre_actions_centre t a acts c) (next a u.known c u.meets (rw (centre_next t s a) at d.passable));
        spot = rw (centre_actions_centre t a acts c) (d.spot ∙ ap (λ (k : Centre). centre_along t k (centre_actions t acts)) (centre_next t s a));
      }

  -- a leaf action in front
  module _ (s : State) (a i : ℕ) (acts : List ℕ) (u : Seen s a) (m : i < t.leaves) (e : leaf_action t a (suc i) ≡ true) (d : Split t (outcome t a s) acts) where
    -- the way of each leaf: one action more for leaf i
    leaf_way : (j : ℕ) → j < t.leaves
        → Way t (suc j) (centre t s) (number t (suc j) s) (centre_actions t acts) (number t (suc j) (final t (outcome t a s) acts)) (bump i (cost t a) d.share j)
    leaf_way j l = go (bump_cases i (cost t a) d.share j)
      where
        r : Way t (suc j) (centre t s) (number t (suc j) (outcome t a s)) (centre_actions t acts) (number t (suc j) (final t (outcome t a s) acts)) (d.share j)
        r = rw (leaf_centre t ok s a i e) at (d.ways j l)

        go : {k : ℕ} → ((j ≡ i) × (k ≡ cost t a + d.share j)) ⊎ ((j ≢ i) × (k ≡ d.share j))
            → Way t (suc j) (centre t s) (number t (suc j) s) (centre_actions t acts) (number t (suc j) (final t (outcome t a s) acts)) k
        go (inl (q, f)) = move a (record { known = u.known; own = rw q e; enabled = u.meets; takes = u.takes j l }) r f
        go (inr (q, f)) = rw (f, ← leaf_other t s a i j e q) r

    -- the ways of all leaves
    split_leaf : centre_action t a ≡ false → Split t s (a ∷ acts)
    unfolding final
    split_leaf c =
        record {
          share = bump i (cost t a) d.share;
          ways = λ j l. rw (centre_actions_leaf t a acts c) (leaf_way j l);
          total = omega (arith, leaf_cost_leaf t a acts c, d.total, sum_bump i (cost t a) d.share t.leaves m);
          passable = rw (centre_actions_leaf t a acts c, ← leaf_centre t ok s a i e) d.passable;
          spot = rw (centre_actions_leaf t a acts c, ← leaf_centre t ok s a i e) d.spot;
        }

  -- the ways of the leaves in a sequence that runs
  pub split : (s : State) (acts : List ℕ) → Inside t s → runs t s acts ≡ true → Split t s acts
  unfolding final centre_actions leaf_cost centre_along
  split s [] h e = record { share = λ i. 0; ways = λ i l. done; total = sym (sum_zero t.leaves); passable = stop; spot = refl }
  split s (a ∷ acts) h e = go (action_kind t ok a u.known) (split (outcome t a s) acts u.inside (runs_head t s a acts e).1)
    where
      u : Seen s a
      u = seen s a h (runs_head t s a acts e).0

      go : (centre_action t a ≡ true) ⊎ ((i : ℕ) × ((i < t.leaves) × ((leaf_action t a (suc i) ≡ true) × (centre_action t a ≡ false))))
          → Split t (outcome t a s) acts → Split t s (a ∷ acts)
      go (inl c) d = split_centre s a acts u c d
      go (inr (i, (m, (f, c)))) d = split_leaf s a i acts u m f d c
