-- `tables::leaf_goals` meets its contract: an action with the goal's pairs as its conditions and no effects passes just where the goal is met.
-- Assumes nothing.
use Rattle.std.proofs.Common.{◌≡◌, ◌∙◌, arith, length, take, rules}
use Rattle.std.proofs.lemmas.List.{length-take-le, get_or-take}
use Rattle.task.specs.Factors.{states, all_states}
use Rattle.layer.specs.Layer.{base}
use Rattle.digits.specs.Digits.{start_of}
use Rattle.tables.specs.Fit.{still_small, goals_are}
use Rattle.tables.proofs.leaf_goals.Goals as goal
use Rattle.tables.proofs.leaf_goals.Goals.{Start}

sizes_long : (s : Start) → length s.args.task.now.sizes ≡ 32
sizes_long s = search rules

factors_long : (s : Start) → length s.args.task.now.factors ≡ 32
factors_long s = search rules

goal_long : (s : Start) → length s.args.task.now.goal ≡ 32
goal_long s = search rules

pub invariant_of-pairs : goal.invariant_of-pairs
invariant_of-pairs c =
    let at = (goal.at.invariant_of-pairs c).Start in
    record { long = omega (arith, sizes_long at, factors_long at, goal_long at, c.requires.valid.fields.few_variables) }

-- the bases of the leaves alone
fronts : (s : Start) → let t = s.args.task.now in length (take t.leaves s.args.bases) ≡ t.leaves
fronts s = length-take-le s.args.task.now.leaves s.args.bases (omega (arith, s.requires.bases.long, s.requires.valid.fields.few_leaves))

pub fill_action-requires : goal.fill_action-requires
unfolding start_of base states all_states
fill_action-requires c =
    let t = c.args.task.now in
    let ok = c.requires.valid in
    let bases = c.requires.bases in
    rw (fronts (goal.at.fill_action-requires c).Start) (record {
      room = omega (arith, ok.whole.few_all_states);
      filled = λ i l. get_or-take t.leaves c.args.bases i 0 l ∙ bases.is i (omega arith);
      by_index = still_small t ok;
    })

pub returns : goal.returns
returns c = goals_are c.args.task.now _ (search rules) (rw (fronts (goal.at.returns c).Start) at c.fill_action.ensures.row)
