-- `tables::action_kinds` meets its contract: each action of a valid task is of one kind, and a leaf action of one leaf. Assumes nothing.
use Rattle.std.proofs.Common.{◌≡◌, arith, length, rules}
use Rattle.tables.specs.Fit.{star_holds, kind_is, kind_none}
use Rattle.tables.proofs.action_kinds.Goals as goal
use Rattle.tables.proofs.action_kinds.Goals.{Start}

sizes_long : (s : Start) → length s.args.task.now.sizes ≡ 32
sizes_long s = search rules

factors_long : (s : Start) → length s.args.task.now.factors ≡ 32
factors_long s = search rules

conditions_long : (s : Start) → length s.args.task.now.conditions ≡ 8192
conditions_long s = search rules

effects_long : (s : Start) → length s.args.task.now.effects ≡ 8192
effects_long s = search rules

pub invariant_of-pairs : goal.invariant_of-pairs
invariant_of-pairs c =
    let at = (goal.at.invariant_of-pairs c).Start in
    record { long = omega (arith, sizes_long at, factors_long at, conditions_long at, effects_long at, c.requires.fields.few_variables) }

pub kinds_of-requires : goal.kinds_of-requires
kinds_of-requires c =
    let ok = c.requires in
    let at = (goal.at.kinds_of-requires c).Start in
    record { few = omega (arith, ok.fields.few_variables, ok.fields.few_leaves, ok.fields.few_actions); in_bounds = omega (arith, conditions_long at, effects_long at); star = star_holds c.args.task.now ok }

pub returns : goal.returns
returns c =
    let t = c.args.task.now in
    record {
      long = c.kinds_of.ensures.0;
      leaf = λ i a l la. kind_is t c.requires a la i _ (c.kinds_of.ensures.1 a la);
      centre = λ a la. kind_none t c.requires a la _ (c.kinds_of.ensures.1 a la);
    }
