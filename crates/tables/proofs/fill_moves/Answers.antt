-- `tables::fill_moves` meets its contract: the rows are those of the task, by the definitions. Assumes nothing.
use Rattle.std.proofs.Common.{◌≡◌, arith, length, rules}
use Rattle.task.specs.Factors.{number, states, all_states, values_of, meets_in, to}
use Rattle.layer.specs.Layer.{base}
use Rattle.digits.specs.Moves.{to_with}
use Rattle.digits.specs.Digits.{start_of}
use Rattle.tables.specs.Fit.{small_is}
use Rattle.tables.proofs.fill_moves.Goals as goal
use Rattle.tables.proofs.fill_moves.Goals.{Start}

sizes_long : (s : Start) → length s.args.task.now.sizes ≡ 32
sizes_long s = search rules

factors_long : (s : Start) → length s.args.task.now.factors ≡ 32
factors_long s = search rules

conditions_long : (s : Start) → length s.args.task.now.conditions ≡ 8192
conditions_long s = search rules

effects_long : (s : Start) → length s.args.task.now.effects ≡ 8192
effects_long s = search rules

pub invariant_of-pairs : goal.invariant_of-pairs
invariant_of-pairs c =
    let at = (goal.at.invariant_of-pairs c).Start in
    record { long = omega (arith, sizes_long at, factors_long at, conditions_long at, effects_long at, c.requires.valid.fields.few_variables) }

pub fill_rows-requires : goal.fill_rows-requires
unfolding start_of base states all_states
fill_rows-requires c =
    let ok = c.requires.valid in
    let bases = c.requires.bases in
    let at = (goal.at.fill_rows-requires c).Start in
    record { leaves_in_bounds = omega (arith, bases.long, ok.fields.few_leaves); few = omega (arith, ok.fields.few_variables, ok.fields.few_actions); in_bounds = omega (arith, conditions_long at, effects_long at); room = c.requires.task_in_bounds; filled = λ i l. bases.is i (omega arith); by_index = small_is c.args.task.now ok }

pub returns : goal.returns
unfolding start_of base states all_states to meets_in number values_of to_with
returns c =
    let filled = c.fill_rows.ensures in
    record { moves = λ i a x l la m. filled.rows a la i x l m; same = filled.same }
