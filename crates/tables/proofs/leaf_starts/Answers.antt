-- `tables::leaf_starts` meets its contract: the numbers are those of the task's initial state. Assumes nothing.
use Rattle.std.proofs.Common.{◌≡◌, arith, length, rules}
use Rattle.task.specs.Factors.{number, states}
use Rattle.tables.proofs.leaf_starts.Goals as goal

pub starts_of-requires : goal.starts_of-requires
unfolding states
starts_of-requires c =
    let ok = c.requires in
    let t = c.args.task.now in
    let sizes : length t.sizes ≡ 32 = search rules in
    let factors : length t.factors ≡ 32 = search rules in
    let initial : length t.initial ≡ 32 = search rules in
    record { variables_in_bounds = omega (arith, ok.fields.few_variables, ok.fields.few_leaves); by_index = ok.fields.initial_inside; by_index_2 = ok.whole.few_states }

pub returns : goal.returns
unfolding number
returns c = record { long = c.starts_of.ensures.0; is = c.starts_of.ensures.1 }
