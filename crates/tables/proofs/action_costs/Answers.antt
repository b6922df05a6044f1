-- `tables::action_costs` meets its contract: no cost of a valid task is above that of the dearest action. Assumes nothing.
use Rattle.std.proofs.Common.{◌≡◌, arith, length, rules}
use Rattle.task.specs.Meaning.{cost}
use Rattle.tables.proofs.action_costs.Goals as goal

pub costs_of-requires : goal.costs_of-requires
unfolding cost
costs_of-requires c =
    let ok = c.requires in
    let t = c.args.task.now in
    let handling : length t.handling ≡ 256 = search rules in
    let distance : length t.distance ≡ 256 = search rules in
    record { actions_in_bounds = omega (arith, ok.fields.few_actions); by_index = ok.fields.cost_bound }

pub returns : goal.returns
unfolding cost
returns c = record { long = c.costs_of.ensures.0; is = c.costs_of.ensures.1 }
