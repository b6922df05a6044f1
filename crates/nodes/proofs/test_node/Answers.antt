-- `nodes::test_node` meets its contract: a node whose signature lacks a bit does not dominate. Assumes nothing.
use Rattle.std.proofs.Common.{sym, ◌∙◌, length-take-le}
use Rattle.loops.specs.Count.Laws.{told}
use Rattle.rows.specs.Row.{node_in}
use Rattle.rows.specs.Row.Laws.{prices_length}
use Rattle.rows.specs.Sign.Laws.{other_sign}
use Rattle.dominance.specs.Held.{node_held}
use Rattle.nodes.specs.Chain.Walk.{lacking_out}
use Rattle.nodes.proofs.test_node.Goals as goal

pub returns-then-lacks : goal.returns-then-lacks
returns-then-lacks c =
    let a = c.args.candidate.now in
    let T = c.args.table.now in
    let long = prices_length a.states c.args.u T c.requires.row.0 ∙ sym (length-take-le a.states a.prices.now a.long) in
    let other = lacking_out a.sign c.args.theirs (told c.lacks.ensures c.if-lacks.true) in
    sym (other_sign (node_in a.states T c.args.u) (node_held a) long (rw (c.requires.signed, a.signed) at other))
