use Rattle.std.proofs.Common.{sym, ◌∙◌, arith}
use Rattle.rows.specs.Row.Laws.{row_in_lem}
use Rattle.dominance.specs.Held.{node_held}
use Rattle.nodes.specs.Chain.{entry_at, Entry}
use Rattle.nodes.specs.Chain.Walk.{missed_more}
use Rattle.nodes.proofs.try_group.Goals as goal
use Rattle.nodes.proofs.try_group.Goals.{In-loop-k}

-- the next entry
entry : (t : In-loop-k) → let a = t.args in Entry a.candidate.now.states a.table.now a.scan.now a.count a.group t.loop-k.k
entry t = t.requires.chained.2.grouped.entries t.args.group t.loop-k.k t.requires.known.0 t.loop-k-test.true

pub test_node-requires-clause-row : goal.test_node-requires-clause-row
test_node-requires-clause-row c =
    let a = c.args in
    let e = entry (goal.at.test_node-requires-clause-row c).In-loop-k in
    let node = entry_at a.scan.now a.group c.loop-k.k in
    rw c.entry_of-u.ensures (row_in_lem a.candidate.now.states a.count node a.table.now e.inside c.requires.chained.1, c.requires.chained.2.packed node e.inside)

pub test_node-requires-clause-signed : goal.test_node-requires-clause-signed
test_node-requires-clause-signed c =
    rw c.entry_of-u.ensures (entry (goal.at.test_node-requires-clause-signed c).In-loop-k).shown

pub loop-k-preserved : goal.loop-k-preserved
loop-k-preserved c =
    let a = c.args in
    let s = a.candidate.now in
    let missed = rw c.entry_of-u.ensures at (sym c.test_node.ensures ∙ c.if-test_node.false) in
    (omega arith, missed_more s.states a.table.now a.scan.now a.count (node_held s) c.requires.chained.2.grouped a.group c.loop-k.k c.loop-k.invariant.1 missed)
