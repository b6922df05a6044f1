use Rattle.std.proofs.Common.{length}
use Rattle.compare.proofs.nearest.Goals as goal
use Rattle.compare.proofs.nearest.Goals.{in-Some, in_default}

pub loop-state-preserved : goal.loop-state-preserved
loop-state-preserved c =
    elim c.match-open.branch [
      | in-Some w ↦ rw w.found-is (w.nearer.ensures (length c.args.nodes.now) c.loop-state.invariant c.loop-state-test.true)
      | in_default w ↦ rw w.found-is c.loop-state.invariant
    ]
