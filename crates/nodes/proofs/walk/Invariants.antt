-- `nodes::walk` meets its contract. The invariant: the walk along the groups has come to `to`, and no entry of a group from there on dominates. Assumes nothing.
use Rattle.std.proofs.Common.{◌≤◌}
use Rattle.dominance.specs.Held.{node_held}
use Rattle.nodes.specs.Chain.{Walked}
use Rattle.nodes.proofs.walk.Given as goal

abbrev pub invariant-loop-to : goal.invariant-loop-to
invariant-loop-to l = (l.to ≤ 2048) × Walked l.candidate.states l.table l.scan (node_held l.candidate) l.to

abbrev pub decreases-loop-to : goal.decreases-loop-to
decreases-loop-to l = l.to
