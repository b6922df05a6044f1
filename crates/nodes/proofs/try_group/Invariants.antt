-- `nodes::try_group` meets its contract. The invariant: no entry before place k dominates. Assumes nothing.
use Rattle.std.proofs.Common.{◌≤◌}
use Rattle.dominance.specs.Held.{node_held}
use Rattle.nodes.specs.Chain.{Missed}
use Rattle.nodes.proofs.try_group.Given as goal

abbrev pub invariant-loop-k : goal.invariant-loop-k
invariant-loop-k l = (l.k ≤ l.fill) × Missed l.candidate.states l.table l.scan (node_held l.candidate) l.group l.k
