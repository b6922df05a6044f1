-- `hops::list_ways` meets its contract. The invariant: the actions so far have their ways. Assumes nothing.
use Rattle.std.proofs.Common.{◌≡◌}
use Rattle.hops.specs.Hops.{ways_by}
use Rattle.hops.proofs.list_ways.Given as goal

abbrev pub invariant-loop-a : goal.invariant-loop-a
invariant-loop-a l = l.ways ≡ ways_by l.hops l.a
