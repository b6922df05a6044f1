-- `detours::drop_detours` meets its contract. The invariant: the list and the count are those behind the numbers so far. Assumes nothing.
use Rattle.std.proofs.Common.{◌≡◌, ◌-◌, ◌≤◌}
use Rattle.detours.specs.Detours.{detours, kept_of, kept_in}
use Rattle.detours.proofs.drop_detours.Given as goal

abbrev pub invariant-loop-j : goal.invariant-loop-j
invariant-loop-j l =
    (l.j ≤ l.count) × (l.kept ≡ kept_of (detours l.hops l.ways l.costs l.word l.c) l.initial.list l.j) × (l.list ≡ kept_in (detours l.hops l.ways l.costs l.word l.c) l.initial.list l.j)

abbrev pub decreases-loop-j : goal.decreases-loop-j
decreases-loop-j l = l.count - l.j
