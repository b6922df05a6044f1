-- `wayback::tight_state` meets its contract. The invariant: of the actions so far those with an edge are picked. Assumes nothing.
use Rattle.std.proofs.Common.{◌≡◌, length}
use Rattle.wayback.specs.Woven.{Picked}
use Rattle.wayback.specs.Held.{edge_in}
use Rattle.wayback.proofs.tight_state.Given as goal

abbrev pub invariant-loop-a : goal.invariant-loop-a
invariant-loop-a l = record {
  long : length l.tight ≡ length l.initial.tight;
  picked : Picked (λ a. edge_in l.ways l.prices a l.x) l.acts l.a-index l.from l.initial.tight l.end l.tight;
}
