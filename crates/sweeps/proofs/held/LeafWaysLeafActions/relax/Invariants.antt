-- The invariant: the first of the state's edges have lowered the prices.
use Rattle.std.proofs.Common.{◌+◌, ◌≤◌, length}
use Rattle.leaf.specs.Lent.{cost_by}
use Rattle.settle.specs.Relaxing.{Relaxing}
use Rattle.edges.specs.Edges.{edges_at}
use Rattle.sweeps.specs.Sweeps.{move_met}
use Rattle.sweeps.proofs.held.LeafWaysLeafActions.relax.Given as goal

abbrev pub invariant-loop-a : goal.invariant-loop-a
invariant-loop-a l =
    let w = l.self in
    let acts = edges_at w.edges.list.now w.edges.ends.now (w.at + l.x) in
    record {
      within : l.a-index ≤ length acts;
      relaxing : Relaxing (cost_by w.costs.now acts) (move_met w.moves.now w.row w.at w.mets.now acts) l.x l.initial.prices l.initial.dirty l.a-index l.fell l.prices l.dirty;
    }
