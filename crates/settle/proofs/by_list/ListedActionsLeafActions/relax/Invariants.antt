-- The invariant: the first actions of the list have lowered the prices.
use Rattle.std.proofs.Common.{◌≤◌, length}
use Rattle.leaf.specs.Lent.{cost_by, move_by}
use Rattle.settle.specs.Relaxing.{Relaxing}
use Rattle.settle.proofs.by_list.ListedActionsLeafActions.relax.Given as goal

abbrev pub invariant-loop-a : goal.invariant-loop-a
invariant-loop-a l =
    let w = l.self in
    record {
      within : l.a-index ≤ length w.acts.now;
      relaxing : Relaxing (cost_by w.costs.now w.acts.now) (move_by w.moves.now w.row w.at w.acts.now) l.x l.initial.prices l.initial.dirty l.a-index l.fell l.prices l.dirty;
    }
