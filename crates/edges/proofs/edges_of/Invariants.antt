-- `edges::edges_of` meets its contract. The invariant: the edges so far stand at the front, and behind them the list is as it
-- was. Assumes nothing.
use Rattle.std.proofs.Common.{◌≤◌}
use Rattle.layer.specs.Lent.{Front}
use Rattle.edges.specs.Edges.{picked, moved_by}
use Rattle.edges.proofs.edges_of.Given as goal

abbrev pub invariant-loop-a : goal.invariant-loop-a
invariant-loop-a l =
    record { few : l.count ≤ l.a-index; front : Front (picked (moved_by l.moves l.row l.s) l.own l.a-index) l.initial.acts l.count l.acts }
