-- `edges::actions_of` meets its contract. The invariant: the leaf's actions so far stand at the front, and behind them the list is as it
-- was. Assumes nothing.
use Rattle.std.proofs.Common.{◌≤◌}
use Rattle.layer.specs.Lent.{Front}
use Rattle.edges.specs.Edges.{those, of_leaf}
use Rattle.edges.proofs.actions_of.Given as goal

abbrev pub invariant-loop-a : goal.invariant-loop-a
invariant-loop-a l = record { few : l.count ≤ l.a; front : Front (those (of_leaf l.kinds l.i) l.a) l.initial.acts l.count l.acts }
