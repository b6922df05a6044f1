-- `layer::is_enabled` meets its contract. Each return computes, with the test that led there. Assumes nothing.
use Rattle.std.proofs.Common.{eq-eqb, ne_eqb}
use Rattle.layer.proofs.is_enabled.Goals as goal

pub returns-then-board-action : goal.returns-then-board-action
returns-then-board-action c = rw (ne_eqb _ _ c.if-board-action.true)

pub returns : goal.returns
returns c = rw (eq-eqb _ _ c.if-board-action.false) c.is_met.ensures
