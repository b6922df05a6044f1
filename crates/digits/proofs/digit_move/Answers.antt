-- `digits::digit_move` meets its contract: each return computes, with the tests that led there, and the number is small. Assumes nothing.
use Rattle.std.proofs.Common.{eq-eqb, ne_eqb}
use Rattle.loops.specs.Count.Laws.{told}
use Rattle.digits.specs.Moves.{digit_move}
use Rattle.digits.proofs.digit_move.Goals as goal
use Rattle.digits.proofs.digit_move.Goals.{then-k-eq0-via-then-k-eq0, then-k-eq0-via-else-k-eq0+then-not-holds}

pub returns-then-k-eq0 : goal.returns-then-k-eq0
unfolding digit_move
returns-then-k-eq0 c =
    elim c.then-k-eq0.branch [
      | then-k-eq0-via-then-k-eq0 w ↦ rw (eq-eqb c.args.k 0 w.if-k-eq0.true)
      | then-k-eq0-via-else-k-eq0+then-not-holds w ↦ rw (ne_eqb c.args.k 0 w.if-k-eq0.false, told w.holds.ensures w.if-not-holds.true)
    ]

pub returns : goal.returns
unfolding digit_move
returns c = rw (ne_eqb c.args.k 0 c.if-k-eq0.false, told c.holds.ensures c.if-not-holds.false, c.value_after.ensures)
