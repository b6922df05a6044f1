-- `depot::write_answer` meets its contract: four words at the front, or none. Assumes nothing.
use Rattle.std.proofs.Common.{◌∙◌, arith, length-set, rules}
use Rattle.depot.specs.Depot.Laws.{answered_short, answered_long, four_words}
use Rattle.depot.proofs.write_answer.Goals as goal

pub returns-then-answer-lt4 : goal.returns-then-answer-lt4
returns-then-answer-lt4 c = answered_short c.args.told c.args.answer.now c.if-answer-lt4.true

pub bounds-answer-1 : goal.bounds-answer-1
bounds-answer-1 c = simp length-set (omega (arith, c.if-answer-lt4.false))

pub bounds-answer-2 : goal.bounds-answer-2
bounds-answer-2 c = simp length-set (omega (arith, c.if-answer-lt4.false))

pub returns : goal.returns
returns c =
    four_words _ _ _ _ c.args.answer.now (omega (arith, c.if-answer-lt4.false)) ∙ answered_long c.args.told c.args.answer.now (omega (arith, c.if-answer-lt4.false))
