use Rattle.std.proofs.Common.{◌≡◌, ◌∙◌, arith, length-set}
use Rattle.words.specs.Words.{copy_more}
use Rattle.words.proofs.copy_words.Goals as goal

pub loop-i-preserved : goal.loop-i-preserved
loop-i-preserved c =
    let s = c.args in
    let l = c.loop-i in
    (omega arith, simp length-set l.invariant.1, rw l.invariant.2 (copy_more s.into.now s.from.now l.i (omega arith) (omega arith)))

pub returns : goal.returns
returns c = let all : c.loop-i.i ≡ c.args.count = omega arith in c.loop-i.invariant.2 ∙ rw all
