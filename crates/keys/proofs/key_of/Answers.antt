use Rattle.std.proofs.Common.{◌≡◌, ◌∙◌, arith}
use Rattle.loops.specs.Count.{sum}
use Rattle.keys.specs.Scan.{key_by}
use Rattle.keys.specs.Scan.Laws.{capped_more}
use Rattle.keys.proofs.key_of.Goals as goal

pub loop-i-init : goal.loop-i-init
unfolding sum
loop-i-init c = (omega arith, omega (arith, c.ranges.paid))

pub loop-i-preserved : goal.loop-i-preserved
loop-i-preserved c =
    let l = c.loop-i in
    let s = c.leaf-states.ensures in
    (omega arith, c.add_price-key.ensures ∙ capped_more l.i _ _ l.key c.least.result l.invariant.1 (rw (s.begins, s.stops) at c.least.ensures))

pub returns : goal.returns
unfolding key_by
returns c =
    let all : c.loop-i.i ≡ c.args.board.now.leaves = omega arith in
    c.loop-i.invariant.1 ∙ rw all
