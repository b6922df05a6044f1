use Rattle.std.proofs.Common.{◌≡◌, arith}
use Rattle.mets.specs.Known.{stored_none, stored_more}
use Rattle.mets.proofs.store.Goals as goal

pub loop-j-init : goal.loop-j-init
loop-j-init c = (omega arith, stored_none _ _ _)

pub loop-j-preserved : goal.loop-j-preserved
loop-j-preserved c =
    let l = c.loop-j in
    (omega arith, stored_more _ l.j _ _ l.into (omega (arith, c.requires.1)) l.invariant.1)

pub shape_of-into : goal.shape_of-into
shape_of-into c = c.loop-j.invariant.1.long

pub returns : goal.returns
returns c = let all : c.loop-j.j ≡ c.args.count = omega arith in rw all at c.loop-j.invariant.1
