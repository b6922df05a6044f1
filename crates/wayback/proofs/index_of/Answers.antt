use Rattle.std.proofs.Common.{◌≡◌, refl, ◌+◌, ◌-◌, arith, length, length-set}
use Rattle.wayback.specs.Woven.Laws.{index_none, index_more}
use Rattle.wayback.proofs.index_of.Goals as goal

pub loop-j-init : goal.loop-j-init
loop-j-init c = (omega arith, refl, index_none _ _)

pub loop-j-preserved : goal.loop-j-preserved
loop-j-preserved c =
    let l = c.loop-j in
    let acts = c.args.acts.now in
    let here = c.type_inv.acts (l.j - 1) in
    let this : l.j - 1 + 1 ≡ l.j = omega arith in (
      omega arith,
      simp length-set l.invariant.1,
      rw this (index_more acts l.j (length acts) l.index (omega arith) l.invariant.0 (omega (arith, here, l.invariant.1)) l.invariant.2),
    )

pub returns : goal.returns
returns c = let end : c.loop-j.j ≡ 0 = omega arith in (c.loop-j.invariant.1, rw end at c.loop-j.invariant.2)
