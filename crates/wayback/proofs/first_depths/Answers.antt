use Rattle.std.proofs.Common.{◌≡◌, refl, ◌∙◌, append-nil, arith, length, length-set}
use lib.Seq.{drop-length}
use Rattle.loops.specs.Count.{list}
use Rattle.loops.specs.Count.Laws.{list_more}
use Rattle.wayback.proofs.first_depths.Invariants.{start}
use Rattle.wayback.proofs.first_depths.Goals as goal

pub loop-x-init : goal.loop-x-init
unfolding list
loop-x-init c = (refl, omega arith, refl, refl)

pub loop-x-preserved : goal.loop-x-preserved
loop-x-preserved c =
    let l = c.loop-x in (
      refl,
      omega arith,
      simp length-set l.invariant.2,
      rw (l.invariant.3, c.first_depth.ensures) (list_more l.x (start c.args.begins.now c.args.prices.now) c.args.depths.now (omega arith)),
    )

pub returns : goal.returns
returns c =
    let all : c.loop-x.x ≡ length c.args.depths.now = omega arith in
    c.loop-x.invariant.3 ∙ rw (all, drop-length, append-nil, c.requires.1)
