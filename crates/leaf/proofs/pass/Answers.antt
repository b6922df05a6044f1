use Rattle.std.proofs.Common.{◌≡◌, sym, ap, ◌∙◌, ◌+◌, arith, length}
use lib.ListN.{length-replicate}
use Rattle.leaf.specs.Price.{mark}
use Rattle.leaf.specs.Pass.{pass}
use Rattle.leaf.specs.Pass.Turns.{pass_more}
use Rattle.leaf.proofs.pass.Goals as goal
use Rattle.leaf.proofs.pass.Goals.{Start}

-- as many states in both lists
long : (s : Start) → length s.args.new.now ≡ length s.args.old.now
long s = ap length s.requires.0 ∙ length-replicate _ _

pub loop-x-init : goal.loop-x-init
unfolding pass
loop-x-init c = (long (goal.at.loop-x-init c).Start, c.requires.0)

pub overflow_cast-moves : goal.overflow_cast-moves
overflow_cast-moves c =
    omega (arith, c.type_inv.moves (c.args.at + c.loop-x.x))

pub lower-requires : goal.lower-requires
lower-requires c =
    let l = c.loop-x in
    omega (arith, l.invariant.0, c.requires.2 l.x c.loop-x-test.true)

pub loop-x-preserved : goal.loop-x-preserved
loop-x-preserved c =
    let l = c.loop-x in
    (c.lower.auto.prices ∙ l.invariant.0, c.lower.ensures ∙ pass_more mark _ _ _ l.new l.x c.loop-x-test.true l.invariant.1)

pub shape_of-new : goal.shape_of-new
shape_of-new c = c.loop-x.invariant.0 ∙ sym (long (goal.at.shape_of-new c).Start)

pub returns : goal.returns
returns c = let all : c.loop-x.x ≡ length c.args.old.now = omega arith in rw all at c.loop-x.invariant.1
