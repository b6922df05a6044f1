use Rattle.std.proofs.Common.{refl, ap, ◌∙◌, ◌≡◌, ◌&&◌, add-one, arith, eqb, bit_xor, get_or, length}
use Rattle.loops.specs.Count.{all}
use Rattle.detours.specs.Detours.{same_front}
use Rattle.detours.specs.Detours.Laws.{or_none, xor_same}
use Rattle.detours.proofs.same_words.Goals as goal

pub loop-j-init : goal.loop-j-init
unfolding all
loop-j-init c = refl

pub loop-j-preserved : goal.loop-j-preserved
unfolding all
loop-j-preserved c =
    let l = c.loop-j in
    let a = c.args in
    let x = get_or a.xs.now l.j 0 in
    let y = get_or a.ys.now l.j 0 in
    or_none l.apart (bit_xor x y) ∙ ap (λ t. eqb l.apart 0 && t) (xor_same x y) ∙ ap (λ t. t && eqb x y) l.invariant ∙ rw (add-one l.j)

pub returns : goal.returns
unfolding same_front
returns c = let every : c.loop-j.j ≡ length c.args.xs.now = omega arith in rw every at c.loop-j.invariant
