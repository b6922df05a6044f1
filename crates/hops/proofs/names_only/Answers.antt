use Rattle.std.proofs.Common.{◌≡◌, refl, ap, ◌∙◌, ◌||◌, ◌&&◌, ◌+◌, Bool, ℕ, add-one, arith, eqb, get_or}
use Rattle.loops.specs.Count.{all}
use Rattle.loops.specs.Count.Chains.{part_length, part_at}
use Rattle.hops.specs.Hops.{names_only}
use Rattle.hops.proofs.names_only.Goals as goal

pub loop-w-init : goal.loop-w-init
unfolding all
loop-w-init c = refl

pub loop-w-preserved : goal.loop-w-preserved
unfolding all
loop-w-preserved c =
    let l = c.loop-w in
    let a = c.args in
    let p : ℕ → Bool = λ k. eqb k a.v || eqb (get_or a.pairs.now (a.at + k) 0) 16 in
    ap (λ x. l.alone && (eqb l.w a.v || eqb x 16)) (part_at a.pairs.now a.at 32 l.w 0 (omega (arith, part_length a.pairs.now a.at 32 c.requires)))
    ∙ rw add-one (ap (λ t. t && p l.w) l.invariant)

pub returns : goal.returns
unfolding names_only
returns c =
    let every : c.loop-w.w ≡ 32 = omega (arith, part_length c.args.pairs.now c.args.at 32 c.requires) in
    rw every at c.loop-w.invariant
