use Rattle.std.proofs.Common.{◌≡◌, refl, ◌∙◌, Bool, ◌&&◌, ℕ, ◌+◌, add-one, arith}
use Rattle.loops.specs.Count.{all}
use Rattle.task.specs.Factors.{holds_in}
use Rattle.task.specs.Centre.{centre_meets}
use Rattle.layer.proofs.is_met.Goals as goal

-- a turn of the loop
more : {h : Bool} (v : ℕ) (p : ℕ → Bool) → h ≡ all v p → (h && p v) ≡ all (v + 1) p
unfolding all
more v p e = rw (add-one, e)

pub loop-v-init : goal.loop-v-init
unfolding all
loop-v-init c = (omega arith, refl)

pub loop-v-preserved : goal.loop-v-preserved
loop-v-preserved c = let l = c.loop-v in (omega arith, c.pair_too-holds.ensures ∙ more l.v _ l.invariant.1)

pub returns : goal.returns
unfolding centre_meets holds_in
returns c = let e : c.loop-v.v ≡ 32 = omega arith in rw (c.loop-v.invariant.1, e)
