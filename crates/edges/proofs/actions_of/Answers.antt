use Rattle.std.proofs.Common.{arith, length-take, get_or-take}
use Rattle.edges.specs.Edges.{those, of_leaf}
use Rattle.edges.specs.Edges.Those.{front_none, those_turn}
use Rattle.edges.proofs.actions_of.Goals as goal

pub loop-a-init : goal.loop-a-init
unfolding those
loop-a-init c = record { few = omega arith; front = front_none c.args.acts.now }

pub loop-a-preserved : goal.loop-a-preserved
loop-a-preserved c =
    let s = c.args in
    let l = c.loop-a in
    let kind = get_or-take s.actions s.kinds.now l.a 0 (omega (arith, length-take s.actions s.kinds.now)) in
    record {
      few = grind arith;
      front = those_turn (of_leaf s.kinds.now s.i) l.a s.acts.now l.acts _ l.count _ (omega (arith, length-take s.actions s.kinds.now)) l.invariant.front
          (λ e. grind (arith, kind)) (λ e. grind (arith, kind));
    }
