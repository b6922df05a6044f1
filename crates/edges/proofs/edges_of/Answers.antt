use Rattle.std.proofs.Common.{arith}
use Rattle.edges.specs.Edges.{picked, moved_by}
use Rattle.edges.specs.Edges.Those.{front_none, picked_turn}
use Rattle.edges.proofs.edges_of.Goals as goal

pub loop-a-init : goal.loop-a-init
unfolding picked
loop-a-init c = record { few = omega arith; front = front_none c.args.acts.now }

pub loop-a-preserved : goal.loop-a-preserved
loop-a-preserved c =
    let s = c.args in
    let l = c.loop-a in
    record {
      few = grind arith;
      front = picked_turn (moved_by s.moves.now s.row s.s) s.own.now l.a-index s.acts.now l.acts _ l.count _ (omega arith) l.invariant.front (λ e. grind arith) (λ e. grind arith);
    }
