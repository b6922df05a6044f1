use Rattle.std.proofs.Common.{sym, subst, ◌∙◌, ℕ, ◌-◌, arith, get_or, length-set}
use Rattle.layer.specs.Held.{board_in}
use Rattle.wayback.specs.Held.{kept_twice}
use Rattle.plans.specs.Walk.{WalkableOn}
use Rattle.plans.specs.Walk.Turns.{layer_less, layer_end}
use Rattle.plans.specs.Fit.{back_few}
use Rattle.plans.proofs.layer_back.Goals as goal

pub loop-i-preserved : goal.loop-i-preserved
loop-i-preserved c =
    let l = c.loop-i in
    let a = c.args in
    let b = board_in a.board.now in
    let walks : WalkableOn b a.starts.now a.table.now (l.i - 1) a.node (get_or l.ends (l.i - 1) 0) =
    subst (λ (y : ℕ). WalkableOn b a.starts.now a.table.now (l.i - 1) a.node y) (sym (l.invariant.left.waits (l.i - 1) (omega arith)))
    (c.requires.walkable (l.i - 1) (omega arith)) in
    let few = back_few b a.starts.now a.table.now (l.i - 1) a.node _ walks in record {
      below = omega arith;
      ends_long = simp length-set l.invariant.ends_long;
      tight_long = c.leaf_step.auto.tight ∙ l.invariant.tight_long;
      kept = kept_twice l.invariant.kept c.leaf_step.ensures.kept;
      left =
          layer_less _ _ _ _ _ _ l.i l.out.place l.ends l.out.plan.now _ _ _ (omega arith)
          (omega (arith, l.invariant.below, l.invariant.ends_long, c.requires.standing.1)) few
          (rw l.invariant.kept.total at c.leaf_step.ensures.walked) l.invariant.left;
    }

pub returns-clause-walked : goal.returns-clause-walked
returns-clause-walked c =
    let l = c.loop-i in
    layer_end _ _ _ _ _ _ l.i l.out.place l.ends l.out.plan.now (omega arith) l.invariant.left
