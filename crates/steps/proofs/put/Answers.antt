use Rattle.std.proofs.Common.{arith, ◌∙◌, ap, cond, eqb, get_or}
use Rattle.loops.specs.Count.Laws.{list_none, list_step}
use Rattle.task.specs.Meaning.{free}
use Rattle.steps.proofs.put.Goals as goal

pub loop-v-init : goal.loop-v-init
loop-v-init c = list_none _ _

pub loop-v-preserved : goal.loop-v-preserved
loop-v-preserved c =
    let l = c.loop-v in
    list_step l.v _ _ _ _ l.invariant (omega arith)
    (λ kept. c.changed.ensures ∙ ap (λ k. cond (eqb (get_or c.args.pairs.now l.v 0) free) k (get_or c.args.pairs.now l.v 0)) kept)
