use Rattle.std.proofs.Common.{◌∙◌, ap, cond, ◌&&◌, eqb, get_or, List, ℕ, arith, rules, ◌≡◌, length}
use Rattle.loops.specs.Count.Laws.{list_none, list_step, list_over}
use Rattle.task.specs.Factors.{named}
use Rattle.task.specs.Centre.{centre_after}
use Rattle.task.proofs.Centre.after.Goals as goal

pub loop-v-init : goal.loop-v-init
loop-v-init c = list_none _ _

pub loop-v-preserved : goal.loop-v-preserved
loop-v-preserved c =
    let l = c.loop-v in
    let a = c.args in
    list_step l.v _ _ _ _ l.invariant (omega arith)
    (λ kept. c.next_value.ensures ∙ ap (λ k. cond (eqb (get_or a.factors l.v 0) 0 && named (get_or a.effects l.v 0)) (get_or a.effects l.v 0) k) kept)

pub returns : goal.returns
unfolding centre_after
returns c =
    let long : length c.args.self.values ≡ 32 = search rules in
    ap (λ (xs : List ℕ). record { values = xs }) (list_over 32 _ _ _ _ c.loop-v.invariant (omega arith) (omega arith))
