-- `layer::met_by` meets its contract. Where the condition tested first fails, they do not all hold. Assumes nothing.
use Rattle.std.proofs.Common.{ap, sym, ◌∙◌, List, ℕ, get_or}
use Rattle.layer.specs.First.{first_fails}
use Rattle.layer.proofs.met_by.Goals as goal

pub returns-then-conditions-action : goal.returns-then-conditions-action
returns-then-conditions-action c =
    let a = c.args in
    sym (
    first_fails a.factors a.conditions.now a.centre a.action _ c.requires.first c.if-v-lt32.true
    (λ e. c.if-conditions-action.true (e ∙ ap (λ (xs : List ℕ). get_or xs (get_or a.firsts.now a.action 0) 0) (sym c.requires.values.0)))
    )
