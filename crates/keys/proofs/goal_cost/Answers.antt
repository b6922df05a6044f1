-- `keys::goal_cost` meets its contract: the centre meets the goal, or it does not. Assumes nothing.
use Rattle.std.proofs.Common.{sym, ◌∙◌}
use Rattle.keys.specs.Scan.{goal_cost_by}
use Rattle.keys.specs.Scan.Laws.{goal_met}
use Rattle.keys.proofs.goal_cost.Goals as goal

pub returns-then-not-is_met : goal.returns-then-not-is_met
unfolding goal_cost_by
returns-then-not-is_met c =
    let a = c.args in
    rw (sym (c.is_met.ensures ∙ goal_met a.board.now.factors a.goal a.spot) ∙ c.if-not-is_met.true)

pub returns : goal.returns
unfolding goal_cost_by
returns c =
    let a = c.args in
    rw (sym (c.is_met.ensures ∙ goal_met a.board.now.factors a.goal a.spot) ∙ c.if-not-is_met.false) c.goal_sum.ensures
