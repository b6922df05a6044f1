-- `solve::finish` meets its contract: no best is "unsolvable"; best's plan is written or too long. Assumes nothing.
use Rattle.std.proofs.Common.{◌≡◌, refl, arith, length}
use Rattle.task.specs.Factors.{all_states}
use Rattle.plans.specs.Walk.{held_in}
use Rattle.plans.specs.Kept.{real_kept}
use Rattle.solve.specs.Solve.Stops.{run_in, none_is, finish_none, finish_long, finish_solved}
use Rattle.solve.proofs.finish.Goals as goal

pub returns-in_default : goal.returns-in_default
returns-in_default c =
    finish_none c.args.tables.now.task.now c.args.table.now c.args.run c.args.plan.now (none_is c.args.run.best c.in_default.not-Some)

pub write_plan-length-requires-clause-real : goal.write_plan-length-requires-clause-real
write_plan-length-requires-clause-real c =
    let h = c.requires.sound in
    let t = c.args.tables.now.task.now in
    (real_kept t (run_in (all_states t) c.args.table.now c.args.run) (held_in (all_states t) c.args.table.now c.args.run.count) refl h.real, (h.best_in c.in-Some.best c.in-Some.is).1)

pub write_plan-length-requires-clause-node_lt_count : goal.write_plan-length-requires-clause-node_lt_count
write_plan-length-requires-clause-node_lt_count c =
    let h = c.requires.sound in
    ((h.best_in c.in-Some.best c.in-Some.is).0, h.few, h.fits, c.requires.edges)

pub returns-then-length-plan : goal.returns-then-length-plan
returns-then-length-plan c =
    let w = c.write_plan-length in
    let kept : length w.new.plan ≡ length c.args.plan.now = w.auto.plan in
    finish_long c.args.tables.now.task.now c.args.table.now c.args.run c.args.plan.now c.in-Some.best w.result w.new.plan
    c.in-Some.is w.ensures.0 w.ensures.1 (omega (arith, kept, c.if-length-plan.true))

pub returns : goal.returns
returns c =
    let w = c.write_plan-length in
    let kept : length w.new.plan ≡ length c.args.plan.now = w.auto.plan in
    finish_solved c.args.tables.now.task.now c.args.table.now c.args.run c.args.plan.now c.in-Some.best w.result w.new.plan
    c.in-Some.is w.ensures.0 w.ensures.1 (omega (arith, kept, c.if-length-plan.false))
    c.args.run.best_cost (c.requires.sound.best_cost c.in-Some.best c.in-Some.is)
