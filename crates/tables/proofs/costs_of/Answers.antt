use Rattle.std.proofs.Common.{ap, ℕ, ◌+◌, ◌≡◌, ◌<◌, ◌≤◌, arith, length, get_or, take, replicate, length-take}
use Rattle.drive.specs.Drive.{drive_time}
use Rattle.tables.specs.Tables.Laws.{filled_more, each_front}
use Rattle.tables.proofs.costs_of.Goals as goal
use Rattle.tables.proofs.costs_of.Goals.{In-loop-a}

-- the turn's action
below : (c : In-loop-a) → c.loop-a.a < c.args.actions
below c =
    let few : length (take c.args.actions (replicate {A = ℕ} 256 0)) ≤ c.args.actions = simp length-take (omega arith) in
    omega (arith, c.loop-a-test.true, few)

pub overflow_add-cost : goal.overflow_add-cost
overflow_add-cost c =
    let fits = c.requires.by_index c.loop-a.a (below (goal.at.overflow_add-cost c).In-loop-a) in
    omega (arith, c.drive_time-time.ensures.named)

pub loop-a-preserved : goal.loop-a-preserved
loop-a-preserved c =
    let l = c.loop-a in
    let handling = get_or c.args.handling.now l.a 0 in
    filled_more _ l.a l.cost-items (omega arith) l.invariant (ap (λ (t : ℕ). handling + t) c.drive_time-time.ensures.named)

pub returns : goal.returns
returns c =
    let l = c.loop-a in
    let a = c.args in
    each_front 256 a.actions l.a (λ k x. x ≡ get_or a.handling.now k 0 + drive_time (get_or a.distance.now k 0)) l.cost-items
    (omega (arith, c.requires.actions_in_bounds.2)) l.invariant l.auto.cost-items c.loop-a-test.false
