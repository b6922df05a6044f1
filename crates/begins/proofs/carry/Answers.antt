-- `begins::carry` meets its contract: where no state moves the prices that stand there are what passes. Assumes nothing.
use Rattle.std.proofs.Common.{ap, ◌+◌, ◌≤◌, arith, length, get_or}
use Rattle.search.specs.Node.{least_of}
use Rattle.begins.specs.Begin.{pass_rises, copy_passes}
use Rattle.begins.proofs.carry.Goals as goal
use Rattle.begins.proofs.carry.Goals.{After-least-2}

-- the least price does not fall
rises : (c : After-least-2) → c.least-2.result ≤ c.least.result
rises c =
    let a = c.args in
    omega (arith, pass_rises (length a.old.now) (λ x. get_or a.moves.now (a.at + x) 0) a.old.now, ap least_of c.pass.ensures)

pub returns-then-still-ne0 : goal.returns-then-still-ne0
returns-then-still-ne0 c =
    let a = c.args in
    let stays = c.if-still-ne0.true in
    let passed = copy_passes (λ x. get_or a.moves.now (a.at + x) 0) a.old.now a.new.now (λ x. omega (arith, c.type_inv.old x)) (c.requires.stays stays) (c.requires.copied stays) in
    record { passed = passed.0; rise = passed.1 }

pub overflow_sub-result : goal.overflow_sub-result
overflow_sub-result c = omega (arith, rises (goal.at.overflow_sub-result c).After-least-2)

pub returns-clause-rise : goal.returns-clause-rise
returns-clause-rise c = omega (arith, rises (goal.at.returns-clause-rise c).After-least-2)
