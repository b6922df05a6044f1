use Rattle.std.proofs.Common.{ℕ, suc, ◌≡◌, ◌<◌, ◌≤◌, add-one, arith, length, take, replicate, length-take, rules}
use Rattle.task.specs.Factors.{number_to}
use Rattle.digits.specs.Digits.{entries}
use Rattle.tables.specs.Tables.Laws.{filled_more, each_front}
use Rattle.tables.proofs.starts_of.Goals as goal

pub number_of-requires : goal.number_of-requires
number_of-requires c =
    let a = c.args in
    let few : length (take a.leaves (replicate {A = ℕ} 8 0)) ≤ a.leaves = simp length-take (omega arith) in
    let below : c.loop-i.i < a.leaves = omega (arith, c.loop-i-test.true, few) in
    record { variables_in_bounds = search rules; by_index = c.requires.by_index; variables_bound = rw add-one (c.requires.by_index_2 c.loop-i.i below) }

pub loop-i-preserved : goal.loop-i-preserved
loop-i-preserved c =
    let l = c.loop-i in
    filled_more _ l.i l.start-items (omega arith) l.invariant (rw add-one at c.number_of.ensures)

pub returns : goal.returns
returns c =
    let l = c.loop-i in
    let a = c.args in
    each_front 8 a.leaves l.i (λ k x. x ≡ number_to (entries a.factors.now) (entries a.sizes.now) (suc k) (entries a.values.now) a.variables) l.start-items
    (omega (arith, c.requires.variables_in_bounds.3)) l.invariant l.auto.start-items c.loop-i-test.false
