use Rattle.std.proofs.Common.{◌≡◌, true, ℕ, ◌*◌, ◌<◌, ◌≤◌, not-suc-le-zero, arith, length, take, replicate, length-take}
use Rattle.task.specs.Factors.{star_pairs}
use Rattle.digits.specs.Digits.{entries}
use Rattle.digits.specs.Paired.Laws.{from_behind, to_behind}
use Rattle.tables.specs.Tables.{KindIs}
use Rattle.tables.specs.Tables.Laws.{each_more, each_front}
use Rattle.tables.proofs.kinds_of.Invariants.{kind}
use Rattle.tables.proofs.kinds_of.Goals as goal
use Rattle.tables.proofs.kinds_of.Goals.{In-loop-a}

-- the turn's action
below : (c : In-loop-a) → c.loop-a.a < c.args.actions
below c =
    let few : length (take c.args.actions (replicate {A = ℕ} 256 0)) ≤ c.args.actions = simp length-take (omega arith) in
    omega (arith, c.loop-a-test.true, few)

pub loop-a-init : goal.loop-a-init
loop-a-init c = λ k m. absurd (not-suc-le-zero m)

pub behind-requires : goal.behind-requires
behind-requires c =
    let turn = below (goal.at.behind-requires c).In-loop-a in
    record { conditions = omega (arith, turn, c.requires.few, c.requires.in_bounds); effects = omega (arith, turn, c.requires.few, c.requires.in_bounds) }

pub kind_of-requires : goal.kind_of-requires
kind_of-requires c =
    let a = c.loop-a.a in
    let p = c.args.pairs.now in
    let here = c.behind.ensures in
    record {
      few_leaves = c.requires.few.1;
      star =
          rw (here.variables, here.factors)
          (to_behind (λ con eff. star_pairs p.variables (entries p.factors.now) c.args.leaves con eff ≡ true) (a * 32) p.conditions.now p.effects.now _ _ here.conditions here.effects
          (c.requires.star a (below (goal.at.kind_of-requires c).In-loop-a)));
    }

pub loop-a-preserved : goal.loop-a-preserved
loop-a-preserved c =
    let l = c.loop-a in
    let p = c.args.pairs.now in
    let here = c.behind.ensures in
    let own = rw (here.variables, here.factors) at c.kind_of.ensures in
    let it = from_behind (λ con eff. KindIs p.variables (entries p.factors.now) c.args.leaves con eff c.kind_of.result) (l.a * 32) p.conditions.now p.effects.now _ _ here.conditions here.effects own in
    each_more (kind p c.args.leaves) l.a l.kind-items (omega arith) l.invariant it

pub returns : goal.returns
returns c =
    let l = c.loop-a in
    let a = c.args in
    each_front 256 a.actions l.a (kind a.pairs.now a.leaves) l.kind-items (omega (arith, c.requires.few)) l.invariant l.auto.kind-items c.loop-a-test.false
