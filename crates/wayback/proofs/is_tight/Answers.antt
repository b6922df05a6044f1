-- `wayback::is_tight` meets its contract. Each return is a case of the definition: no state, another price, the right price. Assumes nothing.
use Rattle.std.proofs.Common.{arith, eqb-true, eq-eqb}
use Rattle.std.proofs.lemmas.Bool.Decides.{nat_tests}
use Rattle.wayback.specs.Tight.{tight_none, tight_hit, tight_miss, tight_right}
use Rattle.wayback.proofs.is_tight.Goals as goal

pub returns-then-to-eq0 : goal.returns-then-to-eq0
returns-then-to-eq0 c =
    let none = tight_none c.args.prices.now c.args.x c.args.cost c.args.to c.if-to-eq0.true in
    grind (arith, nat_tests)

pub returns-then-there-cost : goal.returns-then-there-cost
returns-then-there-cost c =
    let miss = tight_miss c.args.prices.now c.args.x c.args.cost c.args.to (omega arith) c.requires.1 c.requires.0 (λ e. omega arith) in
    grind (arith, nat_tests)

pub returns : goal.returns
returns c =
    let a = c.args in (
      λ t. omega (arith, tight_hit a.prices.now a.x a.cost a.to (omega arith) c.requires.1 c.requires.0 (omega (arith, eqb-true _ _ t))),
      λ t. eq-eqb _ _ (omega (arith, tight_right a.prices.now a.x a.cost a.to c.requires.1 c.requires.0 t)),
    )
