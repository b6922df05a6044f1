use Rattle.std.proofs.Common.{◌≡◌, refl, sym, length, rules}
use Rattle.leaf.specs.Price.{mark}
use Rattle.leaf.specs.Settle.Turns.{settled_none}
use Rattle.settle.proofs.settle.Goals as goal

pub returns-then-is_empty : goal.returns-then-is_empty
returns-then-is_empty c =
    let none : length c.args.actions.now.acts.now ≡ 0 = search rules in
    rw none (sym (settled_none mark _ _ c.args.prices.now))

pub settle_by-requires-clause-aim : goal.settle_by-requires-clause-aim
settle_by-requires-clause-aim c = record { count = _; cost = _; to = _; meant = record { lent = c.requires.lent; many = refl; costs = refl; moves = refl } }

pub returns : goal.returns
returns c = c.settle_by.ensures _ _ _ (record { lent = c.requires.lent; many = refl; costs = refl; moves = refl })
