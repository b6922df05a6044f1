-- Where the flag is not set, no price is lowered; else the sum, capped at the mark, lowers one. Assumes nothing.
use Rattle.std.proofs.Common.{◌≡◌, sym, get_or, rules}
use Rattle.leaf.specs.Price.{mark}
use Rattle.leaf.specs.Settle.Turns.{lower_none}
use Rattle.leaf.specs.Settle.Sweeps.{fell_none}
use Rattle.sweeps.specs.Sweeps.Leaf.{gated_shut, gated_open}
use Rattle.sweeps.proofs.held.LeafWays.follow.Goals as goal

pub returns-then-self-action-eq0 : goal.returns-then-self-action-eq0
returns-then-self-action-eq0 c = record { lowers = sym (lower_none _ _ _ _ (gated_shut _ _ (search rules))); told = fell_none mark _ _ _ }

pub returns-clause-lowers : goal.returns-clause-lowers
returns-clause-lowers c =
    let set : get_or c.args.self.now.mets.now c.args.action 0 ≡ 0 → ⊥ = search rules in
    rw (gated_open _ _ set, ← c.add_price-v.ensures) c.lowered.ensures.0
