-- `wayback::depths_of` meets its contract. Depths are what settling makes of where they begin, along the edges at cost 1. Assumes nothing.
use Rattle.std.proofs.Common.{◌≡◌, refl, sym, ap, ◌∙◌, List, ℕ, ◌-◌, arith, length, take, drop, length-drop}
use lib.Seq.{take-length}
use Rattle.wayback.specs.Steps.{depths_by}
use Rattle.wayback.proofs.depths_of.Goals as goal

-- the moves from where the leaf's begin
rest : (at : ℕ) (moves : List ℕ) → take (length moves - at) (drop at moves) ≡ drop at moves
rest at moves = ap (λ (k : ℕ). take k (drop at moves)) (sym (length-drop at moves)) ∙ take-length (drop at moves)

pub settle_along-requires : goal.settle_along-requires
settle_along-requires c =
    let long : length c.first_depths.new.depths ≡ length c.args.prices.now = c.first_depths.auto.depths ∙ c.requires.begins_len.1 in
    (omega (arith, long, c.requires.begins_len.2), rw (long, rest c.args.ways.now.at c.args.ways.now.moves.now) c.requires.ways.0, rw (long, rest c.args.ways.now.at c.args.ways.now.moves.now) c.requires.ways.1)

pub returns : goal.returns
unfolding depths_by
returns c m to meant =
    let long : length c.first_depths.new.depths ≡ length c.args.prices.now = c.first_depths.auto.depths ∙ c.requires.begins_len.1 in
    c.settle_along.ensures m (λ j. 1) to (rw (long, rest c.args.ways.now.at c.args.ways.now.moves.now) meant) ∙ rw c.first_depths.ensures refl
