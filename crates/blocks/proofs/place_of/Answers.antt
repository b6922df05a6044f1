-- `blocks::place_of` meets its contract: the place in the block is found, since the key is there. Assumes nothing.
use Rattle.std.proofs.Common.{refl, ◌*◌, ℕ, Option, None, Some, arith, length, drop, length-drop, List}
use Rattle.std.specs.Option.{IsSome}
use Rattle.blocks.specs.Block.{block_size, NoneIs, Found}
use Rattle.blocks.specs.Block.Laws.{found_take}
use Rattle.blocks.proofs.place_of.Goals as goal
use Rattle.blocks.proofs.place_of.Goals.{After-find_key}

-- what was found is the first place among the block's keys
found : (t : After-find_key) → let K = t.args.keys.now in
    Found (drop (t.args.block * 16) K) (block_size (length K) t.args.block) t.args.word t.find_key.result
found t =
    let K = t.args.keys.now in
    found_take (drop (t.args.block * 16) K) _ t.args.word t.find_key.result (omega (arith, length-drop (t.args.block * 16) K)) (rw t.keys_of_block.ensures at t.find_key.ensures)

-- what is there is found
there : (K : List ℕ) (n w : ℕ) (r : Option ℕ) → (NoneIs K n w → ⊥) → Found K n w r → IsSome r
there K n w None some none = absurd (some none)
there K n w (Some k) some p = refl

pub unwrap-requires : goal.unwrap-requires
unwrap-requires c = there _ _ _ _ c.requires.2 (found (goal.at.unwrap-requires c).After-find_key)

pub returns : goal.returns
returns c =
    record { place = c.unwrap.result; is = refl; first = rw c.unwrap.ensures at (found (goal.at.returns c).After-find_key) }
