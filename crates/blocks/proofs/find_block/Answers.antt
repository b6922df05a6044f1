-- `blocks::find_block` meets its contract: four parts of four words, joined two by two. Assumes nothing.
use Rattle.std.proofs.Common.{List, ℕ, Option, arith, drop, drop-drop, length-drop}
use Rattle.blocks.specs.Block.{Found, joined_by}
use Rattle.blocks.specs.Block.Laws.{first_two, found_take}
use Rattle.blocks.proofs.find_block.Goals as goal

-- the first place in 16 words, by those in its quarters
first_four : (K : List ℕ) (w : ℕ) (a b c d : Option ℕ) → Found K 4 w a → Found (drop 4 K) 4 w b → Found (drop 8 K) 4 w c → Found (drop 12 K) 4 w d
    → Found K 16 w (joined_by (joined_by a 4 b) 8 (joined_by c 4 d))
first_four K w a b c d p q r s =
    let high = first_two (drop 8 K) 4 4 w c d r (rw drop-drop s) in
    first_two K 8 8 w (joined_by a 4 b) (joined_by c 4 d) (first_two K 4 4 w a b p q) high

pub returns : goal.returns
returns c =
    let K = c.args.words.now in
    let w = c.args.word in
    rw (c.joined.ensures, c.joined-low.ensures, c.joined-high.ensures)
    (first_four K w _ _ _ _ (found_take K 4 w _ (omega arith) c.find-first.ensures)
    (found_take (drop 4 K) 4 w _ (omega (arith, length-drop 4 K)) c.find-second.ensures)
    (found_take (drop 8 K) 4 w _ (omega (arith, length-drop 8 K)) c.find-third.ensures)
    (found_take (drop 12 K) 4 w _ (omega (arith, length-drop 12 K)) c.find-fourth.ensures))
