-- `blocks::choose` meets its contract: the first of the least upper words leads to the first block word that is the same, and that to the first such key.
-- Assumes nothing.
use Rattle.std.proofs.Common.{◌≡◌, refl, ap, ℕ, ◌+◌, ◌-◌, ◌/◌, ◌≤◌, arith, length, take, get_or, get_or-drop, length-drop, length-take-le}
use Rattle.blocks.specs.Choice.{Picked}
use Rattle.blocks.specs.Block.{block_words, upper_words}
use Rattle.blocks.specs.Block.Laws.{upper_none, upper_picked, picked_some, picked_there, first_part, there_part, under_found}
use Rattle.blocks.proofs.choose.Goals as goal
use Rattle.blocks.proofs.choose.Goals.{Start, In_ok-upper, After-place_of-block}

-- there are as many words as are looked at
uppers : (t : Start) → (t.args.count + 255) / 256 ≤ length (upper_words t.args.scan.now)
uppers t = omega (arith, length-drop 7440 t.args.scan.now, t.requires.0)

blocks : (t : Start) → 256 ≤ length (block_words t.args.scan.now)
blocks t = omega (arith, length-drop 7184 t.args.scan.now)

-- the upper words that are looked at
few : (n : ℕ) → 7440 + (n + 255) / 256 - 7440 ≡ (n + 255) / 256
few n = omega arith

pub returns-in_err-upper : goal.returns-in_err-upper
returns-in_err-upper c =
    let a = c.args in
    let W = upper_words a.scan.now in
    rw c.from_residual.ensures
    (upper_none a.bound a.scan.now _ a.count c.requires.1 c.requires.0 c.requires.2 (uppers (goal.at.returns-in_err-upper c).Start) (ap (λ (k : ℕ). take k W) (few a.count)) c.in_err-upper.ensures)

-- an upper word is picked
upper : (t : In_ok-upper) → Picked t.args.bound (upper_words t.args.scan.now) 16 t.in_ok-upper.upper
upper t =
    let a = t.args in
    let W = upper_words a.scan.now in
    upper_picked a.bound a.scan.now _ a.count t.requires.1 t.requires.0 t.requires.2 (omega (arith, length-drop 7440 a.scan.now, t.requires.0)) (ap (λ (k : ℕ). take k W) (few a.count)) t.in_ok-upper.upper t.in_ok-upper.ensures

pub place_of-block-requires : goal.place_of-block-requires
place_of-block-requires c =
    let a = c.args in
    let W = block_words a.scan.now in
    let g = c.in_ok-upper.upper in
    let p = upper (goal.at.place_of-block-requires c).In_ok-upper in
    let wide = blocks (goal.at.place_of-block-requires c).Start in
    let long = length-take-le 256 W wide in
    let some = picked_there a.bound W (upper_words a.scan.now) 16 256 (omega arith) c.requires.1 c.requires.2.words g _ p (get_or-drop 7440 a.scan.now g 0) in
    (omega (arith, long, p.inside), omega (arith, long), there_part W _ 256 wide refl g _ some)

-- so is a block word, which is the same
block : (t : After-place_of-block) → let a = t.args in let C = a.scan.now in let b = t.place_of-block.result in
    Picked a.bound (upper_words C) 16 t.in_ok-upper.upper
    → (get_or (block_words C) b 0 ≡ get_or C (7440 + t.in_ok-upper.upper) 0) × Picked a.bound (block_words C) 256 b
block t p =
    let a = t.args in
    let W = block_words a.scan.now in
    let g = t.in_ok-upper.upper in
    let wide : 256 ≤ length W = omega (arith, length-drop 7184 a.scan.now) in
    under_found a.bound W (upper_words a.scan.now) 16 256 (omega arith) t.requires.1 t.requires.2.words g _ t.place_of-block.result p
    (get_or-drop 7440 a.scan.now g 0) (first_part W _ 256 wide refl g _ _ t.place_of-block.ensures)

pub place_of-requires : goal.place_of-requires
place_of-requires c =
    let a = c.args in
    let C = a.scan.now in
    let b = c.place_of-block.result in
    let (same, p) = block (goal.at.place_of-requires c).After-place_of-block (upper (goal.at.place_of-requires c).In_ok-upper) in
    let wide : a.count ≤ length C = omega (arith, c.requires.0) in
    let long = length-take-le a.count C wide in
    let keys = c.requires.2.keys in
    let inside = picked_some a.bound C (block_words C) 256 a.count (omega (arith, c.requires.0)) c.requires.1 keys b p in
    let some = picked_there a.bound C (block_words C) 256 a.count (omega (arith, c.requires.0)) c.requires.1 keys b _ p same in
    (omega (arith, inside, long), omega (arith, long, c.requires.0), there_part C _ a.count wide refl b _ some)

pub returns : goal.returns
returns c =
    let a = c.args in
    let C = a.scan.now in
    let (same, p) = block (goal.at.returns c).After-place_of-block (upper (goal.at.returns c).In_ok-upper) in
    let place = first_part C _ a.count (omega (arith, c.requires.0)) refl c.place_of-block.result _ _ c.place_of.ensures in
    (under_found a.bound C (block_words C) 256 a.count (omega (arith, c.requires.0)) c.requires.1 c.requires.2.keys c.place_of-block.result _ c.place_of.result p same place).1
