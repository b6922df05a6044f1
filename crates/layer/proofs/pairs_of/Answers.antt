-- `layer::pairs_of` meets its contract: a part of a list is the list of its entries. Assumes nothing.
use Rattle.std.proofs.Common.{◌≡◌, refl, ◌∙◌, List, ℕ, zero, suc, ◌++◌, ◌+◌, ◌*◌, ◌≤◌, arith, length, get_or, drop, drop-cons}
use Rattle.std.proofs.Math.Seq.{append_snoc}
use Rattle.loops.specs.Count.{list}
use Rattle.loops.specs.Count.Laws.{list_over, list_ext}
use Rattle.loops.specs.Slices.{slice_at}
use Rattle.layer.proofs.pairs_of.Goals as goal

listed : (m : ℕ) (xs : List ℕ) → m ≤ length xs → xs ≡ list m (λ v. get_or xs v 0) ++ drop m xs
unfolding list
listed zero xs h = refl
listed (suc m) xs h = listed m xs (omega arith) ∙ rw (drop-cons xs m 0 (omega arith), append_snoc)

pub returns : goal.returns
returns c =
    let xs = c.args.conditions.now in
    let at = c.args.action * 32 in
    let ys = c.copy_from_slice.new.self in
    let long : length ys ≡ 32 = c.copy_from_slice.auto.self in
    list_over 32 32 (λ v. get_or ys v 0) ys ys (listed 32 ys (omega arith)) refl (omega arith)
    ∙ list_ext 32 _ _ (λ v l. rw c.copy_from_slice.ensures.after (slice_at xs at (at + 32) v (omega arith)))
