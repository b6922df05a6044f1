use Rattle.std.proofs.Common.{◌≡◌, sym, ◌∙◌, List, ℕ, ◌+◌, ◌-◌, ◌*◌, ◌/◌, ◌<◌, min, arith, length, get_or, take, drop, get_or-drop, length-drop}
use Rattle.std.proofs.lemmas.List.{take_rest}
use Rattle.search.specs.Node.{least_of}
use Rattle.keys.specs.Scan.Laws.{least_more}
use Rattle.keys.proofs.least.Goals as goal

-- a price more, of those behind the first F
rest_more : (P : List ℕ) (F i : ℕ) → F + i < length P
    → least_of (take (F + (i + 1)) P) ≡ min (least_of (take (F + i) P)) (get_or (take (length P - F) (drop F P)) i 0)
rest_more P F i h =
    let e : F + (i + 1) ≡ F + i + 1 = omega arith in
    rw (e, take_rest P F, get_or-drop F P i 0) (least_more P (F + i) h)

pub loop-price-preserved : goal.loop-price-preserved
loop-price-preserved c =
    let l = c.loop-price in
    let P = c.args.prices.now in
    let room = rw (take_rest P (length P / 4 * 4)) at c.loop-price-test.true in
    c.min-low.ensures ∙ rw l.invariant (sym (rest_more P _ l.price-index (omega (arith, simp length-drop at room))))
