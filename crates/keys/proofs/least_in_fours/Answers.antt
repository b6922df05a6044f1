use Rattle.std.proofs.Common.{◌≡◌, refl, sym, ◌∙◌, ◌+◌, ◌*◌, ◌≤◌, arith, length}
use Rattle.search.specs.Node.{least_of}
use Rattle.keys.specs.Scan.Laws.{least_four_more}
use Rattle.keys.proofs.least_in_fours.Goals as goal

pub loop-j-init : goal.loop-j-init
unfolding least_of
loop-j-init c = (omega arith, refl)

pub loop-j-preserved : goal.loop-j-preserved
loop-j-preserved c =
    let l = c.loop-j in
    let P = c.args.prices.now in
    let next : (l.j + 1) * 4 ≡ l.j * 4 + 4 = omega arith in
    let room : l.j * 4 + 4 ≤ length P = omega (arith, c.requires, c.loop-j-test.true) in (
      omega arith,
      c.min-low.ensures
          ∙ rw (next, c.min.ensures, c.min-first.ensures, c.min-second.ensures, l.invariant.1) (sym (least_four_more P (l.j * 4) room)),
    )

pub returns : goal.returns
returns c = let l = c.loop-j in let all : l.j ≡ c.args.fours = omega arith in l.invariant.1 ∙ rw all
