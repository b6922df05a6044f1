use Rattle.std.proofs.Common.{◌≡◌, refl, ap, ◌∙◌, List, ℕ, ◌+◌, ◌-◌, ◌≤◌, arith, length, take}
use Rattle.loops.specs.Count.{any}
use Rattle.layer.specs.Board.{base_on, settle_on, settled_on}
use Rattle.layer.specs.Board.Turns.{laid_none, laid_more, laid_rest}
use Rattle.layer.specs.Held.{board_in}
use Rattle.leaf.specs.Settle.Sweeps.{or_false}
use Rattle.sweeps.specs.Sweeps.{swept_by}
use Rattle.sweeps.specs.Sweeps.Still.{any_next, put_back}
use Rattle.sweeps.proofs.settle_edges.Goals as goal

pub loop-i-init : goal.loop-i-init
unfolding any
loop-i-init c = record { within = omega arith; laid = laid_none _ _ _ c.args.board.now.sound.bases_first; same = λ _. refl; told = refl }

pub loop-i-preserved : goal.loop-i-preserved
loop-i-preserved c =
    let l = c.loop-i in
    let b = board_in c.args.board.now in
    let states = c.leaf-states.ensures in
    let from = base_on b l.i in
    let to = base_on b (l.i + 1) in
    let one = rw (states.begins, states.stops) at c.settle_leaf.ensures in
    let kept = rw (states.begins, states.stops) at c.settle_leaf.auto.prices in
    let rise : from ≤ to = omega (arith, c.args.board.now.sound.bases_rise l.i c.loop-i-test.true) in
    let room : to ≤ length l.new = omega (arith, states.inside, states.stops, c.requires.2, l.invariant.laid.kept) in
    let settled = one.settled ∙ ap (λ (xs : List ℕ). settle_on b l.i c.args.centre (take (to - from) xs)) (laid_rest l.invariant.laid) in
    rw (states.begins, states.stops)
    record {
      within = omega arith;
      laid = laid_more _ l.i from to _ l.new _ rise room l.invariant.laid settled kept;
      same = λ e. let none = or_false l.swept _ e in put_back from (to - from) l.new _ (one.same none.1) ∙ l.invariant.same none.0;
      told = any_next l.i _ l.invariant.told one.told;
    }

pub returns : goal.returns
unfolding settled_on swept_by
returns c =
    let l = c.loop-i in
    let all : l.i ≡ c.args.board.now.leaves = omega arith in
    (l.invariant.laid.laid ∙ rw all, l.invariant.same, l.invariant.told ∙ rw all)
