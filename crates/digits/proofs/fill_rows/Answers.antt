use Rattle.std.proofs.Common.{◌≡◌, ◌∙◌, ℕ, suc, ◌*◌, arith, length, take}
use Rattle.std.proofs.lemmas.List.{length-take-le, get_or-take}
use Rattle.digits.specs.Moves.{Small}
use Rattle.digits.specs.Digits.{entries, entries_from, Filled, Row}
use Rattle.digits.specs.Digits.Laws.{row_inside, row_next, rows_more, rows_same}
use Rattle.digits.specs.Paired.{begins}
use Rattle.digits.specs.Paired.Laws.{from_behind, to_behind}
use Rattle.digits.proofs.fill_rows.Goals as goal
use Rattle.digits.proofs.fill_rows.Goals.{Start}

-- the bases of the leaves alone
fronts : (s : Start) → (length (take s.args.leaves s.args.bases.now) ≡ s.args.leaves) × Filled s.args.leaves (begins s.args.pairs.now) (take s.args.leaves s.args.bases.now)
fronts s =
    (length-take-le s.args.leaves s.args.bases.now (omega (arith, s.requires.leaves_in_bounds)), λ k m. get_or-take s.args.leaves s.args.bases.now k 0 m ∙ s.requires.filled k (omega arith))

pub fill_action-requires : goal.fill_action-requires
fill_action-requires c =
    let a = c.loop-a.a in
    let p = c.args.pairs.now in
    let here = c.behind.ensures in
    let front = fronts (goal.at.fill_action-requires c).Start in
    let inside = row_inside a c.args.actions (begins p c.args.leaves) c.loop-a-test.true in
    rw (front.0, here.variables, here.factors, here.sizes) (record {
      room = omega (arith, c.requires.room, inside, c.loop-a.invariant.1, c.loop-a.invariant.2);
      filled = front.1;
      by_index = λ i l. to_behind (λ con eff. Small p.variables (entries p.factors.now) (entries p.sizes.now) eff (suc i)) (a * 32) p.conditions.now p.effects.now _ _ here.conditions here.effects (c.requires.by_index a c.loop-a-test.true i l);
    })

pub loop-a-preserved : goal.loop-a-preserved
loop-a-preserved c =
    let l = c.loop-a in
    let a = c.args in
    let p = a.pairs.now in
    let here = c.behind.ensures in
    let front = fronts (goal.at.loop-a-preserved c).Start in
    let filled = rw (front.0, here.variables, here.factors, here.sizes) at c.fill_action.ensures in
    let next = c.fill_action.new.moves in
    let con : ℕ → ℕ → ℕ = λ k. entries_from (k * 32) p.conditions.now in
    let eff : ℕ → ℕ → ℕ = λ k. entries_from (k * 32) p.effects.now in
    let row = from_behind (λ con eff. Row p.variables (entries p.factors.now) (entries p.sizes.now) con eff l.from a.leaves next) (l.a * 32) p.conditions.now p.effects.now _ _ here.conditions here.effects filled.row in (
      omega arith,
      c.fill_action.auto.moves ∙ l.invariant.1,
      row_next l.a _ l.invariant.2 (c.requires.filled a.leaves (omega arith)),
      rows_same l.a _ a.moves.now l.moves next l.invariant.2 l.invariant.3 filled.same,
      rows_more p.variables (entries p.factors.now) (entries p.sizes.now) con eff a.leaves l.a l.moves next l.invariant.2 l.invariant.4 row filled.same,
    )
