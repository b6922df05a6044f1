-- `explore::next_round` meets its contract: the choice and the expansion are those of the search that the table holds. Assumes nothing.
use Rattle.std.proofs.Common.{◌≤◌, refl, sym, ◌∙◌, Ok, Err, arith, length, eqb-true}
use Rattle.std.proofs.lemmas.Result.{err_from_is_err_and}
use borrow.Author.Tests.{eqb-false}
use Rattle.task.specs.Factors.{all_states}
use Rattle.layer.specs.Board.{row_on}
use Rattle.layer.specs.Board.Laws.{row_on_lem}
use Rattle.layer.specs.Held.{board_in}
use Rattle.blocks.specs.Choice.Laws.{choose_none, choose_first}
use Rattle.explore.specs.Held.Rounds.{retired_keyed, retired_room, ahead_finished, ahead_spent, ahead_full, ahead_on}
use Rattle.explore.proofs.next_round.Goals as goal

pub returns-in_default-clause-rounded : goal.returns-in_default-clause-rounded
returns-in_default-clause-rounded c =
    let a = c.args in
    λ t f h. ahead_finished t f.valid a.search.now.offers.nodes c.requires.room.few_nodes a.budget (all_states t) a.table.now a.scan.now a.run h
    (choose_none a.run.best_cost a.scan.now a.run.count c.in_default.ensures)

pub returns-then-is_spent-clause-rounded : goal.returns-then-is_spent-clause-rounded
returns-then-is_spent-clause-rounded c =
    let a = c.args in
    let picked = choose_first a.run.best_cost a.scan.now a.run.count c.in-Some.u c.in-Some.ensures in
    λ t f h. ahead_spent t f.valid a.search.now.offers.nodes c.requires.room.few_nodes a.budget (all_states t) a.table.now a.scan.now a.run h
    c.in-Some.u picked (eqb-true _ _ (sym c.is_spent.ensures ∙ c.if-is_spent.true))

pub expand-requires-clause-room : goal.expand-requires-clause-room
expand-requires-clause-room c =
    let a = c.args in
    retired_room (row_on (board_in a.search.now.offers.board)) a.search.now.offers.nodes a.table.now a.scan.now c.retire.new.scan a.run c.in-Some.u c.requires.room c.in-Some.ensures.inside c.retire.ensures

pub returns-in_err-expand-clause-rounded : goal.returns-in_err-expand-clause-rounded
returns-in_err-expand-clause-rounded c =
    let a = c.args in
    let room = c.requires.room in
    let u = c.in-Some.u in
    let picked = choose_first a.run.best_cost a.scan.now a.run.count u c.in-Some.ensures in
    let long : a.run.count ≤ length a.scan.now = omega (arith, room.scan_long, room.count_few, room.few_nodes) in
    let P = c.retire.new.scan in
    let keyed = retired_keyed (row_on (board_in a.search.now.offers.board)) a.search.now.offers.nodes a.table.now a.scan.now P a.run u room c.in-Some.ensures.inside c.retire.ensures in
    let left = eqb-false a.run.begun a.budget (sym c.is_spent.ensures ∙ c.if-is_spent.false) in
    let p = err_from_is_err_and c.from_residual.result c.from_residual.ensures.1 in
    λ t f h. rw (p.1, p.2)
    (ahead_full t f.valid a.search.now.offers.nodes room.few_nodes a.budget (all_states t) a.table.now a.scan.now a.run h u picked long left P keyed
    (Err c.in_err-expand.field-0.0) c.expand.new.table c.expand.new.scan (c.in_err-expand.ensures.expanded t f) refl)

pub returns-clause-rounded : goal.returns-clause-rounded
returns-clause-rounded c =
    let a = c.args in
    let b = board_in a.search.now.offers.board in
    let room = c.requires.room in
    let u = c.in-Some.u in
    let picked = choose_first a.run.best_cost a.scan.now a.run.count u c.in-Some.ensures in
    let long : a.run.count ≤ length a.scan.now = omega (arith, room.scan_long, room.count_few, room.few_nodes) in
    let P = c.retire.new.scan in
    let keyed = retired_keyed (row_on b) a.search.now.offers.nodes a.table.now a.scan.now P a.run u room c.in-Some.ensures.inside c.retire.ensures in
    let left = eqb-false a.run.begun a.budget (sym c.is_spent.ensures ∙ c.if-is_spent.false) in
    let x = c.in_ok-expand in
    λ t f h. (
      ahead_on t f.valid a.search.now.offers.nodes room.few_nodes a.budget (all_states t) a.table.now a.scan.now a.run h u picked long left P keyed
          (Ok x.field-0) c.expand.new.table c.expand.new.scan (x.ensures.expanded t f) refl x.ensures.grown.2 (rw (row_on_lem t b f.fits) at x.ensures.grown.3),
      x.ensures.grown.2,
    )
