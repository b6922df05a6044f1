-- `dominance::test_row` meets its contract, by what each refusal says of the row. Assumes nothing.
use Rattle.std.proofs.Common.{sym, ◌∙◌, arith}
use Rattle.rows.specs.Row.Laws.{test_paid, test_price, test_spot}
use Rattle.dominance.proofs.test_row.Goals as goal

pub returns-then-dearer : goal.returns-then-dearer
returns-then-dearer c =
    let a = c.args.candidate.now in
    record { tells = sym (test_paid a.states a.paid c.args.row.now a.prices.now a.spot c.requires.0 a.long c.if-dearer.true); hint = λ low. low }

pub returns-in-Some : goal.returns-in-Some
returns-in-Some c =
    let a = c.args.candidate.now in
    record {
      tells = sym (test_price a.states a.paid c.args.row.now a.prices.now a.spot c.requires.0 a.long _ c.in-Some.ensures);
      hint = λ _. omega (arith, c.in-Some.ensures.inside);
    }

pub returns : goal.returns
returns c =
    let a = c.args.candidate.now in
    record {
      tells =
          c.same_spot.ensures
          ∙ sym (test_spot a.states a.paid c.args.row.now a.prices.now a.spot c.requires.0 a.long c.if-dearer.false c.in_default.ensures);
      hint = λ low. low;
    }
