-- `expand::turns` meets its contract: what is left of the expansion is the whole, from turn to turn. Assumes nothing.
use Rattle.std.proofs.Common.{◌≡◌, refl, ◌∙◌, Ok, Err, arith, length, get_or, rules}
use Rattle.std.proofs.lemmas.Result.{err_from_is_err_and}
use Rattle.mets.specs.Listed.{past, past_more}
use Rattle.expand.specs.Held.Turns.{passed_none, passed_more, passed_full, passed_next, passed_last, passed_all}
use Rattle.expand.proofs.turns.Goals as goal

pub loop-a-init : goal.loop-a-init
unfolding past
loop-a-init c = (passed_none _ _ _ _ _ _ _ _ _ _ c.requires.room, c.requires.known, refl, refl)

pub turn-requires-clause-met : goal.turn-requires-clause-met
turn-requires-clause-met c =
    let useful = c.requires.useful in
    useful.met _ (useful.listed.inside c.loop-a.a-index c.loop-a-test.true) (useful.listed.holds c.loop-a.a-index c.loop-a-test.true)

pub turn-requires-clause-inside : goal.turn-requires-clause-inside
turn-requires-clause-inside c =
    (omega (arith, c.requires.inside, c.loop-a.invariant.0.more), c.requires.useful.listed.inside c.loop-a.a-index c.loop-a-test.true)

pub turn-requires-clause-long : goal.turn-requires-clause-long
turn-requires-clause-long c =
    let l = c.loop-a in
    (omega (arith, c.requires.long.0, l.invariant.2), omega (arith, c.requires.long.1, l.invariant.3))

pub returns-in_err-going-clause-grown : goal.returns-in_err-going-clause-grown
returns-in_err-going-clause-grown c =
    let l = c.loop-a in
    let n = c.args.opened.now.node in
    let useful = c.requires.useful in
    let reached =
    passed_next _ _ _ _ _ _ _ _ _ _ n.spot n.paid n.prices.now c.requires.has c.requires.inside l.table l.scan l.going
    c.args.mets.now useful l.a-index c.loop-a-test.true l.invariant.0 in
    let p = err_from_is_err_and c.from_residual.result c.from_residual.ensures.1 in
    rw (p.1, p.2)
    (passed_full _ _ _ _ _ _ _ _ _ _ n.spot n.paid n.prices.now c.requires.has c.requires.inside l.table l.scan l.going
    _ (useful.listed.inside l.a-index c.loop-a-test.true) reached c.turn.new.table c.turn.new.scan (Err c.in_err-going.field-0.0) c.in_err-going.ensures.moved refl).0

pub returns-in_err-going-clause-expanded : goal.returns-in_err-going-clause-expanded
returns-in_err-going-clause-expanded c =
    let l = c.loop-a in
    let n = c.args.opened.now.node in
    let useful = c.requires.useful in
    let reached =
    passed_next _ _ _ _ _ _ _ _ _ _ n.spot n.paid n.prices.now c.requires.has c.requires.inside l.table l.scan l.going
    c.args.mets.now useful l.a-index c.loop-a-test.true l.invariant.0 in
    let p = err_from_is_err_and c.from_residual.result c.from_residual.ensures.1 in
    rw (p.1, p.2)
    (passed_full _ _ _ _ _ _ _ _ _ _ n.spot n.paid n.prices.now c.requires.has c.requires.inside l.table l.scan l.going
    _ (useful.listed.inside l.a-index c.loop-a-test.true) reached c.turn.new.table c.turn.new.scan (Err c.in_err-going.field-0.0) c.in_err-going.ensures.moved refl).1

pub loop-a-preserved : goal.loop-a-preserved
loop-a-preserved c =
    let l = c.loop-a in
    let n = c.args.opened.now.node in
    let useful = c.requires.useful in
    let reached =
    passed_next _ _ _ _ _ _ _ _ _ _ n.spot n.paid n.prices.now c.requires.has c.requires.inside l.table l.scan l.going
    c.args.mets.now useful l.a-index c.loop-a-test.true l.invariant.0 in
    let long : length c.turn.new.scan ≡ 17696 = search rules in
    let passed =
    passed_more _ _ _ _ _ _ _ _ _ _ n.spot n.paid n.prices.now c.requires.has c.requires.inside l.table l.scan l.going
    _ (useful.listed.inside l.a-index c.loop-a-test.true) reached c.turn.new.table c.turn.new.scan (Ok c.in_ok-going.going) c.in_ok-going.ensures.moved
    refl c.turn.auto.table long in
    (rw (past_more (λ i. get_or c.args.mets.now i 0) l.a-index) passed, c.in_ok-going.ensures.known, c.turn.auto.begin ∙ l.invariant.2, c.turn.auto.room ∙ l.invariant.3)

pub returns-clause-expanded : goal.returns-clause-expanded
returns-clause-expanded c =
    let l = c.loop-a in
    let n = c.args.opened.now.node in
    let every : l.a-index ≡ length c.args.mets.now = omega (arith, c.loop-a-test.false, l.auto.a-index-end) in
    let last =
    passed_last _ _ _ _ _ _ _ _ _ _ n.spot n.paid n.prices.now c.requires.has c.requires.inside l.table l.scan l.going
    c.args.mets.now c.requires.useful (rw every at l.invariant.0) in
    (passed_all _ _ _ _ _ _ _ _ _ _ l.table l.scan l.going _ (omega arith) last).1
