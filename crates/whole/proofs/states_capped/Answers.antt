use Rattle.std.proofs.Common.{◌≡◌, sym, ◌∙◌, eqb, true, false, length, get_or, arith, rules}
use Rattle.std.proofs.lemmas.List.{length_push}
use Rattle.std.proofs.lemmas.Slice.Zip.{zip_turn, zip_end}
use Rattle.loops.specs.Count.Laws.{told}
use Rattle.task.specs.Factors.{states_to}
use Rattle.whole.specs.Whole.Laws.{capped_in, capped_out}
use Rattle.whole.proofs.states_capped.Goals as goal

pub loop-f-init : goal.loop-f-init
unfolding states_to
loop-f-init c = search rules

pub times_capped-states-requires : goal.times_capped-states-requires
times_capped-states-requires c = omega arith

pub loop-f-preserved-then-is_factor : goal.loop-f-preserved-then-is_factor
loop-f-preserved-then-is_factor c =
    let l = c.loop-f in
    let turn = zip_turn c.args.factors.now c.args.sizes.now l.yielded c.into_iter-f-iterator.result l.f-iterator c.next.new.self c.next.result (cc) (cc) l.yielded_by _ c.in-Some.is c.next.ensures.steps in
    let e : eqb (get_or c.args.factors.now (length l.yielded) 0) c.args.leaf ≡ true = rw (← turn.2 0) (told c.is_factor.ensures c.if-is_factor.true) in
    let more = capped_in (λ v. get_or c.args.factors.now v 0) (λ v. get_or c.args.sizes.now v 0) c.args.leaf (length l.yielded) e in
    (c.loop-f.invariant.0, c.loop-f.invariant.1, c.times_capped-states.ensures ∙ rw (length_push, ← more, l.invariant.2, turn.3 0))

pub loop-f-preserved : goal.loop-f-preserved
loop-f-preserved c =
    let l = c.loop-f in
    let turn = zip_turn c.args.factors.now c.args.sizes.now l.yielded c.into_iter-f-iterator.result l.f-iterator c.next.new.self c.next.result (cc) (cc) l.yielded_by _ c.in-Some.is c.next.ensures.steps in
    let e : eqb (get_or c.args.factors.now (length l.yielded) 0) c.args.leaf ≡ false = rw (← turn.2 0) (told c.is_factor.ensures c.if-is_factor.false) in
    let more = capped_out (λ v. get_or c.args.factors.now v 0) (λ v. get_or c.args.sizes.now v 0) c.args.leaf (length l.yielded) e in
    (c.loop-f.invariant.0, c.loop-f.invariant.1, rw (length_push, ← more) l.invariant.2)

pub returns : goal.returns
returns c =
    let l = c.loop-f in
    let end = zip_end c.args.factors.now c.args.sizes.now l.yielded c.into_iter-f-iterator.result l.f-iterator c.next.new.self c.next.result (cc) (cc) l.yielded_by c.in-None.is c.next.ensures.steps in
    let e : length l.yielded ≡ length c.args.factors.now = omega (arith, end) in
    rw (sym e) l.invariant.2
