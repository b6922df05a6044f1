use Rattle.std.proofs.Common.{◌∙◌, ◌≡◌, arith, length}
use Rattle.std.proofs.lemmas.Result.{err_from_is_err_and}
use Rattle.loops.specs.Parsed.{refused, got}
use Rattle.loops.specs.Parsed.Laws.{turns_end, turns_on, turns_stop}
use Rattle.fields.specs.Fields.{next_field}
use Rattle.parts.specs.Elsewhere.Laws.{elsewhere_set, elsewhere_then}
use Rattle.parts.specs.Grammar.{pair_of, pairs_from}
use Rattle.lists.proofs.read_pairs.Invariants.{rest}
use Rattle.lists.proofs.read_pairs.Goals as goal

pub returns-in_err-pair-clause-told : goal.returns-in_err-pair-clause-told
unfolding pairs_from
returns-in_err-pair-clause-told c =
    let a = c.args in
    let l = c.loop.invariant in
    let p = err_from_is_err_and c.from_residual.result c.from_residual.ensures.1 in
    let e : pair_of (next_field a.r.now.bytes.now) a.sizes.now (length a.sizes.now) c.loop.low c.loop.next.at ≡ refused c.in_err-pair.field-0.0 =
    rw (← l.same_record) c.in_err-pair.ensures.told in
    let all : rest a.r.now.bytes.now a.sizes.now a.base a.count 0 a.pairs.now 0 a.r.now.at ≡ refused c.in_err-pair.field-0.0 =
    l.left ∙ turns_stop _ _ _ _ _ (omega arith) (simp e) in
    rw (p.1, p.2) (simp all)

pub loop-preserved : goal.loop-preserved
loop-preserved c =
    let a = c.args in
    let l = c.loop.invariant in
    let e : pair_of (next_field a.r.now.bytes.now) a.sizes.now (length a.sizes.now) c.loop.low c.loop.next.at ≡ got c.in_ok-pair.pair c.read_pair.new.r.at =
    rw (← l.same_record) c.in_ok-pair.ensures.told in
    record {
      near = omega (arith, c.in_ok-pair.ensures.near);
      same_record = c.in_ok-pair.ensures.same_record ∙ l.same_record;
      elsewhere = elsewhere_then l.elsewhere (elsewhere_set _ _ _ (omega arith) (omega (arith, c.in_ok-pair.ensures.known)));
      left = l.left ∙ turns_on _ _ _ _ _ (omega arith) (simp e);
    }

pub returns-clause-told : goal.returns-clause-told
unfolding pairs_from
returns-clause-told c =
    let a = c.args in
    let all : rest a.r.now.bytes.now a.sizes.now a.base a.count 0 a.pairs.now 0 a.r.now.at ≡ got (record { low = c.loop.low; into = c.loop.pairs }) c.loop.next.at =
    c.loop.invariant.left ∙ turns_end _ _ _ _ _ c.loop-test.false in
    simp all
