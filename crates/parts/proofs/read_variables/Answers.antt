use Rattle.std.proofs.Common.{◌∙◌, ◌≡◌, arith}
use Rattle.std.proofs.lemmas.Result.{err_from_is_err_and}
use Rattle.loops.specs.Parsed.{refused, got}
use Rattle.fields.specs.Fields.{next_field}
use Rattle.parts.specs.Grammar.{variable_of}
use Rattle.loops.specs.Parsed.Laws.{turns_end, turns_on, turns_stop}
use Rattle.parts.specs.Elsewhere.Laws.{elsewhere_set, elsewhere_then}
use Rattle.parts.proofs.read_variables.Goals as goal

pub returns-in_err-v-clause-told : goal.returns-in_err-v-clause-told
returns-in_err-v-clause-told c =
    let l = c.loop-i.invariant in
    let p = err_from_is_err_and c.from_residual.result c.from_residual.ensures.1 in
    let e : variable_of (next_field c.args.r.now.bytes.now) c.args.leaves c.loop-i.r.at ≡ refused c.in_err-v.field-0.0 = rw (← l.same_record) c.in_err-v.ensures.told in
    rw (p.1, p.2) (l.left ∙ turns_stop _ _ _ _ _ (omega arith) (simp e))

pub loop-i-preserved : goal.loop-i-preserved
loop-i-preserved c =
    let l = c.loop-i.invariant in
    let e : variable_of (next_field c.args.r.now.bytes.now) c.args.leaves c.loop-i.r.at ≡ got c.in_ok-v.v c.read_variable.new.r.at = rw (← l.same_record) c.in_ok-v.ensures.told in
    record {
      near = omega (arith, c.in_ok-v.ensures.near);
      same_record = c.in_ok-v.ensures.same_record ∙ l.same_record;
      sizes = elsewhere_then l.sizes (elsewhere_set _ _ _ (omega arith) (omega arith));
      factors = elsewhere_then l.factors (elsewhere_set _ _ _ (omega arith) (omega arith));
      initial = elsewhere_then l.initial (elsewhere_set _ _ _ (omega arith) (omega arith));
      left = l.left ∙ turns_on _ _ _ _ _ (omega arith) (simp e);
    }

pub returns-clause-told : goal.returns-clause-told
returns-clause-told c = c.loop-i.invariant.left ∙ turns_end _ _ _ _ _ c.loop-i-test.false
