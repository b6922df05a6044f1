use Rattle.std.proofs.Common.{◌∙◌, ◌≡◌, arith, length}
use Rattle.std.proofs.lemmas.Result.{err_from_is_err_and}
use Rattle.loops.specs.Parsed.{refused, got}
use Rattle.loops.specs.Parsed.Laws.{turns_end, turns_on, turns_stop}
use Rattle.fields.specs.Fields.{next_field}
use Rattle.parts.specs.Elsewhere.Laws.{elsewhere_then, elsewhere_wider}
use Rattle.parts.specs.Grammar.{action_of}
use Rattle.lists.proofs.read_actions.Goals as goal

pub returns-in_err-read_action-clause-told : goal.returns-in_err-read_action-clause-told
returns-in_err-read_action-clause-told c =
    let a = c.args in
    let l = c.loop-i in
    let p = err_from_is_err_and c.from_residual.result c.from_residual.ensures.1 in
    let e : action_of (next_field a.r.now.bytes.now) a.sizes.now (length a.sizes.now) l.i l.into l.r.at ≡ refused c.in_err-read_action.field-0.0 =
    rw (← l.invariant.same_record) c.in_err-read_action.ensures.told in
    rw (p.1, p.2) (l.invariant.left ∙ turns_stop _ _ _ _ _ (omega arith) e)

pub loop-i-preserved : goal.loop-i-preserved
loop-i-preserved c =
    let a = c.args in
    let l = c.loop-i in
    let ok = c.in_ok-read_action.ensures in
    let e : action_of (next_field a.r.now.bytes.now) a.sizes.now (length a.sizes.now) l.i l.into l.r.at ≡ got c.read_action.new.into c.read_action.new.r.at =
    rw (← l.invariant.same_record) ok.told in
    record {
      near = omega (arith, ok.near);
      same_record = ok.same_record ∙ l.invariant.same_record;
      handling = elsewhere_then l.invariant.handling (elsewhere_wider (omega arith) (omega arith) ok.elsewhere.0);
      distance = elsewhere_then l.invariant.distance (elsewhere_wider (omega arith) (omega arith) ok.elsewhere.1);
      conditions = elsewhere_then l.invariant.conditions (elsewhere_wider (omega arith) (omega arith) ok.elsewhere.2);
      effects = elsewhere_then l.invariant.effects (elsewhere_wider (omega arith) (omega arith) ok.elsewhere.3);
      left = l.invariant.left ∙ turns_on _ _ _ _ _ (omega arith) e;
    }

pub returns-clause-told : goal.returns-clause-told
returns-clause-told c = c.loop-i.invariant.left ∙ turns_end _ _ _ _ _ c.loop-i-test.false
