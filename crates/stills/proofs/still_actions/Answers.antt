use Rattle.std.proofs.Common.{arith}
use Rattle.loops.specs.Count.Laws.{list_none, list_step}
use Rattle.stills.specs.Still.{still_by, still_actions, padded_all, still_right}
use Rattle.stills.proofs.still_actions.Goals as goal

pub loop-a-init : goal.loop-a-init
loop-a-init c = list_none _ _

pub loop-a-preserved : goal.loop-a-preserved
loop-a-preserved c =
    let l = c.loop-a in
    list_step l.a _ _ l.stays-items _ l.invariant (omega arith) (λ _. c.is_still.ensures)

pub returns : goal.returns
unfolding still_actions
returns c =
    let l = c.loop-a in
    let b = c.args.board.now in
    let stills = c.args.stills.now in
    let made = padded_all 256 (still_by b.leaves stills) b.actions l.a l.stays-items (omega arith) l.invariant c.loop-a-test.false l.auto.a-end in
    record { is = made; still = λ right. rw made (still_right b.leaves b.actions b.bases.now b.moves.now stills b.sound.few_leaves b.sound.few_actions right) }
