use Rattle.std.proofs.Common.{arith, replicate, ℕ, length-take}
use Rattle.loops.specs.Count.Laws.{list_none, list_step}
use Rattle.stills.specs.Still.{padded_all}
use Rattle.hops.specs.Hops.{hop_word, hops_by}
use Rattle.hops.proofs.list_hops.Goals as goal

pub loop-a-init : goal.loop-a-init
loop-a-init c = list_none _ _

pub hop_word-requires-clause-a_lt_actions : goal.hop_word-requires-clause-a_lt_actions
hop_word-requires-clause-a_lt_actions c = omega (arith, length-take c.args.board.now.actions (replicate {A = ℕ} 256 0))

pub loop-a-preserved : goal.loop-a-preserved
loop-a-preserved c =
    let l = c.loop-a in
    list_step l.a _ _ l.word-items _ l.invariant (omega arith) (λ _. c.hop_word.ensures)

pub returns : goal.returns
unfolding hops_by
returns c =
    let l = c.loop-a in
    let a = c.args in
    padded_all 256 (hop_word a.board.now.kinds.now a.board.now.conditions.now a.effects.now a.firsts.now a.still.now) a.board.now.actions l.a l.word-items
    (omega arith) l.invariant c.loop-a-test.false l.auto.a-end
