use Rattle.std.proofs.Common.{arith, ◌*◌, ℕ, replicate, length-take}
use Rattle.loops.specs.Count.Laws.{list_none, list_step}
use Rattle.stills.specs.Still.{still_entry, still_leaves, padded_all, stills_right}
use Rattle.stills.proofs.still_leaves.Goals as goal

pub loop-k-init : goal.loop-k-init
loop-k-init c = list_none _ _

pub still_entry-requires : goal.still_entry-requires
still_entry-requires c = omega (arith, length-take (c.args.board.now.actions * 8) (replicate {A = ℕ} 2048 0))

pub loop-k-preserved : goal.loop-k-preserved
loop-k-preserved c =
    let l = c.loop-k in
    list_step l.k _ _ l.stays-items _ l.invariant (omega arith) (λ _. c.still_entry.ensures)

pub returns : goal.returns
unfolding still_leaves
returns c =
    let l = c.loop-k in
    let b = c.args.board.now in
    let made = padded_all 2048 (still_entry b.leaves b.bases.now b.moves.now) (b.actions * 8) l.k l.stays-items (omega arith) l.invariant c.loop-k-test.false l.auto.k-end in
    record { is = made; stills = rw made (stills_right b.leaves b.actions b.bases.now b.moves.now b.sound.few_actions) }
