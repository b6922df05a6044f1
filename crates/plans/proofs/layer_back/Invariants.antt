-- `plans::layer_back` meets its contract. The invariant: what is left of the leaves is written from here as the whole from the start. Assumes nothing.
use Rattle.std.proofs.Common.{◌≡◌, ◌≤◌, length}
use Rattle.layer.specs.Held.{board_in}
use Rattle.wayback.specs.Held.{KeptIn}
use Rattle.plans.specs.Walk.{back_on}
use Rattle.plans.specs.Walk.Turns.{LayerLeft}
use Rattle.plans.proofs.layer_back.Given as goal

abbrev pub invariant-loop-i : goal.invariant-loop-i
invariant-loop-i l =
    let b = board_in l.board in
    let o = l.initial.out in record {
      below : l.i ≤ l.board.leaves;
      ends_long : length l.ends ≡ length l.initial.ends;
      tight_long : length l.tight ≡ length l.initial.tight;
      kept : KeptIn o l.out;
      left : LayerLeft l.board.leaves (λ j y. back_on b l.starts l.table j l.node y) o.total o.place l.initial.ends o.plan.now l.i l.out.place l.ends l.out.plan.now;
    }
