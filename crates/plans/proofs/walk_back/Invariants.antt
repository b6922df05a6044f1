-- `plans::walk_back` meets its contract. The invariant: what is left, from where the walk is, ends as the whole from the start. Assumes nothing.
use Rattle.std.proofs.Common.{◌≡◌, ◌+◌, ◌*◌, ◌≤◌, ◌<◌, length}
use Rattle.layer.specs.Board.{row_on}
use Rattle.layer.specs.Held.{board_in}
use Rattle.wayback.specs.Held.{KeptIn}
use Rattle.plans.specs.Fit.{search_on}
use Rattle.plans.specs.Steps.{Along}
use Rattle.plans.proofs.walk_back.Given as goal

abbrev pub invariant-loop-u : goal.invariant-loop-u
invariant-loop-u l =
    let t = l.tables.task.now in
    let b = board_in l.tables.board in
    let o = l.initial.out in record {
      below : l.u < l.count;
      states_long : length l.states ≡ 8;
      tight_long : length l.tight ≡ length l.initial.tight;
      kept : KeptIn o l.out;
      room : l.out.place + l.u * (row_on b + 1) ≤ l.node * (row_on b + 1);
      along : Along t (search_on b l.table l.count) l.node l.initial.states l.total o.plan.now l.u l.states l.out.place l.out.plan.now;
    }

abbrev pub decreases-loop-u : goal.decreases-loop-u
decreases-loop-u l = l.u
