-- `paths::walk_path` meets its contract: what is left of the path goes from the layer where the whole goes from the first. Assumes nothing.
use Rattle.std.proofs.Common.{◌≡◌, length}
use Rattle.layer.specs.Held.{board_in}
use Rattle.paths.specs.Paths.Laws.{AlongBy}
use Rattle.paths.proofs.walk_path.Given as goal

abbrev pub invariant-loop-action : goal.invariant-loop-action
invariant-loop-action l =
    (length l.layer ≡ 1024) × AlongBy (board_in l.board) l.task.effects l.path l.initial.spot l.initial.layer l.spot l.layer l.action-index
