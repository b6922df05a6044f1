-- `solve::search_tables` meets its contract: moves and edges have room either way. Assumes nothing.
use Rattle.std.proofs.Common.{◌≡◌, ◌*◌, ◌≤◌, arith, get_or}
use Rattle.task.specs.Factors.{all_states}
use Rattle.tables.specs.Fit.{row_of, moves_fit}
use Rattle.solve.proofs.search_tables.Goals as goal
use Rattle.solve.proofs.search_tables.Goals.{Start}

-- S by the bases
row : (s : Start) → get_or s.args.bases s.args.task.now.leaves 0 ≡ all_states s.args.task.now
row s = row_of s.args.task.now s.args.bases s.requires.bases.0

-- there are few moves
small : (s : Start) → s.args.task.now.actions * get_or s.args.bases s.args.task.now.leaves 0 ≤ 261120
small s = rw (row s) (moves_fit s.args.task.now s.requires.valid)

pub overflow_mul-actions : goal.overflow_mul-actions
overflow_mul-actions c = omega (arith, small (goal.at.overflow_mul-actions c).Start)

pub search_with-requires : goal.search_with-requires
search_with-requires c =
    let room : c.args.task.now.actions * all_states c.args.task.now ≤ 8192 = rw (row (goal.at.search_with-requires c).Start) at c.if-actions-bases-le8192.true in
    record { valid = c.requires.valid; bases = (c.requires.bases.0, c.requires.bases.1, c.requires.bases.2, c.requires.bases.3, room, room) }

pub search_with-requires-2 : goal.search_with-requires-2
search_with-requires-2 c =
    let room = moves_fit c.args.task.now c.requires.valid in
    record { valid = c.requires.valid; bases = (c.requires.bases.0, c.requires.bases.1, c.requires.bases.2, c.requires.bases.3, room, room) }
