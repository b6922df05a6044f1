-- `solve::search_with` meets its contract: the tables are the task's, and what the search stops with is answered. Assumes nothing.
use Rattle.std.proofs.Common.{◌≡◌, sym, ◌∙◌, [], ℕ, ◌+◌, ◌*◌, ◌≤◌, mul_comm, arith, length}
use lib.ListN.{length-replicate}
use Rattle.leaf.specs.Settle.Steps.{replicate_at}
use Rattle.task.specs.Factors.{all_states}
use Rattle.layer.specs.Board.{row_on}
use Rattle.layer.specs.Board.Laws.{row_on_lem}
use Rattle.layer.specs.Held.{board_in}
use Rattle.tables.specs.Tables.{Tabled}
use Rattle.solve.specs.Solve.{table_words}
use Rattle.solve.specs.Solve.Stops.{Sound, stop_is, stop_sound}
use Rattle.solve.proofs.search_with.Goals as goal
use Rattle.solve.proofs.search_with.Goals.{After-explore-stop, After-leaf_goals-goals}

-- the tables are the task's
tabled : (c : After-leaf_goals-goals) → Tabled c.args.task.now c.args.bases c.fill_moves.new.moves c.action_costs-costs.result c.action_kinds-kinds.result c.leaf_starts-starts.result
tabled c =
    let c = c in
    let kept : length c.fill_moves.new.moves ≡ length c.args.moves.now = c.fill_moves.auto.moves in
    record {
      is_bases = c.requires.bases.0;
      is_moves = c.fill_moves.ensures.moves;
      long_moves = omega (arith, kept, c.requires.bases.4);
      is_costs = c.action_costs-costs.ensures;
      is_kinds = c.action_kinds-kinds.ensures;
      is_starts = c.leaf_starts-starts.ensures;
    }

-- what the search stops with is sound
sound : (c : After-explore-stop) → Sound c.new-tables.result.task.now c.explore-stop.new.table c.explore-stop.result.run
sound c =
    let t = c.new-tables.result.task.now in
    let kept : length c.explore-stop.new.table ≡ length c.args.table.now = c.explore-stop.ensures.lengths in
    let room : table_words t c.args.nodes ≤ length c.explore-stop.new.table = rw c.new-tables.ensures.task (omega (arith, kept, c.requires.bases.3)) in
    stop_sound t c.args.nodes c.args.budget c.explore-stop.new.table c.explore-stop.new.scan c.explore-stop.result c.explore-stop.ensures.searched.0
    c.requires.bases.1 c.requires.bases.2 room c.explore-stop.ensures.searched.1.some

pub new-tables-requires : goal.new-tables-requires
new-tables-requires c = record { valid = c.requires.valid; tabled = tabled (goal.at.new-tables-requires c).After-leaf_goals-goals }

pub fill_edges-requires : goal.fill_edges-requires
fill_edges-requires c =
    let w = c.new-tables.result in
    let row : row_on (board_in w.board) ≡ all_states c.args.task.now = row_on_lem w.task.now (board_in w.board) w.fits ∙ rw c.new-tables.ensures.task in
    let actions : w.board.actions ≡ c.args.task.now.actions = w.fits.actions_is ∙ rw c.new-tables.ensures.task in
    let room : all_states c.args.task.now * c.args.task.now.actions ≤ length c.args.edges.now = rw (mul_comm (all_states c.args.task.now) c.args.task.now.actions) c.requires.bases.5 in
    record { room = (rw (row, actions) room, omega (arith, w.board.sound.few_all, length-replicate {A = ℕ} 1025 0)) }

pub slice_bounds-explore-end : goal.slice_bounds-explore-end
slice_bounds-explore-end c = sym c.leaf_goals-goals.ensures.long

pub explore-stop-requires : goal.explore-stop-requires
unfolding table_words
explore-stop-requires c =
    let is = c.new-tables.ensures.task in record {
      valid = rw is c.requires.valid;
      goals = rw is c.leaf_goals-goals.ensures;
      edges = c.fill_edges.ensures.filled;
      nodes = (c.requires.bases.1, c.requires.bases.2, rw is c.requires.bases.3);
      heads = λ h _. replicate_at 17696 0 (6144 + h);
    }

pub slice_bounds-answer_of-end : goal.slice_bounds-answer_of-end
slice_bounds-answer_of-end c = sym c.leaf_goals-goals.ensures.long

pub answer_of-requires : goal.answer_of-requires
answer_of-requires c =
    let is = c.new-tables.ensures.task in
    record { valid = rw is c.requires.valid; goals = rw is c.leaf_goals-goals.ensures; sound = sound (goal.at.answer_of-requires c).After-explore-stop; edges = c.fill_edges.ensures.filled }

pub returns : goal.returns
returns c =
    c.answer_of.ensures
    ∙ stop_is c.new-tables.result.task.now c.args.nodes c.args.budget c.explore-stop.new.table c.explore-stop.new.scan c.explore-stop.result c.explore-stop.ensures.searched.0 c.args.plan.now []
    ∙ rw c.new-tables.ensures.task
