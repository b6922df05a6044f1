-- `TaskTables::new` meets its contract: the tables of a task can be indexed, and stand for it. Assumes nothing.
use Rattle.std.proofs.Common.{rules}
use Rattle.tables.specs.Fit.{tables_sound, tables_stand}
use Rattle.tables.proofs.held.TaskTables.new.Goals as goal

pub invariant_of-board : goal.invariant_of-board
invariant_of-board c =
    let a = c.args in
    let h = c.requires.tabled in
    record {
      sound = tables_sound a.task.now c.requires.valid a.bases.now a.moves.now a.costs.now a.kinds.now h.is_bases h.is_moves h.is_costs h.is_kinds h.long_moves
          (search rules) (search rules);
    }

pub invariant_of-result : goal.invariant_of-result
invariant_of-result c =
    let a = c.args in
    let h = c.requires.tabled in
    record { tabled = h; fits = tables_stand a.task.now c.requires.valid a.bases.now a.moves.now a.costs.now a.kinds.now h.is_bases h.is_moves h.is_costs h.is_kinds }
