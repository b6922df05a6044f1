-- `paths::path_fits` meets its contract: the entries so far are centre actions. Assumes nothing.
use Rattle.std.proofs.Common.{◌≤◌, ◌≡◌, true, length}
use Rattle.loops.specs.Count.{all}
use Rattle.paths.specs.Paths.{entry_by}
use Rattle.paths.proofs.path_fits.Given as goal

abbrev pub invariant-loop-entry : goal.invariant-loop-entry
invariant-loop-entry l = (length l.path ≤ 4095) × (all l.entry-index (entry_by l.actions l.kinds l.path) ≡ true)
