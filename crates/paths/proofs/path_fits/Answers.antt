use Rattle.std.proofs.Common.{refl, arith, get_or, lt-ltb, eq-eqb}
use Rattle.loops.specs.Count.{all}
use Rattle.loops.specs.Count.Laws.{and_in, all_more}
use Rattle.paths.specs.Paths.{entry_by}
use Rattle.paths.specs.Paths.Laws.{fits_long, fits_high, fits_leaf, fits_all}
use Rattle.paths.proofs.path_fits.Goals as goal

pub returns-then-path-gt4095 : goal.returns-then-path-gt4095
returns-then-path-gt4095 c = fits_long _ _ _ c.if-path-gt4095.true

pub loop-entry-init : goal.loop-entry-init
unfolding all
loop-entry-init c = (omega arith, refl)

pub returns-then-a-actions : goal.returns-then-a-actions
returns-then-a-actions c = fits_high _ _ _ c.loop-entry.entry-index (omega arith) c.if-a-actions.true

pub returns-then-kinds-a-ne0 : goal.returns-then-kinds-a-ne0
returns-then-kinds-a-ne0 c = fits_leaf _ _ _ c.loop-entry.entry-index (omega arith) c.if-kinds-a-ne0.true

pub loop-entry-preserved : goal.loop-entry-preserved
loop-entry-preserved c =
    let s = c.args in
    let l = c.loop-entry in
    (l.invariant.0, all_more l.entry-index (entry_by s.actions s.kinds.now s.path.now) l.invariant.1 (and_in (lt-ltb (get_or s.path.now l.entry-index 0) s.actions (omega arith)) (eq-eqb _ _ c.if-kinds-a-ne0.false)))

pub returns : goal.returns
returns c = fits_all _ _ _ c.loop-entry.entry-index (omega arith) (omega arith) c.loop-entry.invariant.1
