-- `wayback::has_edge` meets its contract: an action without an index has no edge; of another the move is read. Assumes nothing.
use Rattle.std.proofs.Common.{◌≡◌, ◌+◌, ◌*◌, ◌<◌, arith, length, get_or}
use Rattle.std.proofs.lemmas.Bool.Decides.{nat_tests}
use Rattle.sweeps.specs.Sweeps.Leaf.{gated_shut, gated_open}
use Rattle.wayback.specs.Held.{edge_in}
use Rattle.wayback.proofs.has_edge.Goals as goal
use Rattle.wayback.proofs.has_edge.Goals.{Start}

-- the move of an action with an index can be read
can : (s : Start) → 0 < get_or s.args.ways.now.mets.now s.args.action 0
    → let w = s.args.ways.now in (s.args.action < length w.costs.now) × (s.args.action * w.row + (w.at + s.args.x) < length w.moves.now)
can s h = (s.requires.2.costs_long s.args.action h, s.requires.2.moves_long s.args.action s.args.x h s.requires.0)

pub returns-then-ways-action-eq0 : goal.returns-then-ways-action-eq0
returns-then-ways-action-eq0 c =
    let none : edge_in c.args.ways.now c.args.prices.now c.args.action c.args.x ≡ 0 = gated_shut _ _ c.if-ways-action-eq0.true in
    grind (arith, nat_tests)

pub overflow_mul-action : goal.overflow_mul-action
overflow_mul-action c = omega (arith, can (goal.at.overflow_mul-action c).Start (omega arith), c.fits-ways, c.well_formed)

pub overflow_add-ways : goal.overflow_add-ways
overflow_add-ways c = omega (arith, can (goal.at.overflow_add-ways c).Start (omega arith), c.fits-ways, c.well_formed)

pub overflow_add-action : goal.overflow_add-action
overflow_add-action c = omega (arith, can (goal.at.overflow_add-action c).Start (omega arith), c.fits-ways, c.well_formed)

pub offset_bounds-ways-action-2 : goal.offset_bounds-ways-action-2
offset_bounds-ways-action-2 c = omega (arith, can (goal.at.offset_bounds-ways-action-2 c).Start (omega arith), c.fits-ways, c.well_formed)

pub bounds-ways-action-3 : goal.bounds-ways-action-3
bounds-ways-action-3 c = (can (goal.at.bounds-ways-action-3 c).Start (omega arith)).1

pub returns : goal.returns
returns c = rw (gated_open _ _ c.if-ways-action-eq0.false) c.is_tight.ensures
