use Rattle.std.proofs.Common.{◌≡◌, ℕ, suc, ◌+◌, ◌-◌, ◌*◌, ◌/◌, ◌%◌, ◌<◌, arith, length, get_or}
use Rattle.leaf.specs.Price.{mark}
use Rattle.wayback.specs.Steps.{entry_by, origin_by}
use Rattle.wayback.specs.Sources.{Leads, source_taken}
use Rattle.wayback.specs.Least.{Guided, place_row, place_entry}
use Rattle.wayback.specs.Walked.{left_more, left_end}
use Rattle.wayback.specs.Held.{kept_twice}
use Rattle.wayback.proofs.walk.Goals as goal
use Rattle.wayback.proofs.walk.Goals.{In-loop-left}

-- what guides the walk
abbrev Guide : In-loop-left → Type 0
Guide c = Guided c.args.acts.now c.args.depths.now c.args.sources.now

module _ (c : In-loop-left) (g : Guide c) where
  -- the step to take: its action, and its source
  abbrev entry : ℕ
  entry = let D = c.args.depths.now in entry_by g.edges g.count (length D) D (c.loop-left._left - 1) c.loop-left.y

  abbrev origin : ℕ
  origin = let D = c.args.depths.now in origin_by g.edges g.count (length D) D (c.loop-left._left - 1) c.loop-left.y

  -- the state's depth is not 0, nor the mark
  deep : let l = c.loop-left in (get_or c.args.depths.now l.y mark ≡ suc (l._left - 1)) × (suc (l._left - 1) < mark)
  deep = omega (arith, c.loop-left.invariant.depth, c.loop-left.invariant.few)

  led : let D = c.args.depths.now in Leads (length D) g.count g.edges D (c.loop-left._left - 1) c.loop-left.y entry origin
  led = source_taken _ _ _ _ (c.loop-left._left - 1) c.loop-left.y (g.sourced (c.loop-left._left - 1) c.loop-left.y deep.0 deep.1)

  -- what the state keeps is the place of the step: its row is the action's, and its entry the source's
  kept : get_or c.args.sources.now c.loop-left.y 0 ≡ entry * 256 + origin
  kept = g.kept (c.loop-left._left - 1) c.loop-left.y c.loop-left.invariant.inside deep.0 deep.1

  acted : get_or c.args.sources.now c.loop-left.y 0 / 256 ≡ entry
  acted = rw kept (place_row 256 entry origin (omega (arith, led.inside, g.few_states)))

  came : get_or c.args.sources.now c.loop-left.y 0 % 256 ≡ origin
  came = rw kept (place_entry 256 entry origin (omega (arith, led.inside, g.few_states)))

pub bounds-acts-e : goal.bounds-acts-e
bounds-acts-e c =
    let t = (goal.at.bounds-acts-e c).In-loop-left in
    let g = c.requires.1 in
    rw (acted t g) (omega (arith, (led t g).below, g.acts_long))

pub loop-left-preserved : goal.loop-left-preserved
loop-left-preserved c =
    let t = (goal.at.loop-left-preserved c).In-loop-left in
    let l = c.loop-left in
    let o = c.args.out.now in
    let g = c.requires.1 in record {
      inside = rw (came t g) (led t g).inside;
      depth = rw (came t g) (led t g).depth;
      few = omega arith;
      room = omega (arith, c.put.ensures.place, l.invariant.room);
      kept = kept_twice l.invariant.kept c.put.ensures.kept;
      left = λ h.
          rw c.put.ensures.place
          (left_more _ _ _ _ _ o.total _ _ _ l._left l.y l.out.place _ _ l.out.plan.now c.put.new.self.plan.now (omega arith) (l.invariant.left h) (acted t h) (came t h)
          (rw l.invariant.kept.total at c.put.ensures.plan));
    }

pub returns-clause-walked : goal.returns-clause-walked
returns-clause-walked c g =
    let l = c.loop-left in
    left_end _ _ _ _ _ _ _ _ _ l._left l.y l.out.place l.out.plan.now (omega arith) (l.invariant.left g)
