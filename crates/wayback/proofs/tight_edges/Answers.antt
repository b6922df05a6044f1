use Rattle.std.proofs.Common.{◌≡◌, refl, ap, ◌∙◌, ◌+◌, ◌-◌, ◌≤◌, ◌<◌, arith, length, get_or, get_or-set_same, length-set}
use Rattle.edges.specs.Edges.{edges_at}
use Rattle.wayback.specs.Woven.Laws.{listed_more, part_size}
use Rattle.wayback.proofs.tight_edges.Goals as goal
use Rattle.wayback.proofs.tight_edges.Goals.{In-loop-x}

-- the edges of this turn's state can be read, and those so far fit
here : (c : In-loop-x) → let w = c.args.ways.now in let ends = w.edges.ends.now in let s = w.at + c.loop-x.x in
    (s + 1 < length ends) × (get_or ends s 0 ≤ get_or ends (s + 1) 0) × (get_or ends (s + 1) 0 ≤ length w.edges.list.now)
    × (get_or ends (s + 1) 0 ≤ get_or ends w.at 0 + length c.args.tight.now)
here c =
    let x = c.loop-x.x in
    let w = c.requires.4 in
    let next : c.args.ways.now.at + (x + 1) ≡ c.args.ways.now.at + x + 1 = omega arith in
    let up = rw next at (w.ends_up (x + 1) (omega arith)) in
    (omega (arith, w.ends_long), w.ends_rise x (omega arith), omega (arith, w.ends_in), omega (arith, w.ends_room))

-- how many they are
many : (c : In-loop-x) → let w = c.args.ways.now in let ends = w.edges.ends.now in let s = w.at + c.loop-x.x in
    length (edges_at w.edges.list.now ends s) ≡ get_or ends (s + 1) 0 - get_or ends s 0
many c = part_size _ _ _ (here c).2

pub of-edges-requires-clause-stops : goal.of-edges-requires-clause-stops
of-edges-requires-clause-stops c = let h = here (goal.at.of-edges-requires-clause-stops c).In-loop-x in (h.0, h.2)

pub tight_state-requires : goal.tight_state-requires
tight_state-requires c =
    let t = (goal.at.tight_state-requires c).In-loop-x in
    let l = c.loop-x in
    (omega arith, c.requires.0, omega (arith, ap length c.of-edges.ensures, many t, here t, l.invariant.tight_long, l.invariant.few), c.requires.3)

pub loop-x-preserved : goal.loop-x-preserved
loop-x-preserved c =
    let t = (goal.at.loop-x-preserved c).In-loop-x in
    let l = c.loop-x in
    let at = c.args.ways.now.at in
    let next : at + (l.x + 1) ≡ at + l.x + 1 = omega arith in
    let room : l.x + 1 < length l.stops = omega (arith, l.invariant.stops_long, c.requires.1) in
    let w = rw c.of-edges.ensures at c.tight_state.ensures in record {
      end = refl;
      below = omega arith;
      tight_long = c.tight_state.auto.tight ∙ l.invariant.tight_long;
      stops_long = simp length-set l.invariant.stops_long;
      few = rw next (omega (arith, w.few, many t, here t, l.invariant.few, get_or-set_same l.stops (l.x + 1) c.tight_state.result 0 room));
      listed = listed_more _ _ l.x l.tight l.stops c.tight_state.result _ l.invariant.listed w room;
    }
