use Rattle.std.proofs.Common.{◌≡◌, suc, ◌-◌, ◌≤◌, arith, length-take-le}
use Rattle.loops.specs.Count.Laws.{told}
use Rattle.dominance.specs.Held.{node_held}
use Rattle.nodes.specs.Chain.{fill_at, link_at, Missed, Walked}
use Rattle.nodes.specs.Chain.Room.{groups_few}
use Rattle.nodes.specs.Chain.Walk.{walk_start, walk_more, walk_end, lack_all}
use Rattle.nodes.proofs.walk.Goals as goal
use Rattle.nodes.proofs.walk.Goals.{In-loop-to}

-- the walk has come to the next group
walked : (t : In-loop-to) → let a = t.args in Walked a.candidate.now.states a.table.now a.scan.now (node_held a.candidate.now) (suc (t.loop-to.to - 1))
walked t =
    let e : t.loop-to.to ≡ suc (t.loop-to.to - 1) = omega (arith, t.loop-to-test.true) in
    rw e at t.loop-to.invariant.1

-- it goes on at the group's link, where no entry of the group dominates
onward : (t : In-loop-to) → let a = t.args in let g = t.loop-to.to - 1 in
    Missed a.candidate.now.states a.table.now a.scan.now (node_held a.candidate.now) g (fill_at a.scan.now g)
    → (link_at a.scan.now g ≤ 2048) × Walked a.candidate.now.states a.table.now a.scan.now (node_held a.candidate.now) (link_at a.scan.now g)
onward t d =
    let a = t.args in
    let s = a.candidate.now in
    let w = walked t in
    let links = t.requires.chained.2.grouped.links (t.loop-to.to - 1) w.low in
    (omega (arith, links, t.loop-to.invariant.0), walk_more s.states a.table.now a.scan.now a.count (node_held s) t.requires.chained.2.grouped (t.loop-to.to - 1) w d)

pub loop-to-init : goal.loop-to-init
loop-to-init c =
    let a = c.args in
    let s = a.candidate.now in
    let w = walk_start s.states a.table.now a.scan.now a.count (node_held s) c.requires.chained.2.grouped in
    rw c.requires.classed.0 (omega (arith, w.low, groups_few _ _ _ _ c.requires.chained.0 c.requires.chained.2), w)

pub loop-to-preserved-then-all_lack : goal.loop-to-preserved-then-all_lack
loop-to-preserved-then-all_lack c =
    let a = c.args in
    let s = a.candidate.now in
    let t = (goal.at.loop-to-preserved-then-all_lack c).In-loop-to in
    let lack = rw s.signed at (told c.all_lack.ensures c.if-all_lack.true) in
    onward t
    (lack_all s.states a.table.now a.scan.now a.count (node_held s) c.requires.chained.2.grouped c.requires.chained.1 (length-take-le s.states s.prices.now s.long)
    (c.loop-to.to - 1) (walked t).low lack)

pub loop-to-preserved : goal.loop-to-preserved
loop-to-preserved c = onward (goal.at.loop-to-preserved c).In-loop-to c.in_default.ensures

pub returns : goal.returns
returns c =
    let a = c.args in
    let s = a.candidate.now in
    let e : c.loop-to.to ≡ 0 = omega arith in
    walk_end s.states a.table.now a.scan.now a.count (node_held s) c.requires.chained.2.grouped (rw e at c.loop-to.invariant.1)
