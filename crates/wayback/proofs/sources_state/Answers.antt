use Rattle.std.proofs.Common.{◌≡◌, ◌∙◌, arith, length}
use Rattle.leaf.specs.Price.{mark}
use Rattle.leaf.specs.Settle.Turns.{at_any}
use Rattle.wayback.specs.Least.{state_more}
use Rattle.wayback.proofs.sources_state.Goals as goal

pub loop-a-preserved : goal.loop-a-preserved
loop-a-preserved c =
    let l = c.loop-a in
    let a = c.args in
    let w = a.ways.now in
    let own = at_any a.depths.now a.x 0 mark c.requires.0 in record {
      long = c.meet.auto.sources ∙ l.invariant.long;
      met =
          state_more w.moves.now w.row w.at w.mets.now a.acts.now a.depths.now a.x a.sources.now l.a-index l.sources c.meet.new.sources
          l.invariant.met (rw own at c.meet.ensures);
    }

pub returns : goal.returns
returns c =
    let all : c.loop-a.a-index ≡ length c.args.acts.now = omega arith in
    rw all at c.loop-a.invariant.met
