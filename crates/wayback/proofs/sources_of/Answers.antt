use Rattle.std.proofs.Common.{◌≡◌, refl, ◌∙◌, ℕ, ◌<◌, arith, length, get_or, replicate}
use lib.ListN.{length-replicate}
use Rattle.leaf.specs.Settle.Steps.{replicate_at}
use Rattle.leaf.specs.Settle.Turns.{at_any}
use Rattle.wayback.specs.Least.{all_none, all_more}
use Rattle.wayback.proofs.sources_of.Goals as goal

pub loop-x-init : goal.loop-x-init
loop-x-init c =
    let a = c.args in
    let w = a.ways.now in
    let blank : (y : ℕ) → y < length a.depths.now → ◌≡◌ {A = ℕ} (get_or (replicate 256 65535) y 0) 65535 =
    λ y h. at_any (replicate 256 65535) y 0 65535 (omega (arith, length-replicate {A = ℕ} 256 65535, c.requires.0)) ∙ replicate_at 256 65535 y in record {
      end = refl;
      below = omega arith;
      long = refl;
      met = all_none w.moves.now w.row w.at w.mets.now w.edges.list.now w.edges.ends.now a.depths.now (replicate 256 65535) blank;
    }

pub loop-x-preserved : goal.loop-x-preserved
loop-x-preserved c =
    let l = c.loop-x in
    let w = c.args.ways.now in record {
      end = refl;
      below = omega arith;
      long = c.sources_state.auto.sources ∙ l.invariant.long;
      met =
          all_more w.moves.now w.row w.at w.mets.now w.edges.list.now w.edges.ends.now c.args.depths.now l.x l.sources c.sources_state.new.sources
          l.invariant.met (rw c.of.ensures at c.sources_state.ensures);
    }

pub returns : goal.returns
returns c =
    let all : c.loop-x.x ≡ length c.args.depths.now = omega arith in
    (c.loop-x.invariant.long, rw all at c.loop-x.invariant.met)
