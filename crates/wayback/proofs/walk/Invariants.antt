-- `wayback::walk` meets its contract. The invariant: what is left of the way, from here, ends as the whole does from the start. Assumes nothing.
use Rattle.std.proofs.Common.{◌≡◌, ◌+◌, ◌≤◌, ◌<◌, length, get_or}
use Rattle.leaf.specs.Price.{mark}
use Rattle.wayback.specs.Steps.{back_by}
use Rattle.wayback.specs.Least.{Guided}
use Rattle.wayback.specs.Walked.{LeftAt}
use Rattle.wayback.specs.Held.{KeptIn}
use Rattle.wayback.proofs.walk.Given as goal

abbrev pub invariant-loop-left : goal.invariant-loop-left
invariant-loop-left l =
    let o = l.initial.out in record {
      inside : l.y < length l.depths;
      depth : get_or l.depths l.y mark ≡ l._left;
      few : l._left ≤ 256;
      room : l.out.place + l._left ≤ o.place + 256;
      kept : KeptIn o l.out;
      left : (g : Guided l.acts l.depths l.sources) → LeftAt g.edges l.acts g.count (length l.depths) l.depths o.total
          (back_by g.edges l.acts g.count (length l.depths) l.depths (get_or l.depths l.state mark) l.state) o.place o.plan.now l._left l.y l.out.place l.out.plan.now;
    }
