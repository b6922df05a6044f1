-- `wayback::tight_edges` meets its contract. The invariant: the tight edges of the states so far are listed, no more than edges were read. Assumes
-- nothing.
use Rattle.std.proofs.Common.{◌≡◌, ◌+◌, ◌≤◌, length, get_or}
use Rattle.wayback.specs.Held.{ListedIn}
use Rattle.wayback.proofs.tight_edges.Given as goal

abbrev pub invariant-loop-x : goal.invariant-loop-x
invariant-loop-x l = record {
  end : l.x-end ≡ length l.prices;
  below : l.x ≤ l.x-end;
  tight_long : length l.tight ≡ length l.initial.tight;
  stops_long : length l.stops ≡ length l.initial.stops;
  few : get_or l.stops l.x 0 + get_or l.ways.edges.ends.now l.ways.at 0 ≤ get_or l.ways.edges.ends.now (l.ways.at + l.x) 0;
  listed : ListedIn l.ways l.prices l.x l.tight l.stops;
}
