-- `wayback::sources_of` meets its contract. The invariant: the edges of the states so far are met. Assumes nothing.
use Rattle.std.proofs.Common.{◌≡◌, ◌≤◌, length}
use Rattle.wayback.specs.Least.{AllMet}
use Rattle.wayback.proofs.sources_of.Given as goal

abbrev pub invariant-loop-x : goal.invariant-loop-x
invariant-loop-x l = record {
  end : l.x-end ≡ length l.depths;
  below : l.x ≤ l.x-end;
  long : length l.sources ≡ 256;
  met : AllMet l.ways.moves.now l.ways.row l.ways.at l.ways.mets.now l.ways.edges.list.now l.ways.edges.ends.now l.depths l.x l.sources;
}
