-- `wayback::sources_state` meets its contract. The invariant: the edges so far are met. Assumes nothing.
use Rattle.std.proofs.Common.{◌≡◌, length}
use Rattle.wayback.specs.Least.{StateMet}
use Rattle.wayback.proofs.sources_state.Given as goal

abbrev pub invariant-loop-a : goal.invariant-loop-a
invariant-loop-a l = record {
  long : length l.sources ≡ length l.initial.sources;
  met : StateMet l.ways.moves.now l.ways.row l.ways.at l.ways.mets.now l.acts l.depths l.x l.a-index l.initial.sources l.sources;
}
