-- `record_cases::checksum` is safe: the sum so far is a remainder. Assumes nothing.
use Rattle.std.proofs.Common.{◌<◌}
use Rattle.record_cases.proofs.checksum.Given as goal

abbrev pub invariant-loop-x : goal.invariant-loop-x
invariant-loop-x g l = l.sum < 1000003
