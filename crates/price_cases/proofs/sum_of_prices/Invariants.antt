-- `price_cases::sum_of_prices` is safe: the sum so far is a remainder. Assumes nothing.
use Rattle.std.proofs.Common.{◌<◌}
use Rattle.price_cases.proofs.sum_of_prices.Given as goal

abbrev pub invariant-loop-price : goal.invariant-loop-price
invariant-loop-price l = l.sum < 1000003
