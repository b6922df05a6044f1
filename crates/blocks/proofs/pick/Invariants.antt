-- `blocks::pick` meets its contract. The invariant: `chosen` is picked among the keys so far, and `low` is its key, or else the bound. Assumes nothing.
use Rattle.std.proofs.Common.{◌≡◌, get_or}
use Rattle.std.specs.Option.{MatchOption}
use Rattle.blocks.specs.Choice.{NoneBelow, Picked}
use Rattle.blocks.proofs.pick.Given as goal

abbrev pub invariant-loop-u : goal.invariant-loop-u
invariant-loop-u l =
    MatchOption l.chosen (NoneBelow l.bound l.keys l.u × (l.low ≡ l.bound)) (λ v. Picked l.bound l.keys l.u v × (l.low ≡ get_or l.keys v 0))
