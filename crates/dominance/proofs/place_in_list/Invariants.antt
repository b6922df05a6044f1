-- `dominance::place_in_list` meets its contract. The invariant: no price at the states of the list so far is higher. Assumes nothing.
use Rattle.std.proofs.Common.{ℕ, ◌+◌, ◌≤◌, ◌<◌, get_or}
use Rattle.dominance.proofs.place_in_list.Given as goal

abbrev pub invariant-loop-state : goal.invariant-loop-state
invariant-loop-state l =
    let list = l.candidate.list.now in
    (i : ℕ) → i < l.state-index → get_or l.row (40 + get_or list i 0) 0 ≤ get_or l.candidate.prices.now (get_or list i 0) 0
