-- `digits::fill_variable` meets its contract: at a variable of the leaf each state has a digit more, and any other changes nothing. Assumes nothing.
use Rattle.std.proofs.Common.{◌≡◌, refl, true, ℕ, ◌+◌, ◌*◌, ◌≤◌, ◌<◌, arith, eqb, get_or}
use Rattle.loops.specs.Count.Laws.{told}
use Rattle.digits.specs.Paired.{counted}
use Rattle.digits.specs.Digits.Laws.{outside, partly_leaf, partly_other, partly_room}
use Rattle.digits.proofs.fill_variable.Goals as goal
use Rattle.digits.proofs.fill_variable.Goals.{Start}

-- the room of the states with a digit more
room : (s : Start) →
    let a = s.args in
    eqb (get_or a.pairs.now.factors.now a.v 0) a.leaf ≡ true
    → (a.states * get_or a.pairs.now.sizes.now a.v 0 ≤ counted a.pairs.now a.leaf)
    × ((k : ℕ) → k < a.states → get_or a.moves.now (a.from + k) 0 ≤ a.states)
room s e = partly_room _ _ _ _ _ _ s.args.pairs.now.variables s.args.v s.args.states _ s.requires.small s.requires.v_in_bounds e s.requires.partly

pub returns-then-not-is_factor : goal.returns-then-not-is_factor
returns-then-not-is_factor c =
    record { partly = partly_other _ _ _ _ _ _ c.args.v _ _ (told c.is_factor.ensures c.if-not-is_factor.true) c.requires.partly; same = λ k o. refl }

pub grow-requires : goal.grow-requires
grow-requires c =
    let own = room (goal.at.grow-requires c).Start (told c.is_factor.ensures c.if-not-is_factor.false) in
    let small = c.requires.small in
    record { size_bound = (omega (arith, small.few), small.sized c.args.v c.requires.v_in_bounds, small.inside c.args.v c.requires.v_in_bounds, omega (arith, c.requires.room)); by_index = own.1 }

pub overflow_mul-result : goal.overflow_mul-result
overflow_mul-result c =
    let own = room (goal.at.overflow_mul-result c).Start (told c.is_factor.ensures c.if-not-is_factor.false) in
    omega (arith, c.requires.small.few)

pub returns : goal.returns
returns c =
    let a = c.args in
    let e = told c.is_factor.ensures c.if-not-is_factor.false in
    let own = room (goal.at.returns c).Start e in
    let did = c.grow.ensures in record { partly = partly_leaf _ _ _ _ _ _ a.v _ _ _ e (c.requires.small.sized a.v c.requires.v_in_bounds) c.requires.partly did.spread; same = λ k o. did.same k (outside (omega arith) (omega arith) o) }
