-- `wayback::first_depths` meets its contract. The invariant: the depths so far are those where depths begin. Assumes nothing.
use Rattle.std.proofs.Common.{◌≡◌, cond, ◌&&◌, List, ◌++◌, ℕ, ◌≤◌, ltb, eqb, length, get_or, drop}
use Rattle.loops.specs.Count.{list}
use Rattle.leaf.specs.Price.{mark}
use Rattle.wayback.proofs.first_depths.Given as goal

-- the depth of state x where depths begin
abbrev pub start : List ℕ → List ℕ → ℕ → ℕ
start begins prices x = cond (ltb (get_or prices x mark) mark && eqb (get_or begins x mark) (get_or prices x mark)) 0 mark

abbrev pub invariant-loop-x : goal.invariant-loop-x
invariant-loop-x l =
    (l.x-end ≡ length l.prices) × (l.x ≤ l.x-end) × (length l.depths ≡ length l.initial.depths) × (l.depths ≡ list l.x (start l.begins l.prices) ++ drop l.x l.initial.depths)
