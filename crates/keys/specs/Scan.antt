-- What the code counts by tables, one definition for each function. `bases` has the place where each leaf's states begin, and S behind the
-- last leaf.
pub mod Laws
use Rattle.std.specs.Prelude.{◌≡◌, cond, List, ℕ, ◌+◌, ◌-◌, ◌≤◌, ◌<◌, min, eqb, length, get_or, take, drop}
use Rattle.loops.specs.Count.{list, sum}
use Rattle.task.specs.declared.Centre.{Centre}
use Rattle.task.specs.Centre.{centre_meets}
use Rattle.leaf.specs.Price.{mark}
use Rattle.search.specs.Node.{least_of}

-- n entries can be cut into leaves by the bases
pub record Cut (leaves : ℕ) (bases : List ℕ) (n : ℕ) : Type 0 where
  pub few : leaves ≤ 8
  pub long : length bases ≡ 9
  pub rise : (i : ℕ) → i < leaves → get_or bases i 0 ≤ get_or bases (i + 1) 0
  pub fits : get_or bases leaves 0 ≤ n

-- the entries of the leaf behind i leaves
abbrev pub part_by : List ℕ → ℕ → List ℕ → List ℕ
part_by bases i xs = take (get_or bases (i + 1) 0 - get_or bases i 0) (drop (get_or bases i 0) xs)

-- the prices of goal states, the mark at all others; `goals` is 0 where a state is no goal state
unfoldable pub goals_by : List ℕ → List ℕ → List ℕ
goals_by goals P = list (length P) (λ x. cond (eqb (get_or goals x 0) 0) mark (get_or P x mark))

-- the key, at most the mark
unfoldable pub key_by : ℕ → List ℕ → ℕ → List ℕ → ℕ
key_by leaves bases paid P = min (paid + sum leaves (λ i. least_of (part_by bases i P))) mark

-- the centre cost and each leaf's least price of a goal state, at most the mark
unfoldable pub goal_sum_by : ℕ → List ℕ → List ℕ → ℕ → List ℕ → ℕ
goal_sum_by leaves bases goals paid P = min (paid + sum leaves (λ i. least_of (goals_by (part_by bases i goals) (part_by bases i P)))) mark

-- the same where the centre meets the goal, else the mark
unfoldable pub goal_cost_by : ℕ → List ℕ → List ℕ → List ℕ → List ℕ → Centre → ℕ → List ℕ → ℕ
goal_cost_by leaves bases goals factors goal c paid P =
    cond (centre_meets (λ v. get_or factors v 0) (λ v. get_or goal v 0) c) (goal_sum_by leaves bases goals paid P) mark
