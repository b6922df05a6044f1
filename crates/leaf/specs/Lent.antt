-- What settling is lent: the actions of a leaf, whose costs and moves can be read and whose moves stay in the leaf.
use Rattle.std.specs.Prelude.{List, ℕ, ◌+◌, ◌*◌, ◌≤◌, ◌<◌, length, get_or}

-- the cost of the j-th action of a list
abbrev pub cost_by : List ℕ → List ℕ → ℕ → ℕ
cost_by costs acts j = get_or costs (get_or acts j 0) 0

-- what the j-th action of a list makes of state x of the leaf whose states begin at `at`; an action has `row` moves
abbrev pub move_by : List ℕ → ℕ → ℕ → List ℕ → ℕ → ℕ → ℕ
move_by moves row at acts j x = get_or moves (get_or acts j 0 * row + (at + x)) 0

-- the first m actions of a list on a leaf of n states
pub record Lent (moves : List ℕ) (row at : ℕ) (costs acts : List ℕ) (m n : ℕ) : Type 0 where
  pub acts_long : m ≤ length acts
  pub costs_long : (j : ℕ) → j < m → get_or acts j 0 < length costs
  pub moves_long : (j x : ℕ) → j < m → x < n → get_or acts j 0 * row + (at + x) < length moves
  pub moves_in : (j x : ℕ) → j < m → x < n → move_by moves row at acts j x ≤ n
