-- What holds of every task that the reader accepts. Everything above the reader cites this record and nothing else of the reading.
use Rattle.std.specs.Prelude.{◌≡◌, ◌⊎◌, true, ℕ, suc, ◌≤◌, ◌<◌}
use Rattle.task.specs.declared.Task.{Task}
use Rattle.task.specs.Meaning.{State, free, size, factor, initial, goal, condition, effect, cost}
use Rattle.task.specs.Factors.{named, centre_action, leaf_action, states, all_states}

-- no pair, or a pair with one of the variable's values
abbrev pub PairIn : ℕ → ℕ → Type 0
PairIn values x = (x ≡ free) ⊎ (x < values)

-- each variable's value is inside its size
abbrev pub Inside : Task → State → Type 0
Inside t s = (v : ℕ) → v < t.variables → s v < size t v

-- what the dearest action costs: a handling of 4,095, and 737 for a drive of 1,023 cm
abbrev pub dearest : ℕ
dearest = 4832

-- what the fields of a record leave true: refusals 1 to 7
pub record FieldsValid (t : Task) : Type 0 where
  -- counts
  pub some_variable : 1 ≤ t.variables
  pub few_variables : t.variables ≤ 32
  pub some_leaf : 1 ≤ t.leaves
  pub few_leaves : t.leaves ≤ 8
  pub few_actions : t.actions ≤ 255
  -- variables
  pub size_low : (v : ℕ) → v < t.variables → 2 ≤ size t v
  pub size_high : (v : ℕ) → v < t.variables → size t v ≤ 16
  pub factor_known : (v : ℕ) → v < t.variables → factor t v ≤ t.leaves
  pub factor_unused : (v : ℕ) → t.variables ≤ v → v < 32 → factor t v ≡ free
  pub initial_inside : Inside t (initial t)
  -- pairs
  pub goal_in : (v : ℕ) → v < t.variables → PairIn (size t v) (goal t v)
  pub condition_in : (a : ℕ) → a < t.actions → (v : ℕ) → v < t.variables → PairIn (size t v) (condition t a v)
  pub effect_in : (a : ℕ) → a < t.actions → (v : ℕ) → v < t.variables → PairIn (size t v) (effect t a v)
  pub has_effect : (a : ℕ) → a < t.actions → (v : ℕ) × ((v < t.variables) × (named (effect t a v) ≡ true))
  -- costs
  pub cost_bound : (a : ℕ) → a < t.actions → cost t a ≤ dearest

-- what the tests over the whole leave true: refusals 9 to 11
pub record WholeValid (t : Task) : Type 0 where
  pub factor_used : (g : ℕ) → g ≤ t.leaves → (v : ℕ) × ((v < t.variables) × (factor t v ≡ g))
  pub few_states : (i : ℕ) → i < t.leaves → states t (suc i) ≤ 256
  pub few_all_states : all_states t ≤ 1024
  pub star : (a : ℕ) → a < t.actions → (centre_action t a ≡ true) ⊎ ((i : ℕ) × ((i < t.leaves) × (leaf_action t a (suc i) ≡ true)))

pub record Valid (t : Task) : Type 0 where
  pub fields : FieldsValid t
  pub whole : WholeValid t
