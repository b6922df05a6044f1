-- The tables of a task, each entry by what it stands for.
pub mod Laws
use Rattle.std.specs.Prelude.{◌≡◌, true, not, ◌⊎◌, List, ℕ, suc, ◌+◌, ◌*◌, ◌≤◌, ◌<◌, eqb, length, get_or}
use Rattle.task.specs.declared.Task.{Task}
use Rattle.task.specs.Meaning.{Partial, initial, goal, cost}
use Rattle.task.specs.Factors.{touches, leaf_pairs, centre_action, leaf_action, number, states, all_states, values_of, meets_in, to}
use Rattle.layer.specs.Layer.{base}

-- k is 0 and the pairs are a centre action's, or k is a leaf and they are a leaf action's there
unfoldable pub KindIs : ℕ → (ℕ → ℕ) → ℕ → Partial → Partial → ℕ → Type 0
KindIs n fac leaves p q k =
    ((k ≡ 0) × (touches n fac 0 q ≡ true)) ⊎ ((i : ℕ) × ((i < leaves) × ((k ≡ i + 1) × (leaf_pairs n fac p q (i + 1) ≡ true))))

-- ---- of a task

-- where each leaf's states begin, and S behind the last leaf
pub record Bases (t : Task) (bases : List ℕ) : Type 0 where
  pub long : length bases ≡ 9
  pub is : (i : ℕ) → i ≤ t.leaves → get_or bases i 0 ≡ base t i

-- the initial state of each leaf
pub record Starts (t : Task) (starts : List ℕ) : Type 0 where
  pub long : length starts ≡ 8
  pub is : (i : ℕ) → i < t.leaves → get_or starts i 0 ≡ number t (suc i) (initial t)

-- what each action costs
pub record Costs (t : Task) (costs : List ℕ) : Type 0 where
  pub long : length costs ≡ 256
  pub is : (a : ℕ) → a < t.actions → get_or costs a 0 ≡ cost t a

-- the leaf of each leaf action, 0 for a centre action
pub record Kinds (t : Task) (kinds : List ℕ) : Type 0 where
  pub long : length kinds ≡ 256
  pub leaf : (i a : ℕ) → i < t.leaves → a < t.actions → eqb (get_or kinds a 0) (i + 1) ≡ leaf_action t a (suc i)
  pub centre : (a : ℕ) → a < t.actions → eqb (get_or kinds a 0) 0 ≡ centre_action t a

-- what each action makes of each leaf state: a row of S entries for each action
abbrev pub Moves : Task → List ℕ → Type 0
Moves t moves = (i a x : ℕ) → i < t.leaves → a < t.actions → x < states t (suc i) → get_or moves (a * all_states t + (base t i + x)) 0 ≡ to t (suc i) a x

-- not 0 at each leaf state that meets the goal's pairs on its leaf
pub record Goals (t : Task) (goals : List ℕ) : Type 0 where
  pub long : length goals ≡ 1024
  pub is : (i x : ℕ) → i < t.leaves → x < states t (suc i) → eqb (get_or goals (base t i + x) 0) 0 ≡ not (meets_in t (suc i) (goal t) (values_of t (suc i) x))

-- the tables of a task
pub record Tabled (t : Task) (bases moves costs kinds starts : List ℕ) : Type 0 where
  pub is_bases : Bases t bases
  pub is_moves : Moves t moves
  pub long_moves : t.actions * all_states t ≤ length moves
  pub is_costs : Costs t costs
  pub is_kinds : Kinds t kinds
  pub is_starts : Starts t starts
