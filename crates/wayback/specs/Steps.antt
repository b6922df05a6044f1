-- The walk back of one leaf inside one layer, by tables and lists: edges at the right price, depths, sources, the way. Definitions alone: those of
-- Plan (search), where `edges j x` is one more than the state that the j-th action makes of x at the right price, or 0.
use Rattle.std.specs.Prelude.{◌≡◌, Bool, cond, ◌&&◌, List, [], ◌∷◌, ◌++◌, ℕ, zero, suc, ◌+◌, ◌≤◌, ◌<◌, eqb, length, get_or}
use Rattle.loops.specs.Count.{any}
use Rattle.leaf.specs.Price.{mark}
use Rattle.leaf.specs.Settle.{settled}
use Rattle.leaf.specs.Lent.{Lent, cost_by, move_by}
use Rattle.search.specs.Plan.{lowest, Back}
use Rattle.search.specs.Plan.Depths.{depth0}

-- k, one more than a state, where that state's price is c more than the price of x; else 0
unfoldable pub tight_at : List ℕ → ℕ → ℕ → ℕ → ℕ
tight_at P x c zero = 0
tight_at P x c (suc y) = cond (eqb (get_or P x mark + c) (get_or P y mark)) (suc y) 0

-- the edges of the actions of a list, by the tables that settling is lent
abbrev pub tight_by : List ℕ → ℕ → ℕ → List ℕ → List ℕ → List ℕ → ℕ → ℕ → ℕ
tight_by moves row at costs acts P j x = tight_at P x (cost_by costs acts j) (move_by moves row at acts j x)

-- the depths by the edges of m actions, in a layer that began with prices B and has prices P
unfoldable pub depths_by : (ℕ → ℕ → ℕ) → ℕ → List ℕ → List ℕ → List ℕ
depths_by edges m B P = settled mark m (λ j. 1) edges (depth0 B P)

-- x is a source of y by the j-th action: the edge leads there, and x has depth k
unfoldable pub source_by : (ℕ → ℕ → ℕ) → List ℕ → ℕ → ℕ → ℕ → ℕ → Bool
source_by edges D k y j x = eqb (edges j x) (suc y) && eqb (get_or D x mark) k

-- the first action with a source of y, whose depth is k + 1, and its lowest source
abbrev pub entry_by : (ℕ → ℕ → ℕ) → ℕ → ℕ → List ℕ → ℕ → ℕ → ℕ
entry_by edges m n D k y = lowest m (λ j. any n (source_by edges D k y j))

abbrev pub origin_by : (ℕ → ℕ → ℕ) → ℕ → ℕ → List ℕ → ℕ → ℕ → ℕ
origin_by edges m n D k y = lowest n (source_by edges D k y (entry_by edges m n D k y))

-- the actions that lead from a state of depth 0 to y, whose depth is k, and that state; there are m actions and n states
unfoldable pub back_by : (ℕ → ℕ → ℕ) → List ℕ → ℕ → ℕ → List ℕ → ℕ → ℕ → Back
back_by edges acts m n D zero y = record { from = y; acts = [] }
back_by edges acts m n D (suc k) y =
    let r = back_by edges acts m n D k (origin_by edges m n D k y) in
    record { from = r.from; acts = r.acts ++ (get_or acts (entry_by edges m n D k y) 0 ∷ []) }

-- the way back from y, by its depth
unfoldable pub way_by : (ℕ → ℕ → ℕ) → List ℕ → ℕ → List ℕ → List ℕ → ℕ → Back
way_by edges acts m B P y =
    let D = depths_by edges m B P in
    back_by edges acts m (length P) D (get_or D y mark) y

-- ---- by tables

-- the depths by the tables that settling is lent, and the way back from y
abbrev pub table_depths : List ℕ → ℕ → ℕ → List ℕ → List ℕ → ℕ → List ℕ → List ℕ → List ℕ
table_depths moves row at costs acts m B P = depths_by (tight_by moves row at costs acts P) m B P

abbrev pub table_back : List ℕ → ℕ → ℕ → List ℕ → List ℕ → ℕ → List ℕ → List ℕ → ℕ → Back
table_back moves row at costs acts m B P y = way_by (tight_by moves row at costs acts P) acts m B P y

-- what the walk back from y needs of them: that settling is lent them, and a depth
pub record Walkable (moves : List ℕ) (row at : ℕ) (costs acts : List ℕ) (m : ℕ) (B P : List ℕ) (y : ℕ) : Type 0 where
  pub lent : Lent moves row at costs acts m (length P)
  pub few_actions : m ≤ 255
  pub few_states : length P ≤ 256
  pub same : length B ≡ length P
  pub inside : y < length P
  pub deep : get_or (table_depths moves row at costs acts m B P) y mark < mark
