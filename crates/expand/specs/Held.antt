-- What a turn and an expansion say of the search that the lent table holds.
pub mod Lists
pub mod Turns
use Rattle.std.specs.Prelude.{◌≡◌, ◌⊎◌, Bool, true, false, cond, List, ℕ, ◌+◌, ◌≤◌, ◌<◌, min, get_or, take, Result, is_err}
use Rattle.task.specs.declared.Task.{Task}
use Rattle.task.specs.declared.Centre.{Centre}
use Rattle.task.specs.Factors.{all_states}
use Rattle.task.specs.Valid.{Valid}
use Rattle.leaf.specs.Price.{mark}
use Rattle.layer.specs.Board.{Board, Fits, row_on, met_on}
use Rattle.mets.specs.Listed.{Listed}
use Rattle.tables.specs.Tables.{Goals}
use Rattle.search.specs.Node.{key}
use Rattle.search.specs.Explore.{Search, turn, Expanded, through, filled, expand}
use Rattle.search.specs.Explore.Laws.{Base}
use Rattle.search.specs.Explore.Detours.{Sprung}
use Rattle.rows.specs.Row.{node_in}
use Rattle.keys.specs.Scan.{key_by}
use Rattle.nodes.specs.Chain.{Chained}
use Rattle.hops.specs.Hops.{HopOn}
use Rattle.offers.specs.declared.Run.{Run}
use Rattle.offers.specs.declared.Full.{Full}
use Rattle.offers.specs.Held.{search_of, run_of, Cached, Has, Went, Stands}

-- the tables are those of the task
pub record Suits (t : Task) (b : Board) (effects goals goalPairs : List ℕ) : Type 0 where
  pub valid : Valid t
  pub fits : Fits t b
  pub effects_is : effects ≡ t.effects
  pub goals_is : Goals t goals
  pub goal_is : goalPairs ≡ t.goal

-- what an expansion says
abbrev pub expanded_of : Result Run Full → Search → Expanded
expanded_of w s = cond (is_err w) (filled s) (through s)

-- action a at node u is a detour: a hop behind the hop that made the node, which has its parent's prices, the first of `old`; it goes back, or one hop
-- goes all the way at no higher cost
pub record Aside (b : Board) (effects T : List ℕ) (u : ℕ) (old : List ℕ) (a : ℕ) : Type 0 where
  pub lower : (node_in (row_on b) T u).parent < u
  pub known : (node_in (row_on b) T u).action < b.actions
  pub alike : (node_in (row_on b) T (node_in (row_on b) T u).parent).prices ≡ take (row_on b) old
  pub v : ℕ
  pub x : ℕ
  pub y : ℕ
  pub w : ℕ
  pub z : ℕ
  pub first : HopOn b effects (node_in (row_on b) T u).action v x y
  pub second : HopOn b effects a v w z
  pub way : (z ≡ x)
      ⊎ ((d : ℕ) × ((d < b.actions) × (HopOn b effects d v x z
      × (get_or b.costs d 0 ≤ get_or b.costs (node_in (row_on b) T u).action 0 + get_or b.costs a 0))))

-- the first m numbers of f are actions whose centre conditions hold in `spot`, by rising number; those left out whose conditions hold are detours
pub record Useful (b : Board) (effects : List ℕ) (spot : Centre) (T : List ℕ) (u : ℕ) (old : List ℕ) (m : ℕ) (f : ℕ → ℕ) : Type 0 where
  pub test : ℕ → Bool
  pub listed : Listed test b.actions m f
  pub met : (a : ℕ) → a < b.actions → test a ≡ true → met_on b spot a ≡ true
  pub out : (a : ℕ) → a < b.actions → test a ≡ false → (met_on b spot a ≡ false) ⊎ Aside b effects T u old a

-- action a had its turn at node u, for every task whose tables these are; the node's parts are given, with words behind the prices, and `opens` is
-- lent as its key
pub record Moved (b : Board) (effects goals goalPairs : List ℕ) (nodes : ℕ) (spot : Centre) (paid : ℕ) (old : List ℕ) (opens u a : ℕ) (T O : List ℕ)
    (r : Run) (T' O' : List ℕ) (w : Result Run Full) : Type 0 where
  pub went : Went (row_on b) nodes T O r T' O' w
  pub moved : (t : Task) → Suits t b effects goals goalPairs → Base t nodes (search_of (row_on b) T O r) → Cached t (row_on b) T O r
      → Has (node_in (row_on b) T u) spot paid (take (row_on b) old) → opens ≡ key_by b.leaves b.bases paid old
      → Stands t (row_on b) T' O' w (turn t nodes u a (search_of (row_on b) T O r))

-- what an expansion leaves true whatever the task: the nodes did not become fewer, they stay within `nodes` and chained
abbrev pub Grown : Board → ℕ → Run → List ℕ → List ℕ → Result Run Full → Type 0
Grown b nodes r T' O' w =
    (r.count ≤ (run_of w).count) × ((run_of w).count ≤ nodes) × ((run_of w).begun ≡ r.begun) × Chained (row_on b) T' O' (run_of w).count

-- node u was expanded, for every task whose tables these are: the search says the same. `opens` is lent as its key
abbrev pub Done : Board → List ℕ → List ℕ → List ℕ → ℕ → ℕ → ℕ → List ℕ → List ℕ → Run → List ℕ → List ℕ → Result Run Full → Type 0
Done b effects goals goalPairs nodes u opens T O r T' O' w =
    (t : Task) → Suits t b effects goals goalPairs → Base t nodes (search_of (all_states t) T O r) → Cached t (all_states t) T O r
    → opens ≡ min (key t (node_in (all_states t) T u)) mark → (0 < u → Sprung t (search_of (all_states t) T O r) u)
    → (expand t nodes u t.actions 0 (search_of (all_states t) T O r) ≡ expanded_of w (search_of (all_states t) T' O' (run_of w)))
    × Cached t (all_states t) T' O' (run_of w)
