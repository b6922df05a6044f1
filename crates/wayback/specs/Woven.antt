-- The tight edges of a leaf's states, picked from the table of its edges and listed state behind state. Definitions alone.
pub mod Laws
pub mod Leaf
use Rattle.std.specs.Prelude.{◌≡◌, List, ℕ, suc, ◌+◌, ◌-◌, ◌*◌, ◌≤◌, ◌<◌, length, get_or}
use Rattle.leaf.specs.Price.{mark}
use Rattle.leaf.specs.Settle.Walks.{Ranged}
use Rattle.leaf.specs.Lent.{move_by}
use Rattle.edges.specs.Edges.{edges_at}
use Rattle.edges.specs.Edges.Those.{Placed}
use Rattle.sweeps.specs.Sweeps.{gated}
use Rattle.wayback.specs.Steps.{tight_at, depths_by}

-- ---- the list of actions, read backwards

-- the actions of a list from its k-th to its m-th: where each stands first, counted from 1
pub record IndexedFrom (acts : List ℕ) (k m : ℕ) (index : List ℕ) : Type 0 where
  pub sound : (a j : ℕ) → get_or index a 0 ≡ suc j → (j < m) × (get_or acts j 0 ≡ a)
  pub all : (j : ℕ) → k ≤ j → j < m → (0 < get_or index (get_or acts j 0) 0) × (get_or index (get_or acts j 0) 0 ≤ suc j)

abbrev pub Indexed : List ℕ → ℕ → List ℕ → Type 0
Indexed acts m index = IndexedFrom acts 0 m index

-- the cost and the moves of each action with an index can be read, and the moves stay in a leaf of n states
pub record Legible (moves : List ℕ) (row at : ℕ) (costs index : List ℕ) (n : ℕ) : Type 0 where
  pub costs_long : (a : ℕ) → 0 < get_or index a 0 → a < length costs
  pub moves_long : (a x : ℕ) → 0 < get_or index a 0 → x < n → a * row + (at + x) < length moves
  pub moves_in : (a x : ℕ) → 0 < get_or index a 0 → x < n → get_or moves (a * row + (at + x)) 0 ≤ n

-- the tight edge of action a from state x, where the action has an index; else 0
abbrev pub edge_at : List ℕ → ℕ → ℕ → List ℕ → List ℕ → List ℕ → ℕ → ℕ → ℕ
edge_at moves row at costs index P a x = gated (get_or index a 0) (tight_at P x (get_or costs a 0) (get_or moves (a * row + (at + x)) 0))

-- ---- picking edges

-- a number stands in a list from one place to another
pub record Between (xs : List ℕ) (from end a : ℕ) : Type 0 where
  pub at : ℕ
  pub above : from ≤ at
  pub below : at < end
  pub is : get_or xs at 0 ≡ a

-- of the first k actions of a list, those with an edge stand from `from` to `end`, and nothing before that changed
pub record Picked (edge : ℕ → ℕ) (acts : List ℕ) (k from : ℕ) (before : List ℕ) (end : ℕ) (after : List ℕ) : Type 0 where
  pub rise : from ≤ end
  pub few : end ≤ from + k
  pub front : (p : ℕ) → p < from → get_or after p 0 ≡ get_or before p 0
  pub sound : (p : ℕ) → from ≤ p → p < end → 0 < edge (get_or after p 0)
  pub all : (q : ℕ) → q < k → 0 < edge (get_or acts q 0) → Between after from end (get_or acts q 0)

-- of the actions of the list of each state below k, those with an edge from it stand from its stop to the next
pub record Listed (edge : ℕ → ℕ → ℕ) (lists : ℕ → List ℕ) (k : ℕ) (tight stops : List ℕ) : Type 0 where
  pub rise : (x : ℕ) → x < k → (get_or stops x 0 ≤ get_or stops (x + 1) 0) × (get_or stops (x + 1) 0 ≤ get_or stops k 0)
  pub sound : (x p : ℕ) → x < k → get_or stops x 0 ≤ p → p < get_or stops (x + 1) 0 → 0 < edge (get_or tight p 0) x
  pub all : (x q : ℕ) → x < k → q < length (lists x) → 0 < edge (get_or (lists x) q 0) x
      → Between tight (get_or stops x 0) (get_or stops (x + 1) 0) (get_or (lists x) q 0)

-- the table of edges of a leaf of n states, whose states begin at `at`, can be read, and the edges fit into `room` entries
pub record Spread (edges ends : List ℕ) (at n room : ℕ) : Type 0 where
  pub ends_long : at + n < length ends
  pub ends_rise : (x : ℕ) → x < n → get_or ends (at + x) 0 ≤ get_or ends (at + x + 1) 0
  pub ends_up : (x : ℕ) → x ≤ n → get_or ends (at + x) 0 ≤ get_or ends (at + n) 0
  pub ends_in : get_or ends (at + n) 0 ≤ length edges
  pub ends_room : get_or ends (at + n) 0 ≤ get_or ends at 0 + room

-- each move of the first m actions of a list is among the edges of the state that it moves
abbrev pub Covers : List ℕ → List ℕ → List ℕ → ℕ → ℕ → List ℕ → ℕ → ℕ → Type 0
Covers edges ends moves row at acts m n = (j x y : ℕ) → j < m → x < n → move_by moves row at acts j x ≡ suc y
    → Placed (edges_at edges ends (at + x)) (get_or acts j 0)

-- ---- the list of tight edges

-- the moves of these actions from state x can be read and stay in a leaf of n states, and the actions have an index
abbrev pub Leading : List ℕ → ℕ → ℕ → List ℕ → List ℕ → ℕ → ℕ → Type 0
Leading moves row at index acts x n = (p : ℕ) → p < length acts →
    let a = get_or acts p 0 in
    (a < length index) × (0 < get_or index a 0) × (a * row + (at + x) < length moves) × (get_or moves (a * row + (at + x)) 0 ≤ n)

-- action a is one of `count` actions of a list, and leads from x where its edge does
pub record Taken (moves : List ℕ) (row at : ℕ) (acts index : List ℕ) (count : ℕ) (edges : ℕ → ℕ → ℕ) (x a : ℕ) : Type 0 where
  pub act : ℕ
  pub below : act < count
  pub is : get_or acts act 0 ≡ a
  pub indexed : get_or index a 0 ≡ suc act
  pub small : a < 256
  pub readable : a * row + (at + x) < length moves
  pub leads : get_or moves (a * row + (at + x)) 0 ≡ edges act x

-- the edges of some actions of a list, and that they are those that stand listed state behind state
pub record Woven (moves : List ℕ) (row at : ℕ) (acts index tight stops : List ℕ) (n : ℕ) : Type 0 where
  pub count : ℕ
  pub edges : ℕ → ℕ → ℕ
  pub few_actions : count ≤ 255
  pub few_states : n ≤ 256
  pub acts_long : count ≤ length acts
  pub index_long : length index ≡ 256
  pub stops_long : n < length stops
  pub stops_in : (x : ℕ) → x < n → (get_or stops x 0 ≤ get_or stops (x + 1) 0) × (get_or stops (x + 1) 0 ≤ length tight)
  pub ranged : Ranged n count edges
  pub sound : (x p : ℕ) → x < n → p < length (edges_at tight stops x) → Taken moves row at acts index count edges x (get_or (edges_at tight stops x) p 0)
  pub all : (j x y : ℕ) → j < count → x < n → edges j x ≡ suc y →
      let a = get_or acts j 0 in
      Placed (edges_at tight stops x) a × (0 < get_or index a 0) × (get_or index a 0 ≤ suc j) × (get_or moves (a * row + (at + x)) 0 ≡ suc y)

-- so that state y can be walked back from, in a layer that began with prices B and has prices P
pub record Backed (moves : List ℕ) (row at : ℕ) (acts index tight stops B P : List ℕ) (y : ℕ) : Type 0 where
  pub woven : Woven moves row at acts index tight stops (length P)
  pub same : length B ≡ length P
  pub inside : y < length P
  pub deep : get_or (depths_by woven.edges woven.count B P) y mark < mark
