-- The edges of a leaf state: the leaf actions of its leaf that move it, in a table made once. Nobody but the code and its proof looks at these.
pub mod Those
pub mod Fill
use Rattle.std.specs.Prelude.{◌≡◌, Bool, cond, not, ◌&&◌, List, [], ◌∷◌, ◌++◌, ℕ, zero, suc, ◌+◌, ◌-◌, ◌*◌, ◌≤◌, ◌<◌, eqb, length, get_or, take, drop}
use Rattle.layer.specs.Board.{Board, row_on}

-- the numbers below n that pass a test, by rising number
unfoldable pub those : (ℕ → Bool) → ℕ → List ℕ
those p zero = []
those p (suc a) = cond (p a) (those p a ++ (a ∷ [])) (those p a)

-- of the first n entries of a list, those that pass a test, in their order
unfoldable pub picked : (ℕ → Bool) → List ℕ → ℕ → List ℕ
picked p xs zero = []
picked p xs (suc j) = cond (p (get_or xs j 0)) (picked p xs j ++ (get_or xs j 0 ∷ [])) (picked p xs j)

-- whether action a is a leaf action of the leaf behind i leaves
abbrev pub of_leaf : List ℕ → ℕ → ℕ → Bool
of_leaf kinds i a = eqb (get_or kinds a 0) (i + 1)

-- whether action a moves state s, counted over all leaves; an action has `row` moves
abbrev pub moved_by : List ℕ → ℕ → ℕ → ℕ → Bool
moved_by moves row s a = not (eqb (get_or moves (a * row + s) 0) 0)

-- whether action a is a leaf action of the leaf behind i leaves and moves state s
abbrev pub edge_by : List ℕ → ℕ → List ℕ → ℕ → ℕ → ℕ → Bool
edge_by moves row kinds i s a = of_leaf kinds i a && moved_by moves row s a

-- the edges of state s, where the actions of its leaf are listed
abbrev pub edges_in : List ℕ → ℕ → List ℕ → ℕ → List ℕ
edges_in moves row own s = picked (moved_by moves row s) own (length own)

-- ---- the table

-- the edges of state s as the table has them: from where its edges begin to where the next state's begin
abbrev pub edges_at : List ℕ → List ℕ → ℕ → List ℕ
edges_at edges ends s = take (get_or ends (s + 1) 0 - get_or ends s 0) (drop (get_or ends s 0) edges)

-- the table has the edges of the states below k, one state's behind the other's; it goes by these tables of a Board
pub record Listed (leaves actions : ℕ) (bases moves kinds : List ℕ) (k : ℕ) (edges ends : List ℕ) : Type 0 where
  pub edges_long : get_or bases leaves 0 * actions ≤ length edges
  pub ends_long : get_or bases leaves 0 < length ends
  pub room : get_or ends k 0 ≤ k * actions
  pub rise : (s : ℕ) → s < k → (get_or ends s 0 ≤ get_or ends (s + 1) 0) × (get_or ends (s + 1) 0 ≤ get_or ends k 0)
  pub are : (i x : ℕ) → i < leaves → x < get_or bases (i + 1) 0 - get_or bases i 0 → get_or bases i 0 + x < k
      → edges_at edges ends (get_or bases i 0 + x) ≡ those (edge_by moves (get_or bases leaves 0) kinds i (get_or bases i 0 + x)) actions

abbrev pub EdgesTo : Board → ℕ → List ℕ → List ℕ → Type 0
EdgesTo b k edges ends = Listed b.leaves b.actions b.bases b.moves b.kinds k edges ends

-- the table has the edges of all states
abbrev pub Edges : Board → List ℕ → List ℕ → Type 0
Edges b edges ends = EdgesTo b (row_on b) edges ends

-- these edges were written from `from` on, and nothing before that changed
pub record Wrote (these : List ℕ) (from : ℕ) (before after : List ℕ) : Type 0 where
  pub kept : length after ≡ length before
  pub front : take from after ≡ take from before
  pub here : take (length these) (drop from after) ≡ these
