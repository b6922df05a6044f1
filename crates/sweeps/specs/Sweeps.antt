-- Edges that are followed: which of them lead where, and actions that lead where they do. A leaf's prices settle along them. Nobody but the code and
-- its proof looks at these.
pub mod Same
pub mod Leaf
pub mod Still
use Rattle.std.specs.Prelude.{◌≡◌, Bool, not, List, ℕ, zero, suc, ◌+◌, ◌-◌, ◌*◌, ◌≤◌, ◌<◌, eqb, length, get_or, take, drop}
use Rattle.loops.specs.Count.{any}
use Rattle.leaf.specs.Settle.Walks.{Ranged}
use Rattle.leaf.specs.Lent.{cost_by, move_by}
use Rattle.settle.specs.Settling.{Aim}
use Rattle.edges.specs.Edges.{edges_at}

-- k where a flag is set, else 0
unfoldable pub gated : ℕ → ℕ → ℕ
gated zero k = 0
gated (suc f) k = k

-- what the j-th action of a list makes of state x, where the action's flag is set; the leaf's states begin at `at`
abbrev pub move_met : List ℕ → ℕ → ℕ → List ℕ → List ℕ → ℕ → ℕ → ℕ
move_met moves row at mets acts j x = gated (get_or mets (get_or acts j 0) 0) (move_by moves row at acts j x)

-- these actions can be followed from state x of a leaf of n states
pub record Along (moves : List ℕ) (row at : ℕ) (costs mets acts : List ℕ) (x n : ℕ) : Type 0 where
  pub costs_long : (j : ℕ) → j < length acts → get_or acts j 0 < length costs
  pub mets_long : (j : ℕ) → j < length acts → get_or acts j 0 < length mets
  pub moves_long : (j : ℕ) → j < length acts → get_or acts j 0 * row + (at + x) < length moves
  pub moves_in : (j : ℕ) → j < length acts → move_by moves row at acts j x ≤ n

-- the edges of each state of a leaf of n states can be followed
pub record Ways (moves : List ℕ) (row at : ℕ) (costs mets edges ends : List ℕ) (n : ℕ) : Type 0 where
  pub ends_long : at + n < length ends
  pub ends_in : (x : ℕ) → x < n → (get_or ends (at + x) 0 ≤ get_or ends (at + x + 1) 0) × (get_or ends (at + x + 1) 0 ≤ length edges)
  pub along : (x : ℕ) → x < n → Along moves row at costs mets (edges_at edges ends (at + x)) x n

-- the flags of the first k actions of a list are not set
abbrev pub Unmet : List ℕ → List ℕ → ℕ → Type 0
Unmet mets acts k = (j : ℕ) → j < k → get_or mets (get_or acts j 0) 0 ≡ 0

-- whether the flag of one of these actions is set
unfoldable pub some_met : (mets acts : List ℕ) → Bool
some_met mets acts = any (length acts) (λ j. not (eqb (get_or mets (get_or acts j 0) 0) 0))

-- the edges of the states of the leaf behind i leaves
abbrev pub edges_of : (bases edges ends : List ℕ) (i : ℕ) → List ℕ
edges_of bases edges ends i =
    let from = get_or ends (get_or bases i 0) 0 in
    take (get_or ends (get_or bases (i + 1) 0) 0 - from) (drop from edges)

-- whether a leaf is swept: one of its edges has its flag set
unfoldable pub swept_by : (leaves : ℕ) (bases mets edges ends : List ℕ) → Bool
swept_by leaves bases mets edges ends = any leaves (λ i. some_met mets (edges_of bases edges ends i))

-- one of m actions leads from x to y at cost w
pub record Edge (m : ℕ) (cost : ℕ → ℕ) (to : ℕ → ℕ → ℕ) (x y w : ℕ) : Type 0 where
  pub act : ℕ
  pub below : act < m
  pub leads : to act x ≡ suc y
  pub price : w ≡ cost act

-- every edge from x by m actions is one by other actions
abbrev pub Covered : (m : ℕ) (cost : ℕ → ℕ) (to : ℕ → ℕ → ℕ) (m' : ℕ) (cost' : ℕ → ℕ) (to' : ℕ → ℕ → ℕ) → ℕ → Type 0
Covered m cost to m' cost' to' x = (a y : ℕ) → a < m → to a x ≡ suc y → Edge m' cost' to' x y (cost a)

-- m actions lead from the states of a leaf where its edges do
pub record Meant (moves : List ℕ) (row at : ℕ) (costs mets edges ends : List ℕ) (n m : ℕ) (cost : ℕ → ℕ) (to : ℕ → ℕ → ℕ) : Type 0 where
  pub ranged : Ranged n m to
  pub out : (x : ℕ) → x < n →
      let acts = edges_at edges ends (at + x) in
      Covered m cost to (length acts) (cost_by costs acts) (move_met moves row at mets acts) x
  pub back : (x : ℕ) → x < n →
      let acts = edges_at edges ends (at + x) in
      Covered (length acts) (cost_by costs acts) (move_met moves row at mets acts) m cost to x

-- some actions do
abbrev pub Aims : (moves : List ℕ) (row at : ℕ) (costs mets edges ends : List ℕ) (n : ℕ) → Type 0
Aims moves row at costs mets edges ends n = Aim (Meant moves row at costs mets edges ends n)
