-- The walk back from a node of the lent table: what it looks at, by the tables of a Board, and what it leaves.
pub mod Laws
pub mod Turns
use Rattle.std.specs.Prelude.{◌≡◌, true, false, ◌&&◌, List, [], ◌++◌, reverse, ℕ, zero, suc, ◌+◌, ◌-◌, ◌*◌, ◌≤◌, ◌<◌, eqb, leb, length, get_or, set, drop, replicate}
use Rattle.leaf.specs.Price.{mark}
use Rattle.layer.specs.Board.{Board, base_on, row_on, states_on, part_on, enabled_on, pass_on}
use Rattle.search.specs.Node.{Node, least_of}
use Rattle.search.specs.Explore.{Search}
use Rattle.search.specs.Plan.{lowest, Back}
use Rattle.search.specs.Plan.Laid.{put, laid}
use Rattle.rows.specs.Row.{node_in, nodes_in}
use Rattle.keys.specs.Scan.{part_by, goals_by}
use Rattle.wayback.specs.declared.held.PlanBuffer.{PlanBuffer}
use Rattle.wayback.specs.Steps.{table_back, Walkable}
use Rattle.plans.specs.Kept.{bare}

-- the nodes of a table, all that a walk back looks at
abbrev pub held_in : ℕ → List ℕ → ℕ → Search
held_in S T count = bare (nodes_in S T count)

-- ---- one leaf in the layer of node u of table T, by a Board

abbrev pub node_on : Board → List ℕ → ℕ → Node
node_on b T u = node_in (row_on b) T u

-- the prices of the leaf behind i leaves, and its enabled actions
abbrev pub prices_on : Board → List ℕ → ℕ → ℕ → List ℕ
prices_on b T i u = part_on b i (node_on b T u).prices

abbrev pub acts_on : Board → List ℕ → ℕ → ℕ → List ℕ
acts_on b T i u = enabled_on b i (node_on b T u).spot b.actions

-- the prices that the layer began with; the leaf behind i leaves begins in state `starts[i]`
unfoldable pub begins_on : Board → List ℕ → List ℕ → ℕ → ℕ → List ℕ
begins_on b starts T i zero = set (replicate (states_on b i) mark) (get_or starts i 0) 0
begins_on b starts T i (suc u) = pass_on b i (node_on b T (suc u)).action (prices_on b T i (node_on b T (suc u)).parent)

-- the way back inside a layer that began with prices B, from state y, and that it can be walked
abbrev pub back_from : Board → List ℕ → ℕ → ℕ → List ℕ → ℕ → Back
back_from b T i u B y = table_back b.moves (row_on b) (base_on b i) b.costs (acts_on b T i u) (length (acts_on b T i u)) B (prices_on b T i u) y

abbrev pub WalkableFrom : Board → List ℕ → ℕ → ℕ → List ℕ → ℕ → Type 0
WalkableFrom b T i u B y = Walkable b.moves (row_on b) (base_on b i) b.costs (acts_on b T i u) (length (acts_on b T i u)) B (prices_on b T i u) y

-- the same in the node's layer
abbrev pub back_on : Board → List ℕ → List ℕ → ℕ → ℕ → ℕ → Back
back_on b starts T i u y = back_from b T i u (begins_on b starts T i u) y

abbrev pub WalkableOn : Board → List ℕ → List ℕ → ℕ → ℕ → ℕ → Type 0
WalkableOn b starts T i u y = WalkableFrom b T i u (begins_on b starts T i u) y

-- back over the node's centre action, from state z
unfoldable pub over_on : Board → List ℕ → ℕ → ℕ → ℕ → ℕ
over_on b T i u z =
    let n = node_on b T u in
    let P = prices_on b T i n.parent in
    let price = get_or (prices_on b T i u) z mark in
    lowest (length P) (λ x. eqb (get_or b.moves (n.action * row_on b + base_on b i + x) 0) (suc z) && eqb (get_or P x mark) price)

-- ---- the leaf's goal state, by the table of goal states

unfoldable pub goal_on : List ℕ → List ℕ → List ℕ → ℕ → ℕ
goal_on bases goals P i =
    let G = goals_by (part_by bases i goals) (part_by bases i P) in
    lowest (length (part_by bases i P)) (λ x. eqb (get_or G x mark) (least_of G))

-- ---- what can be read

-- the row of node u lies within the table
abbrev pub RowIn : ℕ → List ℕ → ℕ → Type 0
RowIn S T u = u * (40 + S) + (40 + S) ≤ length T

-- k entries are room for the edges of each leaf: one for each action and state
abbrev pub Roomy : ℕ → ℕ → List ℕ → ℕ → Type 0
Roomy leaves actions bases k = (i : ℕ) → i < leaves → actions * (get_or bases (i + 1) 0 - get_or bases i 0) ≤ k

-- the rows of node u and of its parent lie within the table, and its action is known
pub record Made (b : Board) (T : List ℕ) (u : ℕ) : Type 0 where
  pub here : RowIn (row_on b) T u
  pub before : RowIn (row_on b) T (node_on b T u).parent
  pub known : (node_on b T u).action < b.actions

-- each leaf begins in one of its states, the row of node u lies within the table, and where it is not node 0, it was made from one there
pub record Standing (b : Board) (starts T : List ℕ) (u : ℕ) : Type 0 where
  pub starts_long : b.leaves ≤ length starts
  pub starts_in : (i : ℕ) → i < b.leaves → get_or starts i 0 < states_on b i
  pub here : RowIn (row_on b) T u
  pub made : 0 < u → Made b T u

-- ---- what is left behind

-- the actions of n ways back, the last way's last action first
unfoldable pub backs : (ℕ → Back) → ℕ → List ℕ
backs f zero = []
backs f (suc i) = reverse (f i).acts ++ backs f i

-- the ways f 0 to f (n - 1) were walked from place p on: the states where they end, the place behind them, and the plan
pub record LayerWalked (n : ℕ) (f : ℕ → Back) (total p : ℕ) (plan : List ℕ) (r : ℕ) (ends' plan' : List ℕ) : Type 0 where
  pub place : r ≡ p + length (backs f n)
  pub written : plan' ≡ laid total p (backs f n) plan
  pub states : (i : ℕ) → i < n → get_or ends' i 0 ≡ (f i).from

-- the same, then the node's action, then over it
pub record NodeWalked (n : ℕ) (f : ℕ → Back) (a : ℕ) (go : ℕ → ℕ → ℕ) (total p : ℕ) (plan : List ℕ) (r : ℕ) (ends' plan' : List ℕ) : Type 0 where
  pub place : r ≡ p + length (backs f n) + 1
  pub written : plan' ≡ put total (p + length (backs f n)) a (laid total p (backs f n) plan)
  pub states : (i : ℕ) → i < n → get_or ends' i 0 ≡ go i (f i).from

-- the same in the buffer of a plan
abbrev pub LayerWalkedIn : ℕ → (ℕ → Back) → PlanBuffer → List ℕ → PlanBuffer → Type 0
LayerWalkedIn n f before ends' after = LayerWalked n f before.total before.place before.plan.now after.place ends' after.plan.now

abbrev pub NodeWalkedIn : ℕ → (ℕ → Back) → ℕ → (ℕ → ℕ → ℕ) → PlanBuffer → List ℕ → PlanBuffer → Type 0
NodeWalkedIn n f a go before ends' after = NodeWalked n f a go before.total before.place before.plan.now after.place ends' after.plan.now

-- a plan at the front of the lent buffer; where it does not fit nothing is written
unfoldable pub written : List ℕ → List ℕ → List ℕ
written p plan = elim (leb (length p) (length plan)) [ true ↦ p ++ drop (length p) plan | false ↦ plan ]
