-- Nodes of the exploration: a centre state, a centre cost and a price for each leaf state. Follows "Prices and layers" and "The exploration".
pub mod Laws
use Rattle.std.specs.Prelude.{Bool, cond, ◌&&◌, List, [], ◌∷◌, ℕ, suc, ◌+◌, min, ltb, leb, eqb, length, get_or}
use Rattle.loops.specs.Count.{all, sum, list}
use Rattle.task.specs.declared.Task.{Task}
use Rattle.task.specs.declared.Centre.{Centre}
use Rattle.task.specs.Meaning.{initial, goal, factor, cost}
use Rattle.task.specs.Factors.{states, values_of, meets_in}
use Rattle.task.specs.Centre.{centre, centre_meets, value_in}
use Rattle.leaf.specs.Price.{mark}
use Rattle.layer.specs.Layer.{leaf_part, first_prices, next_prices, next_centre}

-- "A node has a centre state, a centre cost (the sum of its path's centre actions) and a price for each leaf state."
-- Beside them: the number of the node that it was made from, and the centre action that made it; 0 and 0 for node 0.
pub record Node : Type 0 where
  pub spot : Centre
  pub paid : ℕ
  pub prices : List ℕ
  pub parent : ℕ
  pub action : ℕ

-- "Node 0 is the empty path."
unfoldable pub first_node : Task → Node
first_node t = record { spot = centre t (initial t); paid = 0; prices = first_prices t; parent = 0; action = 0 }

-- the node that centre action a makes of node n, whose number is u
unfoldable pub next_node : Task → ℕ → Node → ℕ → Node
next_node t u n a =
    let c = next_centre t a n.spot in
    record { spot = c; paid = n.paid + cost t a; prices = next_prices t c a n.prices; parent = u; action = a }

-- the least price of a list, the mark if there is none below it
unfoldable pub least_of : List ℕ → ℕ
least_of [] = mark
least_of (x ∷ xs) = min x (least_of xs)

-- "The key of a node is its centre cost plus the least price of each leaf." It is a lower bound on the cost of every plan behind the node.
unfoldable pub key : Task → Node → ℕ
key t n = n.paid + sum t.leaves (λ i. least_of (leaf_part t i n.prices))

-- the prices of the leaf's goal states, the mark at all others
unfoldable pub goal_prices : Task → ℕ → Node → List ℕ
goal_prices t i n =
    list (states t (suc i)) (λ x. cond (meets_in t (suc i) (goal t) (values_of t (suc i) x)) (get_or (leaf_part t i n.prices) x mark) mark)

-- "if its centre meets the goal and each leaf has a reachable goal state"
unfoldable pub is_goal : Task → Node → Bool
is_goal t n = centre_meets (factor t) (goal t) n.spot && all t.leaves (λ i. ltb (least_of (goal_prices t i n)) mark)

-- "Its goal cost .. is its centre cost plus each leaf's least price of one."
unfoldable pub goal_cost : Task → Node → ℕ
goal_cost t n = n.paid + sum t.leaves (λ i. least_of (goal_prices t i n))

-- "the same centre, no higher centre cost and no higher price anywhere": m dominates n
unfoldable pub dominates : Node → Node → Bool
dominates m n =
    all 32 (λ v. eqb (value_in m.spot v) (value_in n.spot v)) &&
    (leb m.paid n.paid && all (length n.prices) (λ k. leb (get_or m.prices k mark) (get_or n.prices k mark)))
