-- The plan of a goal node, walked back leaf by leaf. Follows "The exploration": "The plan".
pub mod Lowest
pub mod Staged
pub mod Real
pub mod Depths
pub mod WayBack
pub mod Depth
pub mod Stages
pub mod Reaches
pub mod Found
pub mod Backwards
pub mod Short
pub mod Laid
use Rattle.std.specs.Prelude.{Bool, cond, ◌&&◌, List, [], ◌∷◌, ◌++◌, ℕ, zero, suc, ◌+◌, ltb, eqb, length, get_or}
use Rattle.loops.specs.Count.{any, list}
use Rattle.task.specs.declared.Task.{Task}
use Rattle.task.specs.Meaning.{cost}
use Rattle.task.specs.Factors.{states, to}
use Rattle.leaf.specs.Price.{mark}
use Rattle.leaf.specs.Settle.{settled}
use Rattle.layer.specs.Layer.{enabled, start_leaf, pass_leaf, leaf_part}
use Rattle.price.specs.Ways.{weave}
use Rattle.search.specs.Node.{least_of, goal_prices}
use Rattle.search.specs.Explore.{Search, node_at}

-- the lowest number below n at which the test passes, n where there is none
unfoldable pub lowest : ℕ → (ℕ → Bool) → ℕ
lowest zero test = 0
lowest (suc n) test = let k = lowest n test in cond (ltb k n) k (cond (test n) n (suc n))

-- ---- inside a layer: P are the leaf's prices, B those that the layer began with, acts the enabled leaf actions

-- action a leads from x to y at the right price
unfoldable pub tight : Task → ℕ → List ℕ → ℕ → ℕ → ℕ → Bool
tight t l P a x y = eqb (to t l a x) (suc y) && eqb (get_or P x mark + cost t a) (get_or P y mark)

-- one more than what action a makes of x where that is at the right price, else 0
unfoldable pub tight_to : Task → ℕ → List ℕ → ℕ → ℕ → ℕ
tight_to t l P a x = elim (to t l a x) [ zero ↦ 0 | suc y ↦ cond (tight t l P a x y) (suc y) 0 ]

-- "a state's depth is the fewest leaf actions, since the layer began, that give its price": settling once more, each action at cost 1, from the
-- states that have kept the price that they began with. Depth proves that this is the fewest (depth_fewest)
unfoldable pub depths : Task → ℕ → List ℕ → List ℕ → List ℕ → List ℕ
depths t l acts B P =
    settled mark (length acts) (λ j. 1) (λ j x. tight_to t l P (get_or acts j 0) x)
    (list (length P) (λ x. cond (ltb (get_or P x mark) mark && eqb (get_or B x mark) (get_or P x mark)) 0 mark))

-- x is a source of y by action a: the right price, and depth k
unfoldable pub source : Task → ℕ → List ℕ → List ℕ → ℕ → ℕ → ℕ → ℕ → Bool
source t l P D k y a x = tight t l P a x y && eqb (get_or D x mark) k

-- the actions that lead, in this layer, from a state of depth 0 to y, whose depth is k; and that state
pub record Back : Type 0 where
  pub from : ℕ
  pub acts : List ℕ

-- "the lowest-numbered leaf action, then its lowest source state, with the right price and depth one less"
unfoldable pub back : Task → ℕ → List ℕ → List ℕ → List ℕ → ℕ → ℕ → Back
back t l acts P D zero y = record { from = y; acts = [] }
back t l acts P D (suc k) y =
    let a = get_or acts (lowest (length acts) (λ j. any (length P) (source t l P D k y (get_or acts j 0)))) 0 in
    let r = back t l acts P D k (lowest (length P) (source t l P D k y a)) in
    record { from = r.from; acts = r.acts ++ (a ∷ []) }

-- ---- from node to node

-- the prices that the layer of node u began with, in the leaf behind i leaves
unfoldable pub begins : Task → Search → ℕ → ℕ → List ℕ
begins t s i zero = start_leaf t (suc i)
begins t s i (suc u) =
    let n = node_at t s (suc u) in
    pass_leaf t (suc i) n.action (leaf_part t i (node_at t s n.parent).prices)

-- the way back inside the layer of node u, from state y
unfoldable pub back_in : Task → Search → ℕ → ℕ → ℕ → Back
back_in t s i u y =
    let P = leaf_part t i (node_at t s u).prices in
    let acts = enabled t (suc i) (node_at t s u).spot in
    let D = depths t (suc i) acts (begins t s i u) P in
    back t (suc i) acts P D (get_or D y mark) y

-- "go back over the centre action to the lowest state that gave this price": z is a state of node u's layer with the price that it began with
unfoldable pub over : Task → Search → ℕ → ℕ → ℕ → ℕ
over t s i u z =
    let n = node_at t s u in
    let P = leaf_part t i (node_at t s n.parent).prices in
    lowest (states t (suc i)) (λ x. eqb (to t (suc i) n.action x) (suc z) && eqb (get_or P x mark) (get_or (leaf_part t i n.prices) z mark))

-- the leaf's actions in each layer from node 0 to node u, where it ends in state y; a node's parent has a lower number, so the number is fuel enough
unfoldable pub stages : Task → Search → ℕ → ℕ → ℕ → ℕ → List (List ℕ)
stages t s i zero u y = (back_in t s i u y).acts ∷ []
stages t s i (suc fuel) u y =
    let b = back_in t s i u y in
    elim u [ zero ↦ b.acts ∷ [] | suc v ↦ stages t s i fuel (node_at t s (suc v)).parent (over t s i (suc v) b.from) ++ (b.acts ∷ []) ]

-- the centre actions from node 0 to node u
unfoldable pub path_to : Task → Search → ℕ → ℕ → List ℕ
path_to t s zero u = []
path_to t s (suc fuel) u = elim u [ zero ↦ [] | suc v ↦ path_to t s fuel (node_at t s (suc v)).parent ++ ((node_at t s (suc v)).action ∷ []) ]

-- "for each leaf start at the lowest-numbered goal state of least price"
unfoldable pub goal_state : Task → Search → ℕ → ℕ → ℕ
goal_state t s i u =
    let G = goal_prices t i (node_at t s u) in
    lowest (states t (suc i)) (λ x. eqb (get_or G x mark) (least_of G))

-- "Written forwards, each layer holds leaf 1's actions, then leaf 2's and so on, then the next centre action."
unfoldable pub plan_of : Task → Search → ℕ → List ℕ
plan_of t s u = weave t.leaves (λ k i. get_or (stages t s i u u (goal_state t s i u)) k []) (path_to t s u u)
