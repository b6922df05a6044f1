-- Numbers stay small: what a node has paid, its key and its goal cost are below 2^36 where its path has at most 4,096 actions, so no sum of them
-- wraps. Assumes nothing.
use Rattle.std.specs.Prelude.{◌≡◌, true, ℕ, zero, suc, ◌*◌, ◌≤◌, ◌<◌, length}
use mathlib.Core.List.{List, [], ◌∷◌}
use native.Mathlib.Omega.{arith}
use Rattle.loops.specs.Count.{sum}
use Rattle.task.specs.declared.Task.{Task}
use Rattle.task.specs.Meaning.{cost_of}
use Rattle.task.specs.Valid.{dearest, Valid}
use Rattle.leaf.specs.Price.{mark}
use Rattle.layer.specs.Layer.{leaf_part}
use Rattle.price.specs.Path.{first_layer}
use Rattle.price.specs.Path.Laws.{price, rise}
use Rattle.price.specs.Prices.{Centred}
use Rattle.price.specs.Live.{Live, first_live, walk_live}
use Rattle.search.specs.Node.{Node, least_of, key, goal_prices, is_goal, goal_cost}
use Rattle.search.specs.Node.Laws.{least_of_le, is_goal_out}
use Rattle.search.specs.Cover.{layer_of}
use Rattle.search.specs.Made.{Made, made_sound}

-- terms of 4,097 rises at most, in a sum of n
pub sum_small : (n : ℕ) (f : ℕ → ℕ) → ((i : ℕ) → i < n → f i ≤ 4097 * rise) → sum n f ≤ n * (4097 * rise)
unfolding sum
sum_small zero f h = omega arith
sum_small (suc n) f h = omega (arith, sum_small n f (λ i l. h i (omega arith)), h n (omega arith))

module _ (t : Task) (ok : Valid t) where
  -- ---- costs

  -- a path costs at most as much as the dearest action for each of its actions
  pub path_cost : (p : List ℕ) → Centred t p → cost_of t p ≤ length p * dearest
  unfolding cost_of
  path_cost [] c = omega arith
  path_cost (a ∷ p) c = omega (arith, path_cost p (λ k n. c (suc k) (omega arith)), ok.fields.cost_bound a (c 0 (omega arith)).0)

  module _ (u : ℕ) (n : Node) (few : u ≤ 4096) (m : Made t u n) where
    -- each leaf has a reachable state in the node
    pub made_live : Live t (layer_of n)
    made_live = walk_live t ok m.path (first_layer t) (layer_of n) m.centred (first_live t ok) m.walked

    -- no price below the mark is above 4,097 rises
    pub made_price : (i : ℕ) → i < t.leaves → (x : ℕ) → price t (layer_of n) i x < mark → price t (layer_of n) i x ≤ 4097 * rise
    made_price i l x h = omega (arith, (made_sound t ok u n m).small i l x h)

    -- what the node has paid
    pub made_paid : n.paid ≤ 4096 * dearest
    made_paid = omega (arith, m.spent, path_cost m.path m.centred, m.short)

    -- a leaf's least price
    pub made_least : (i : ℕ) → i < t.leaves → least_of (leaf_part t i n.prices) ≤ 4097 * rise
    made_least i l =
        let (x, (_, h)) = made_live i l in
        omega (arith, least_of_le (leaf_part t i n.prices) x, made_price i l x h)

    -- its key is below 2^36
    pub made_key : key t n < 68719476736
    unfolding key
    made_key = omega (arith, made_paid, sum_small t.leaves (λ i. least_of (leaf_part t i n.prices)) made_least, ok.fields.few_leaves)

    -- a goal node's goal cost is below 2^36
    pub made_goal : is_goal t n ≡ true → goal_cost t n < 68719476736
    unfolding goal_cost
    made_goal g = omega (arith, made_paid, sum_small t.leaves (λ i. least_of (goal_prices t i n)) low, ok.fields.few_leaves)
      where
        low : (i : ℕ) → i < t.leaves → least_of (goal_prices t i n) ≤ 4097 * rise
        low i l =
            let (b, (x, (_, _, q))) = (is_goal_out t n g).1 i l in
            omega (arith, made_price i l x (omega arith))
