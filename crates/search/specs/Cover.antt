-- What a node knows of a state: it covers the state at a cost if it has the state's centre, a price below the mark for the state of each leaf,
-- and all of it costs no more. Actions that apply lead from covered states to covered states. Assumes nothing.
use Rattle.std.specs.Prelude.{◌≡◌, refl, ◌≢◌, ◌⊎◌, true, ℕ, suc, ◌+◌, ◌≤◌, ◌<◌, length, get_or}
use Rattle.std.proofs.Math.Path.{sym, ap}
use Rattle.std.proofs.Common.{◌∙◌, inl, inr, get_or-take, get_or-drop}
use native.Mathlib.Omega.{arith}
use borrow.Author.Tests.{lt-ltb}
use Rattle.loops.specs.Count.{sum}
use Rattle.loops.specs.Count.Laws.{and_in, all_in}
use Rattle.task.specs.declared.Task.{Task}
use Rattle.task.specs.declared.Centre.{Centre}
use Rattle.task.specs.Meaning.{State, initial, goal, factor, cost, applies, outcome, holds}
use Rattle.task.specs.Factors.{leaf_action, number, states}
use Rattle.task.specs.Centre.{centre, centre_meets}
use Rattle.task.specs.Valid.{Inside, dearest, Valid}
use Rattle.task.specs.Star.{number_lt, applies_in, leaf_centre, leaf_other, centre_next, goal_splits}
use Rattle.leaf.specs.Price.{mark}
use Rattle.layer.specs.Layer.{base, leaf_part, applies_to, next_centre}
use Rattle.layer.specs.Layer.Laws.{base_fits}
use Rattle.price.specs.Path.{Layer, next_layer}
use Rattle.price.specs.Path.Laws.{price, Settled, Small, first_at, next_hit, applies_priced}
use Rattle.price.specs.Sums.{sum_zero, sum_le, bump, bump_cases, sum_bump}
use Rattle.search.specs.Node.{Node, first_node, next_node, least_of, key, goal_prices, is_goal, goal_cost, dominates}
use Rattle.search.specs.Node.Laws.{least_of_le, goal_prices_at, Dominates, dominates_out}

-- a node's layer
abbrev pub layer_of : Node → Layer
layer_of n = record { spot = n.spot; prices = n.prices }

-- a node of some path: its centre state has 32 values, its layer is settled, and no price below the mark is above B
pub record Sound (t : Task) (B : ℕ) (n : Node) : Type 0 where
  pub wide : length n.spot.values ≡ 32
  pub settled : Settled t (layer_of n)
  pub small : Small t B (layer_of n)

-- the price in the node of the leaf's state in state s, for the leaf behind i leaves
abbrev pub price_of : Task → Node → State → ℕ → ℕ
price_of t n s i = price t (layer_of n) i (number t (suc i) s)

-- the node covers state s at cost k
pub record Covers (t : Task) (n : Node) (s : State) (k : ℕ) : Type 0 where
  pub same : n.spot ≡ centre t s
  pub priced : (i : ℕ) → i < t.leaves → price_of t n s i < mark
  pub within : n.paid + sum t.leaves (price_of t n s) ≤ k

module _ (t : Task) (ok : Valid t) where
  -- node 0 covers the initial state at cost 0
  pub cover_first : Covers t (first_node t) (initial t) 0
  unfolding first_node
  cover_first =
      record {
        same = refl;
        priced = λ i l. omega (arith, first_at t ok i l);
        within = omega (
          arith,
          sum_zero t.leaves,
          sum_le t.leaves (price_of t (first_node t) (initial t)) (λ i. 0) (λ i l. omega (arith, first_at t ok i l)),
        );
      }

  -- ---- actions

  -- a leaf action that applies in a covered state leads to a state that the node covers
  pub cover_leaf : (B : ℕ) (n : Node) {s : State} {k : ℕ} (a i : ℕ) → Sound t B n → B + dearest < mark → Inside t s → applies t a s ≡ true → i < t.leaves
      → leaf_action t a (suc i) ≡ true → Covers t n s k → Covers t n (outcome t a s) (k + cost t a)
  cover_leaf B n {s} {k} a i w fits h e l own c =
      record {
        same = c.same ∙ sym (leaf_centre t ok s a i own);
        priced = below;
        within = omega (arith, c.within, sum_le t.leaves (price_of t n (outcome t a s)) (bump i (cost t a) (price_of t n s)) rises, sum_bump i (cost t a) (price_of t n s) t.leaves l);
      }
    where
      known : a < t.actions
      known = (applies_in t ok a h e).0

      step : price_of t n (outcome t a s) i ≤ price_of t n s i + cost t a
      step =
          let (_, (m, to-next)) = applies_in t ok a h e in
          w.settled.closed i l a (number t (suc i) s) (number t (suc i) (outcome t a s)) (number_lt t (suc i) h)
          (record { known = known; own = own; enabled = rw c.same m; takes = to-next i l })

      rises : (j : ℕ) → j < t.leaves → price_of t n (outcome t a s) j ≤ bump i (cost t a) (price_of t n s) j
      rises j m = go (bump_cases i (cost t a) (price_of t n s) j)
        where
          go : ((j ≡ i) × (bump i (cost t a) (price_of t n s) j ≡ cost t a + price_of t n s j)) ⊎ ((j ≢ i) × (bump i (cost t a) (price_of t n s) j ≡ price_of t n s j))
              → price_of t n (outcome t a s) j ≤ bump i (cost t a) (price_of t n s) j
          go (inl (q, f)) = rw (f, q) (omega (arith, step))
          go (inr (d, f)) = rw (f, leaf_other t s a i j own d) (omega arith)

      below : (j : ℕ) → j < t.leaves → price_of t n (outcome t a s) j < mark
      below j m = go (bump_cases i (cost t a) (price_of t n s) j)
        where
          go : ((j ≡ i) × (bump i (cost t a) (price_of t n s) j ≡ cost t a + price_of t n s j)) ⊎ ((j ≢ i) × (bump i (cost t a) (price_of t n s) j ≡ price_of t n s j))
              → price_of t n (outcome t a s) j < mark
          go (inl (q, f)) = omega (arith, rises j m, w.small j m (number t (suc j) s) (c.priced j m), ok.fields.cost_bound a known)
          go (inr (d, f)) = omega (arith, rises j m, c.priced j m)

  module _ (n : Node) {s : State} {k : ℕ} (a : ℕ) (h : Inside t s) (e : applies t a s ≡ true) (c : Covers t n s k) where
    -- an action that applies in a covered state applies to the node
    pub cover_applies : applies_to t n.spot n.prices a ≡ true
    cover_applies =
        let (known, (m, to-next)) = applies_in t ok a h e in
        applies_priced t ok (layer_of n) a (rw c.same m)
        (λ i l. (number t (suc i) s, number t (suc i) (outcome t a s), number_lt t (suc i) h, c.priced i l, to-next i l))

    -- and the node that it makes covers the state that it leads to
    pub cover_centre : (u : ℕ) → Covers t (next_node t u n a) (outcome t a s) (k + cost t a)
    unfolding next_node next_layer
    cover_centre u =
        record {
          same = ap (λ (x : Centre). next_centre t a x) c.same ∙ sym (centre_next t s a);
          priced = λ i l. omega (arith, hit i l, c.priced i l);
          within = omega (arith, c.within, sum_le t.leaves (price_of t (next_node t u n a) (outcome t a s)) (price_of t n s) hit);
        }
      where
        hit : (i : ℕ) → i < t.leaves → price_of t (next_node t u n a) (outcome t a s) i ≤ price_of t n s i
        hit i l =
            let (known, (m, to-next)) = applies_in t ok a h e in
            next_hit t ok a (layer_of n) i l (number t (suc i) s) (number t (suc i) (outcome t a s)) known (number_lt t (suc i) h) (to-next i l)

-- ---- dominance, keys and goals

module _ (t : Task) where
  -- a leaf's price is one of the list of all
  pub price_at : (l : Layer) (i x : ℕ) → x < states t (suc i) → price t l i x ≡ get_or l.prices (base t i + x) mark
  unfolding leaf_part
  price_at l i x h = rw (get_or-take, get_or-drop)

  -- what dominates a node covers what that covers
  pub cover_dominated : (B C : ℕ) (m n : Node) {s : State} {k : ℕ} → Sound t B m → Sound t C n → Inside t s → dominates m n ≡ true → Covers t n s k → Covers t m s k
  cover_dominated B C m n {s} v w h e c =
      record {
        same = d.same ∙ c.same;
        priced = λ i l. omega (arith, low i l, c.priced i l);
        within = omega (arith, d.cheap, c.within, sum_le t.leaves (price_of t m s) (price_of t n s) low);
      }
    where
      d : Dominates m n
      d = dominates_out m n v.wide w.wide e

      low : (i : ℕ) → i < t.leaves → price_of t m s i ≤ price_of t n s i
      low i l =
          let x = number_lt t (suc i) h in
          rw (price_at (layer_of m) i (number t (suc i) s) x, price_at (layer_of n) i (number t (suc i) s) x)
          (d.low (base t i + number t (suc i) s) (omega (arith, base_fits t i l, w.settled.full)))

  -- a node's key is no more than the cost at which it covers a state
  pub cover_key : (n : Node) {s : State} {k : ℕ} → Covers t n s k → key t n ≤ k
  unfolding key
  cover_key n {s} c =
      omega (
        arith,
        c.within,
        sum_le t.leaves (λ i. least_of (leaf_part t i n.prices)) (price_of t n s) (λ i l. least_of_le (leaf_part t i n.prices) (number t (suc i) s)),
      )

  -- where the goal holds in a covered state, the node is a goal node, and its goal cost is no more
  pub cover_goal : Valid t → (n : Node) {s : State} {k : ℕ} → Inside t s → holds t.variables (goal t) s ≡ true → Covers t n s k
      → (is_goal t n ≡ true) × (goal_cost t n ≤ k)
  unfolding is_goal goal_cost
  cover_goal ok n {s} h g c =
      let (m, ms) = goal_splits t ok h g in (
        and_in {a = centre_meets (factor t) (goal t) n.spot} (rw c.same m) (all_in t.leaves _ (λ i l. lt-ltb (least_of (goal_prices t i n)) mark (omega (arith, low i l, c.priced i l)))),
        omega (arith, c.within, sum_le t.leaves (λ i. least_of (goal_prices t i n)) (price_of t n s) low),
      )
    where
      low : (i : ℕ) → i < t.leaves → least_of (goal_prices t i n) ≤ price_of t n s i
      low i l =
          omega (
            arith,
            least_of_le (goal_prices t i n) (number t (suc i) s),
            goal_prices_at t i n (number t (suc i) s) (number_lt t (suc i) h) ((goal_splits t ok h g).1 i l),
          )
