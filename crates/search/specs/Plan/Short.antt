-- The plan of a goal node is short: a layer has no more actions than there are leaf states, a centre action stands between two layers, and there
-- are no more layers than nodes up to this one. Assumes nothing.
use Rattle.std.specs.Prelude.{◌≡◌, true, length}
use Rattle.std.proofs.Common.{sym, ap, ◌∙◌, suc-mul, le_trans, mul-le-mul_right, add-one, length-append}
use Prim.Native.Nat.{ℕ, zero, suc, ◌+◌, ◌*◌, ◌≤◌, ◌<◌}
use native.Mathlib.Omega.{arith}
use Rattle.std.proofs.lemmas.List.{length-reverse}
use Rattle.loops.specs.Count.{sum}
use Rattle.task.specs.declared.Task.{Task}
use Rattle.task.specs.Factors.{states, all_states}
use Rattle.task.specs.Valid.{Valid}
use Rattle.leaf.specs.Price.{mark}
use Rattle.search.specs.Node.{is_goal}
use Rattle.search.specs.Explore.{Search, node_at, explored}
use Rattle.search.specs.Explore.Rounds.{explored_base}
use Rattle.search.specs.Plan.{begins, back_in, goal_state, plan_of}
use Rattle.search.specs.Plan.Real.{Real, node_part, begins_length, begins_cap}
use Rattle.search.specs.Plan.Depths.{depth_bound, depth_all}
use Rattle.search.specs.Plan.WayBack.{back_count}
use Rattle.search.specs.Plan.Stages.{price_in, Priced, back_in_led, over_is}
use Rattle.search.specs.Plan.Reaches.{goal_priced}
use Rattle.search.specs.Plan.Found.{explored_real}
use Rattle.search.specs.Plan.Backwards.{layer_back, states_before, plan_back, plan_back_last, plan_back_more, plan_back_lem}

-- ---- inside a layer

module _ (t : Task) (ok : Valid t) (s : Search) (r : Real t s) where
  -- from a state whose price is below the mark it has no more than the leaf has states
  back_in_short : (i u y : ℕ) → i < t.leaves → u < length s.kept → price_in t s i u y < mark → length (back_in t s i u y).acts ≤ states t (suc i)
  unfolding back_in
  back_in_short i u y m h p =
      let same = node_part t s r i u m h in
      let len = begins_length t s i u in
      let cap = begins_cap t s i u in
      let deep = depth_all t ok i m (node_at t s u).spot (begins t s i u) len cap y (rw same at p) in
      rw (back_count, same) (depth_bound t ok i m (node_at t s u).spot (begins t s i u) len cap y deep)

  -- the leaves below n together have no more than these have states
  layer_back_short : (u : ℕ) (ys : ℕ → ℕ) → u < length s.kept → Priced t s u ys → (n : ℕ) → n ≤ t.leaves
      → length (layer_back t s u ys n) ≤ sum n (λ i. states t (suc i))
  unfolding layer_back sum
  layer_back_short u ys h p zero l = omega arith
  layer_back_short u ys h p (suc n) l =
      let m : n < t.leaves = omega arith in
      simp (length-append, length-reverse) (omega (arith, back_in_short n u (ys n) m h (p n m), layer_back_short u ys h p n (omega arith)))

  -- the whole layer no more than all leaves have
  layer_short : (u : ℕ) (ys : ℕ → ℕ) → u < length s.kept → Priced t s u ys → length (layer_back t s u ys t.leaves) ≤ all_states t
  unfolding all_states
  layer_short u ys h p = layer_back_short u ys h p t.leaves (omega arith)

  -- ---- from node to node

  -- in the parent's layer too each leaf ends in a state whose price is below the mark
  priced_before : (u : ℕ) (ys : ℕ → ℕ) → suc u < length s.kept → Priced t s (suc u) ys
      → Priced t s (node_at t s (suc u)).parent (states_before t s (suc u) ys)
  priced_before u ys h p i m =
      let led = back_in_led t ok s r i m (suc u) (ys i) h (p i m) in
      omega (arith, led.below, (over_is t ok s r i m u (back_in t s i (suc u) (ys i)).from led.below led.kept).2)

  -- node 0 has its layer alone
  plan_back_first : (fuel : ℕ) (ys : ℕ → ℕ) → 0 < length s.kept → Priced t s 0 ys → length (plan_back t s fuel 0 ys) ≤ all_states t
  plan_back_first fuel ys h p = rw (plan_back_last t s fuel ys) (layer_short 0 ys h p)

  -- a layer for each node that is passed, and an action between two
  plan_back_short : (fuel u : ℕ) (ys : ℕ → ℕ) → u ≤ fuel → u < length s.kept → Priced t s u ys
      → length (plan_back t s fuel u ys) ≤ u * (all_states t + 1) + all_states t
  plan_back_short zero zero ys l h p = omega (arith, plan_back_first zero ys h p)
  plan_back_short zero (suc u) ys l h p = absurd (omega arith)
  plan_back_short (suc fuel) zero ys l h p = omega (arith, plan_back_first (suc fuel) ys h p)
  plan_back_short (suc fuel) (suc u) ys l h p =
      let v = (node_at t s (suc u)).parent in
      let low : v ≤ u = omega (arith, r.lower u h) in
      let rest = plan_back_short fuel v (states_before t s (suc u) ys) (omega arith) (omega arith) (priced_before u ys h p) in
      rw (plan_back_more t s fuel u ys, length-append)
      (omega (arith, layer_short (suc u) ys h p, rest, mul-le-mul_right (all_states t + 1) low, suc-mul u (all_states t + 1)))

-- ---- the plan

-- the plan of a goal node has no more actions than the leaves have states, and one, for each node up to this one
pub plan_short : (t : Task) (s : Search) (u : ℕ) → Valid t → Real t s → u < length s.kept → is_goal t (node_at t s u) ≡ true
    → length (plan_of t s u) ≤ (u + 1) * (all_states t + 1)
plan_short t s u ok r h g =
    let xs = plan_back t s u u (λ i. goal_state t s i u) in
    let same : length (plan_of t s u) ≡ length xs = ap length (sym (plan_back_lem t s u)) ∙ length-reverse xs in
    rw (same, add-one u) (omega (arith, plan_back_short t ok s r u u (λ i. goal_state t s i u) (omega arith) h (goal_priced t s u g), suc-mul u (all_states t + 1)))

-- the plan of best's node has no more than that for each node that the table has room for
pub best_short : (t : Task) (nodes : ℕ) → Valid t → 1 ≤ nodes → (budget u : ℕ) → (explored t nodes budget).search.best ≡ suc u
    → length (plan_of t (explored t nodes budget).search u) ≤ nodes * (all_states t + 1)
best_short t nodes ok some budget u e =
    let s = (explored t nodes budget).search in
    let b = explored_base t nodes budget some in
    let (h, g) = b.best_in u e in
    let fits : u + 1 ≤ nodes = omega (arith, b.room) in
    le_trans (plan_short t s u ok (explored_real t nodes budget) h g) (mul-le-mul_right (all_states t + 1) fits)
