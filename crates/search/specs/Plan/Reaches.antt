-- The plan of a goal node reaches the goal, and costs the node's goal cost. Assumes nothing.
use Rattle.std.specs.Prelude.{◌≡◌, true, ℕ, suc, ◌<◌, length}
use Rattle.std.proofs.Math.Path.{refl, sym, ap}
use Rattle.std.proofs.Common.{◌∙◌}
use mathlib.Core.List.{List, []}
use native.Mathlib.Omega.{arith}
use Rattle.std.proofs.Math.Dec.{eqb}
use Rattle.std.proofs.Math.ListN.{get_or}
use borrow.Author.Tests.{eqb-true, eq-eqb}
use Rattle.loops.specs.Count.{sum}
use Rattle.loops.specs.Count.Laws.{and_in, sum_ext, list_length}
use Rattle.task.specs.declared.Task.{Task}
use Rattle.task.specs.Meaning.{initial, goal, final, reaches, cost_of}
use Rattle.task.specs.Factors.{number, states, values_of, meets_in}
use Rattle.task.specs.Centre.{centre}
use Rattle.task.specs.Valid.{Valid}
use Rattle.task.specs.Star.{goal_joins}
use Rattle.leaf.specs.Price.{mark}
use Rattle.price.specs.Sequences.{final_inside, cost_of_split}
use Rattle.price.specs.Ways.{centre_along, staged_cost}
use Rattle.price.specs.Ways.Split.{split}
use Rattle.price.specs.Ways.Weave.{Woven, weave_runs}
use Rattle.search.specs.Node.{Node, least_of, goal_prices, is_goal, goal_cost}
use Rattle.search.specs.Node.Laws.{least_of_in, goal_prices_out, is_goal_out}
use Rattle.search.specs.Explore.{Search, node_at}
use Rattle.search.specs.Plan.{stages, path_to, goal_state, plan_of}
use Rattle.search.specs.Plan.Lowest.{lowest_is}
use Rattle.search.specs.Plan.Real.{Real}
use Rattle.search.specs.Plan.Stages.{price_in, Priced, path_reached, Walked, stages_walked}

-- ---- the goal state of a leaf

-- there is a goal price for each state
goal_prices_length : (t : Task) (i : ℕ) (n : Node) → length (goal_prices t i n) ≡ states t (suc i)
unfolding goal_prices
goal_prices_length t i n = list_length (states t (suc i)) _

module _ (t : Task) (s : Search) (u : ℕ) where
  -- where a leaf has a reachable goal state, its goal state meets the goal, at the least price of one
  pub goal_state_is : (i : ℕ) → least_of (goal_prices t i (node_at t s u)) < mark
      → (meets_in t (suc i) (goal t) (values_of t (suc i) (goal_state t s i u)) ≡ true) × (price_in t s i u (goal_state t s i u) ≡ least_of (goal_prices t i (node_at t s u)))
  unfolding goal_state
  goal_state_is i h =
      let G = goal_prices t i (node_at t s u) in
      let (k, b, e) = least_of_in G h in
      let d = lowest_is (states t (suc i)) (λ x. eqb (get_or G x mark) (least_of G)) k (omega (arith, goal_prices_length t i (node_at t s u))) (eq-eqb (get_or G k mark) (least_of G) e) in
      let f = eqb-true (get_or G (goal_state t s i u) mark) (least_of G) d.passes in
      let w = goal_prices_out t i (node_at t s u) (goal_state t s i u) (omega arith) in
      (w.1, sym w.2 ∙ f)

-- in a goal node each leaf's goal state has a price below the mark
pub goal_priced : (t : Task) (s : Search) (u : ℕ) → is_goal t (node_at t s u) ≡ true → Priced t s u (λ i. goal_state t s i u)
goal_priced t s u e i m =
    let low = ((is_goal_out t (node_at t s u) e).1 i m).0 in
    omega (arith, (goal_state_is t s u i low).1)

-- ---- the plan

module _ (t : Task) (ok : Valid t) (s : Search) (r : Real t s) (u : ℕ) (h : u < length s.kept) (g : is_goal t (node_at t s u) ≡ true) where
  -- each leaf has a goal state below the mark
  goal_low : (i : ℕ) → i < t.leaves → least_of (goal_prices t i (node_at t s u)) < mark
  goal_low i m = ((is_goal_out t (node_at t s u) g).1 i m).0

  -- the plan runs, with the path's centre actions, to the goal states, at their prices
  pub plan_woven : Woven t (initial t) (plan_of t s u) (path_to t s u u) (λ i. goal_state t s i u) (sum t.leaves (λ i. least_of (goal_prices t i (node_at t s u))))
  unfolding plan_of
  plan_woven = rw (← same) (weave_runs t ok (initial t) (λ k i. get_or (stages t s i u u (goal_state t s i u)) k []) (λ i. goal_state t s i u) ok.fields.initial_inside refl
      (path_reached t s r u u (omega arith) h).passable (λ i m. (walked i m).staged))
    where
      walked : (i : ℕ) (m : i < t.leaves) → Walked t i (path_to t s u u) (stages t s i u u (goal_state t s i u)) (goal_state t s i u) (price_in t s i u (goal_state t s i u))
      walked i m = stages_walked t ok s r i m u u (goal_state t s i u) (omega arith) h (goal_priced t s u g i m)

      same : sum t.leaves (λ i. staged_cost t (λ k. get_or (stages t s i u u (goal_state t s i u)) k []) (path_to t s u u)) ≡ sum t.leaves (λ i. least_of (goal_prices t i (node_at t s u)))
      same = sum_ext t.leaves _ _ (λ i m. (walked i m).total ∙ (goal_state_is t s u i (goal_low i m)).1)

  -- it ends where the goal holds
  pub plan_goal : reaches t (plan_of t s u) ≡ true
  unfolding reaches
  plan_goal =
      and_in plan_woven.carries (goal_joins t ok (final_inside t ok (initial t) (plan_of t s u) ok.fields.initial_inside plan_woven.carries) (rw spot (is_goal_out t (node_at t s u) g).0) leaf)
    where
      spot : centre t (final t (initial t) (plan_of t s u)) ≡ (node_at t s u).spot
      spot =
          (split t ok (initial t) (plan_of t s u) ok.fields.initial_inside plan_woven.carries).spot
          ∙ ap (λ (p : List ℕ). centre_along t (centre t (initial t)) p) plan_woven.centred ∙ (path_reached t s r u u (omega arith) h).spot

      leaf : (i : ℕ) → i < t.leaves → meets_in t (suc i) (goal t) (values_of t (suc i) (number t (suc i) (final t (initial t) (plan_of t s u)))) ≡ true
      leaf i m = rw (plan_woven.lands i m) (goal_state_is t s u i (goal_low i m)).0

  -- it costs the node's goal cost
  pub plan_cost : cost_of t (plan_of t s u) ≡ goal_cost t (node_at t s u)
  unfolding goal_cost
  plan_cost =
      omega (
        arith,
        cost_of_split t (plan_of t s u),
        ap (λ (p : List ℕ). cost_of t p) plan_woven.centred,
        (path_reached t s r u u (omega arith) h).paid,
        plan_woven.paid,
      )

-- the plan of a goal node reaches the goal, and costs the node's goal cost
pub plan_reaches : (t : Task) (s : Search) (u : ℕ) → Valid t → Real t s → u < length s.kept → is_goal t (node_at t s u) ≡ true
    → (reaches t (plan_of t s u) ≡ true) × (cost_of t (plan_of t s u) ≡ goal_cost t (node_at t s u))
plan_reaches t s u ok r h g = (plan_goal t ok s r u h g, plan_cost t ok s r u h g)
