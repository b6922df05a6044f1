-- Demand 3: where the exploration has finished, the goal cost of best's node is the least cost of all sequences that reach the goal, of any length
-- and order, some sequence has it, and with no best no sequence reaches the goal. Assumes nothing.
use Rattle.std.specs.Prelude.{◌≡◌, true, List, ℕ, suc, ◌≤◌, ◌<◌}
use Rattle.std.proofs.Common.{sym, ◌∙◌, arith}
use Rattle.loops.specs.Count.{sum}
use Rattle.loops.specs.Count.Laws.{and_in, sum_ext}
use Rattle.task.specs.declared.Task.{Task}
use Rattle.task.specs.Meaning.{initial, goal, holds, runs, final, reaches, cost_of, Least}
use Rattle.task.specs.Factors.{centre_actions, leaf_cost}
use Rattle.task.specs.Centre.{centre}
use Rattle.task.specs.Valid.{Valid}
use Rattle.task.specs.Star.{goal_joins}
use Rattle.leaf.specs.Price.{mark}
use Rattle.price.specs.Path.{first_layer}
use Rattle.price.specs.Path.Laws.{price, walk_spot}
use Rattle.price.specs.Sums.{gather}
use Rattle.price.specs.Sequences.{cost_of_split, final_inside}
use Rattle.price.specs.Ways.Split.{split}
use Rattle.price.specs.Demand.{EndsAt}
use Rattle.price.specs.Demand2.{walk_priced}
use Rattle.search.specs.Node.{Node, least_of, goal_prices, is_goal, goal_cost}
use Rattle.search.specs.Node.Laws.{Aim, is_goal_out}
use Rattle.search.specs.Cover.{layer_of}
use Rattle.search.specs.Made.{Made}
use Rattle.search.specs.Explore.{finished, node_at, explored}
use Rattle.search.specs.Explore.Closure.{closure_none, closure_best}
use Rattle.search.specs.Explore.Rounds.{explored_ended, explored_base}

-- ---- a goal node's cost is that of a plan

module _ (t : Task) (ok : Valid t) where
  -- the goal cost of a goal node of a path is the cost of a sequence that reaches the goal
  pub goal_real : (u : ℕ) (n : Node) → u < 4096 → Made t u n → is_goal t n ≡ true → (acts : List ℕ) × ((reaches t acts ≡ true) × (cost_of t acts ≡ goal_cost t n))
  unfolding reaches goal_cost
  goal_real u n l m g =
      let (acts, (ends_at, paid)) =
      (walk_priced t ok m.path (omega (arith, m.short)) m.centred (layer_of n) m.walked).reached xs (λ i b. (aims i b).0) below in
      (acts, (and_in {a = runs t (initial t) acts} ends_at.along.carries (meets acts ends_at), costs acts ends_at paid))
    where
      leaf : (i : ℕ) → i < t.leaves → (least_of (goal_prices t i n) < mark) × ((x : ℕ) × Aim t n i x)
      leaf = (is_goal_out t n g).1

      picked : (f : ℕ → ℕ) × ((i : ℕ) → i < t.leaves → Aim t n i (f i))
      picked = gather 0 t.leaves (Aim t n) (λ i b. (leaf i b).1)

      xs : ℕ → ℕ
      xs = picked.0

      aims : (i : ℕ) → i < t.leaves → Aim t n i (xs i)
      aims = picked.1

      below : (i : ℕ) → i < t.leaves → price t (layer_of n) i (xs i) < mark
      below i b = let (_, _, p) = aims i b in omega (arith, (leaf i b).0)

      meets : (acts : List ℕ) → EndsAt t m.path xs acts → holds t.variables (goal t) (final t (initial t) acts) ≡ true
      meets acts w =
          let h = ok.fields.initial_inside in
          let r = w.along.carries in
          let q : centre t (final t (initial t) acts) ≡ n.spot =
          (split t ok (initial t) acts h r).spot ∙ rw w.along.centred (sym (walk_spot t m.path (first_layer t) m.walked)) in
          goal_joins t ok (final_inside t ok (initial t) acts h r) (rw q (is_goal_out t n g).0) (λ i b. rw (w.chosen i b) (aims i b).1)

      costs : (acts : List ℕ) → EndsAt t m.path xs acts → leaf_cost t acts ≡ sum t.leaves (λ i. price t (layer_of n) i (xs i)) → cost_of t acts ≡ goal_cost t n
      costs acts w paid =
          let c : cost_of t (centre_actions t acts) ≡ n.paid = rw w.along.centred (sym m.spent) in
          omega (arith, cost_of_split t acts, sum_ext t.leaves (λ i. price t (layer_of n) i (xs i)) (λ i. least_of (goal_prices t i n)) (λ i b. (aims i b).2))

-- ---- the whole exploration

module _ (t : Task) (nodes budget : ℕ) (ok : Valid t) (some : 1 ≤ nodes) (few : nodes ≤ 4096) where
  -- demand 3: where the exploration has finished with no best, no sequence reaches the goal; with a best, none costs less than its goal cost
  pub demand_3 : (explored t nodes budget).reason ≡ finished
      → ((explored t nodes budget).search.best ≡ 0 → (acts : List ℕ) → reaches t acts ≡ true → ⊥)
      × ((u : ℕ) → (explored t nodes budget).search.best ≡ suc u → Least t (goal_cost t (node_at t (explored t nodes budget).search u)))
  demand_3 e =
      let (_, c) = explored_ended t nodes budget some few e in
      (closure_none t ok (explored t nodes budget).search c, closure_best t ok (explored t nodes budget).search c)

  -- wherever it stops with a best, some sequence that reaches the goal has best's goal cost
  pub best_real : (u : ℕ) → (explored t nodes budget).search.best ≡ suc u
      → (acts : List ℕ) × ((reaches t acts ≡ true) × (cost_of t acts ≡ goal_cost t (node_at t (explored t nodes budget).search u)))
  best_real u q =
      let b = explored_base t nodes budget some in
      let (l, g) = b.best_in u q in
      goal_real t ok u (node_at t (explored t nodes budget).search u) (omega (arith, b.room)) (b.made u l) g
