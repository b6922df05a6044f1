-- Why a closed search has found the least cost: what holds of best, what closure is, and that every sequence which reaches the goal from a state
-- that a kept node covers costs no less than best. Assumes nothing.
use Rattle.std.specs.Prelude.{◌≡◌, refl, ◌⊎◌, true, false, ℕ, zero, suc, ◌+◌, ◌*◌, ◌≤◌, ◌<◌}
use Rattle.std.proofs.Common.{inl, inr, arith}
use Rattle.std.proofs.Math.Bool.{true≢false}
use mathlib.Core.List.{List, [], ◌∷◌}
use Rattle.std.proofs.Math.ListN.{length}
use borrow.Author.Tests.{ltb-true, ltb-false, le-ltb}
use Rattle.task.specs.declared.Task.{Task}
use Rattle.loops.specs.Count.Laws.{and_out}
use Rattle.task.specs.Meaning.{State, initial, goal, cost, applies, outcome, holds, runs, final, reaches, cost_of, Least}
use Rattle.task.specs.Factors.{centre_action, leaf_action}
use Rattle.task.specs.Valid.{Inside, Valid}
use Rattle.task.specs.Star.{outcome_inside}
use Rattle.layer.specs.Layer.{applies_to}
use Rattle.price.specs.Path.Laws.{rise}
use Rattle.price.specs.Sequences.{runs_head, applies_known, action_kind}
use Rattle.search.specs.Node.{Node, first_node, next_node, key, is_goal, goal_cost, dominates}
use Rattle.search.specs.Explore.{Search, node_at, below_best}
use Rattle.search.specs.Cover.{Covers, cover_first, cover_leaf, cover_applies, cover_centre, cover_dominated, cover_key, cover_goal}
use Rattle.search.specs.Made.{Made, made_sound, made_next}

-- a cost that is not below best
abbrev pub Beaten : Task → Search → ℕ → Type 0
Beaten t s k = below_best t s k ≡ false

module _ (t : Task) (s : Search) where
  -- with no best every cost is below it
  pub beaten_none : (k : ℕ) → s.best ≡ 0 → Beaten t s k → ⊥
  unfolding below_best
  beaten_none k e b = true≢false (rw (e, below_best) at b)

  -- the goal cost of best's node is no more
  pub beaten_some : (k u : ℕ) → s.best ≡ suc u → Beaten t s k → goal_cost t (node_at t s u) ≤ k
  unfolding below_best
  beaten_some k u e b = ltb-false k _ (rw (e, below_best) at b)

  -- a cost that best's node does not exceed
  pub beaten_in : (k u : ℕ) → s.best ≡ suc u → goal_cost t (node_at t s u) ≤ k → Beaten t s k
  unfolding below_best
  beaten_in k u e l = rw (e, below_best) (le-ltb k (goal_cost t (node_at t s u)) l)

  -- where a cost is not below best, there is a best
  pub beaten_best : (k : ℕ) → Beaten t s k → (u : ℕ) × (s.best ≡ suc u)
  beaten_best k b = go s.best refl
    where
      go : (x : ℕ) → s.best ≡ x → (u : ℕ) × (s.best ≡ suc u)
      go zero e = absurd (beaten_none k e b)
      go (suc u) e = (u, e)

  -- a cost below best is below the goal cost of best's node
  pub below_some : (k u : ℕ) → s.best ≡ suc u → below_best t s k ≡ true → k < goal_cost t (node_at t s u)
  unfolding below_best
  below_some k u e b = ltb-true k _ (rw (e, below_best) at b)

  -- what is more than a cost not below best is not below best
  pub beaten_up : (k j : ℕ) → k ≤ j → Beaten t s k → Beaten t s j
  beaten_up k j l b =
      let (u, e) = beaten_best k b in
      beaten_in j u e (omega (arith, beaten_some k u e b))

  -- a successor that is dealt with: its key is not below best, or a kept node dominates it
  unfoldable pub Handled : Node → Type 0
  Handled n = Beaten t s (key t n) ⊎ ((m : ℕ) × (m < length s.kept) × (dominates (node_at t s m) n ≡ true))

  -- every successor of node u is dealt with
  abbrev pub Opened : ℕ → Type 0
  Opened u = (a : ℕ) → a < t.actions → centre_action t a ≡ true → applies_to t (node_at t s u).spot (node_at t s u).prices a ≡ true → Handled (next_node t u (node_at t s u) a)

  -- what holds where the search has finished
  pub record Closure : Type 0 where
    pub some : 0 < length s.kept
    pub few : length s.kept ≤ 4096
    pub first : node_at t s 0 ≡ first_node t
    pub made : (u : ℕ) → u < length s.kept → Made t u (node_at t s u)
    pub goals : (u : ℕ) → u < length s.kept → is_goal t (node_at t s u) ≡ true → Beaten t s (goal_cost t (node_at t s u))
    pub closed : (u : ℕ) → u < length s.kept → Beaten t s (key t (node_at t s u)) ⊎ Opened u

module _ (t : Task) (ok : Valid t) (s : Search) (c : Closure t s) where
  -- an action that applies in a state that node u covers: best is not above its cost, or a kept node covers the state behind it
  closure_step : (a : ℕ) {x : State} {k : ℕ} (u : ℕ) → u < length s.kept → Covers t (node_at t s u) x k → Inside t x → applies t a x ≡ true
      → Beaten t s (k + cost t a) ⊎ ((m : ℕ) × (m < length s.kept) × Covers t (node_at t s m) (outcome t a x) (k + cost t a))
  unfolding Handled
  closure_step a {x} {k} u l v h e = kind (action_kind t ok a known)
    where
      known : a < t.actions
      known = applies_known t ok x a e

      Next : Type 0
      Next = Beaten t s (k + cost t a) ⊎ ((m : ℕ) × (m < length s.kept) × Covers t (node_at t s m) (outcome t a x) (k + cost t a))

      n : Node
      n = next_node t u (node_at t s u) a

      handled : centre_action t a ≡ true → Beaten t s (key t n) ⊎ ((m : ℕ) × (m < length s.kept) × (dominates (node_at t s m) n ≡ true)) → Next
      handled q (inl b) = inl (beaten_up t s _ _ (cover_key t n (cover_centre t ok (node_at t s u) a h e v u)) b)
      handled q (inr (m, i, d)) =
          let f = cover_applies t ok (node_at t s u) a h e v in
          let w = made_next t u (suc u) u (node_at t s u) a (omega arith) known q f (c.made u l) in
          inr (
            m,
            i,
            cover_dominated t _ _ (node_at t s m) n (made_sound t ok m _ (c.made m i)) (made_sound t ok (suc u) n w) (outcome_inside t ok a known h) d
                (cover_centre t ok (node_at t s u) a h e v u),
          )

      centre : centre_action t a ≡ true → Beaten t s (key t (node_at t s u)) ⊎ Opened t s u → Next
      centre q (inl b) = inl (beaten_up t s _ _ (omega (arith, cover_key t (node_at t s u) v)) b)
      centre q (inr o) = handled q (o a known q (cover_applies t ok (node_at t s u) a h e v))

      kind : (centre_action t a ≡ true) ⊎ ((i : ℕ) × ((i < t.leaves) × ((leaf_action t a (suc i) ≡ true) × (centre_action t a ≡ false)))) → Next
      kind (inl q) = centre q (c.closed u l)
      kind (inr (i, (m, (own, _)))) =
          inr (u, l, cover_leaf t ok (suc u * rise) (node_at t s u) a i (made_sound t ok u _ (c.made u l)) (omega (arith, c.few)) h e m own v)

  -- a sequence that reaches the goal from a covered state costs no less than best
  pub closure_least : (acts : List ℕ) {x : State} {k : ℕ} (u : ℕ) → u < length s.kept → Covers t (node_at t s u) x k → Inside t x → runs t x acts ≡ true
      → holds t.variables (goal t) (final t x acts) ≡ true → Beaten t s (k + cost_of t acts)
  unfolding final cost_of
  closure_least [] {x} {k} u l v h r g =
      let (e, m) = cover_goal t ok (node_at t s u) h g v in
      beaten_up t s _ (k + 0) (omega arith) (c.goals u l e)
  closure_least (a ∷ acts) {x} {k} u l v h r g =
      let (e, r') = runs_head t x a acts r in
      go (closure_step a u l v h e) (λ m l' v'. closure_least acts m l' v' (outcome_inside t ok a (applies_known t ok x a e) h) r' g)
    where
      go : Beaten t s (k + cost t a) ⊎ ((m : ℕ) × (m < length s.kept) × Covers t (node_at t s m) (outcome t a x) (k + cost t a))
          → ((m : ℕ) → m < length s.kept → Covers t (node_at t s m) (outcome t a x) (k + cost t a) → Beaten t s (k + cost t a + cost_of t acts))
          → Beaten t s (k + (cost t a + cost_of t acts))
      go (inl b) rest = beaten_up t s (k + cost t a) _ (omega arith) b
      go (inr (m, i, w)) rest = beaten_up t s (k + cost t a + cost_of t acts) _ (omega arith) (rest m i w)

  -- a sequence that reaches the goal costs no less than best
  pub closure_reaches : (acts : List ℕ) → reaches t acts ≡ true → Beaten t s (cost_of t acts)
  unfolding reaches
  closure_reaches acts e =
      let (r, g) = and_out (runs t (initial t) acts) _ e in
      beaten_up t s (0 + cost_of t acts) (cost_of t acts) (omega arith) (closure_least acts 0 c.some (rw c.first (cover_first t ok)) ok.fields.initial_inside r g)

  -- with no best, no sequence reaches the goal
  pub closure_none : s.best ≡ 0 → (acts : List ℕ) → reaches t acts ≡ true → ⊥
  closure_none e acts r = beaten_none t s _ e (closure_reaches acts r)

  -- with a best, no sequence that reaches the goal costs less
  pub closure_best : (u : ℕ) → s.best ≡ suc u → Least t (goal_cost t (node_at t s u))
  unfolding Least
  closure_best u e acts r = beaten_some t s _ u e (closure_reaches acts r)
