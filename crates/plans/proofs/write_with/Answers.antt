-- `plans::write_with` meets its contract: walked once where any plan fits, else once to count the plan's actions and once more to write them. Assumes nothing.
use Rattle.std.proofs.Common.{◌≡◌, ◌⊎◌, inl, inr, sym, ap, subst, ◌∙◌, List, ◌++◌, ℕ, ◌+◌, ◌-◌, ◌*◌, ◌≤◌, ◌<◌, arith, length, get_or, take, drop}
use Rattle.task.specs.Factors.{all_states}
use Rattle.leaf.specs.Price.{mark}
use Rattle.layer.specs.Board.{row_on}
use Rattle.layer.specs.Board.Laws.{row_on_lem}
use Rattle.layer.specs.Held.{board_in}
use Rattle.search.specs.Plan.{goal_state}
use Rattle.search.specs.Plan.Backwards.{plan_back}
use Rattle.search.specs.Plan.Stages.{price_in, Priced}
use Rattle.search.specs.Plan.Reaches.{goal_priced}
use Rattle.rows.specs.Row.{row_in}
use Rattle.plans.specs.Walk.{held_in, node_on, goal_on}
use Rattle.plans.specs.Walk.Laws.{row_prices}
use Rattle.plans.specs.Fit.{grounds_in, standing_in}
use Rattle.plans.specs.Goal.{goal_on_lem, plan_short, laid_once, laid_twice, plan_turned}
use Rattle.plans.proofs.write_with.Goals as goal
use Rattle.plans.proofs.write_with.Goals.{After-goal_ends-ends, After-walk_back-length, then-fits, else-fits, then-not-fits, else-not-fits}

-- the leaves' states are the task's goal states
ends_are : (c : After-goal_ends-ends) → let t = c.args.tables.now.task.now in
    (i : ℕ) → i < t.leaves → get_or c.goal_ends-ends.result i 0 ≡ goal_state t (held_in (all_states t) c.args.table.now c.args.count) i c.args.node
ends_are c i m =
    let a = c.args in
    let h = a.tables.now in
    let t = h.task.now in
    let b = board_in h.board in
    let T = a.table.now in
    let R = c.row_of.result.now in
    let row : R ≡ row_in (row_on b) T a.node = rw c.states-states.ensures.is at c.row_of.ensures.row in
    let lent : take (length R - 40) (drop 40 R) ≡ (node_on b T a.node).prices =
    ap (λ (xs : List ℕ). take (length R - 40) (drop 40 xs)) row
    ∙ row_prices (row_on b) T a.node (length R - 40) (omega (arith, c.row_of.ensures.long, c.states-states.ensures.is)) in
    c.goal_ends-ends.ensures i (omega (arith, h.fits.leaves_is)) ∙ ap (λ (P : List ℕ). goal_on b.bases a.goals.now P i) lent
    ∙ goal_on_lem t b h.starts.now T a.count (grounds_in h T a.count c.requires.valid.0 c.requires.real.0) a.goals.now c.requires.valid.1 a.node c.requires.node.0 i m
    ∙ ap (λ (S : ℕ). goal_state t (held_in S T a.count) i a.node) (row_on_lem t b h.fits)

-- so they have prices
priced : (c : After-goal_ends-ends) → let t = c.args.tables.now.task.now in
    Priced t (held_in (all_states t) c.args.table.now c.args.count) c.args.node (λ i. get_or c.goal_ends-ends.result i 0)
priced c i m =
    let t = c.args.tables.now.task.now in
    let s = held_in (all_states t) c.args.table.now c.args.count in
    subst (λ (y : ℕ). price_in t s i c.args.node y < mark) (sym (ends_are c i m)) (goal_priced t s c.args.node c.requires.real.1 i m)

-- the first walk may write all places, where any plan fits, or none
rooms : (c : After-walk_back-length) → let most = (c.args.node + 1) * (c.states-states.result + 1) in let places = length c.args.plan.now in
    ((most ≤ places) × (c.if-fits.total ≡ places) × (c.walk_back-length.result ≤ places)) ⊎ ((places < most) × (c.if-fits.total ≡ 0))
rooms c =
    let h = c.args.tables.now in
    let few : c.walk_back-length.result ≤ (c.args.node + 1) * (c.states-states.result + 1) =
    subst (λ (S : ℕ). c.walk_back-length.result ≤ (c.args.node + 1) * (S + 1))
    (sym (c.states-states.ensures.is ∙ row_on_lem h.task.now (board_in h.board) h.fits)) c.walk_back-length.ensures.walked.2 in
    elim c.if-fits.branch [
      | then-fits w ↦ inl (w.if-fits.true, w.total-is, omega (arith, w.if-fits.true))
      | else-fits w ↦ inr (w.if-fits.false, w.total-is)
    ]

pub row_of-requires : goal.row_of-requires
row_of-requires c =
    let a = c.args in
    rw c.states-states.ensures.is (standing_in a.tables.now a.table.now a.count c.requires.valid.0 c.requires.real.0 c.requires.node.2 a.node c.requires.node.0).here

pub walk_back-length-requires-clause-real : goal.walk_back-length-requires-clause-real
walk_back-length-requires-clause-real c = (c.requires.real.0, priced (goal.at.walk_back-length-requires-clause-real c).After-goal_ends-ends)

pub walk_back-requires-clause-real : goal.walk_back-requires-clause-real
walk_back-requires-clause-real c = (c.requires.real.0, priced (goal.at.walk_back-requires-clause-real c).After-goal_ends-ends)

pub returns-then-length-plan : goal.returns-then-length-plan
returns-then-length-plan c =
    let a = c.args in
    let t = a.tables.now.task.now in
    let w = c.walk_back-length in
    let g = goal.at.returns-then-length-plan c in
    let fits : 0 < c.if-fits.total → w.result ≤ length a.plan.now = λ z. elim (rooms g.After-walk_back-length) [ inl f ↦ f.2 | inr f ↦ absurd (omega (arith, f.1)) ] in
    plan_short t (held_in (all_states t) a.table.now a.count) a.node (λ i. get_or c.goal_ends-ends.result i 0) (ends_are g.After-goal_ends-ends) c.if-fits.total w.result
    a.plan.now _ w.ensures.walked.0 w.ensures.walked.1 fits w.auto.plan c.if-length-plan.true

pub returns : goal.returns
returns c =
    let a = c.args in
    let t = a.tables.now.task.now in
    let s = held_in (all_states t) a.table.now a.count in
    let ys : ℕ → ℕ = λ i. get_or c.goal_ends-ends.result i 0 in
    let w = c.walk_back-length in
    let g = goal.at.returns c in
    let whole = plan_back t s a.node a.node ys in
    let same = ends_are g.After-goal_ends-ends in
    let room = rooms g.After-walk_back-length in
    let there : c.if-not-fits.plan ≡ whole ++ drop (length whole) a.plan.now =
    elim c.if-not-fits.branch [
      | then-not-fits v ↦ (
          let none : c.if-fits.total ≡ 0 = elim room [ inl f ↦ absurd (omega (arith, f.0, v.if-not-fits.true)) | inr f ↦ f.1 ] in
          v.plan-is
          ∙ laid_twice t s a.node ys same c.if-fits.total w.result a.plan.now _ _ none w.ensures.walked.0 w.ensures.walked.1 v.walk_back.ensures.walked.1
          c.if-length-plan.false
          )
      | else-not-fits v ↦ (
          let all : (w.result ≤ c.if-fits.total) × (c.if-fits.total ≤ length a.plan.now) =
          elim room [ inl f ↦ omega (arith, f) | inr f ↦ absurd (omega (arith, f.0, v.if-not-fits.false)) ] in
          v.plan-is ∙ laid_once t s a.node ys same c.if-fits.total w.result a.plan.now _ w.ensures.walked.0 w.ensures.walked.1 all.0 all.1
          )
    ] in
    plan_turned t s a.node ys same w.result a.plan.now c.if-not-fits.plan _ w.ensures.walked.0
    (omega (arith, w.auto.plan)) there (ap (λ (xs : List ℕ). xs ++ drop w.result c.if-not-fits.plan) c.reverse.ensures.after)
