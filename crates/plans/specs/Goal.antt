-- The goal states by the table of goal states are the task's, and what the plan's buffer holds in the end. Assumes nothing.
use Rattle.std.specs.Prelude.{◌≡◌, List, ◌++◌, reverse, ℕ, zero, suc, ◌≤◌, ◌<◌, length, get_or, take, drop}
use Rattle.std.proofs.Common.{sym, ap₂, ◌∙◌, arith, get_or-take, take_at, drop_at, le-leb}
use Rattle.std.proofs.Math.Path.{ap}
use Rattle.std.proofs.Math.Bool.{not}
use Rattle.std.proofs.Math.Dec.{eqb}
use Rattle.std.proofs.lemmas.List.{length-reverse}
use Rattle.std.proofs.Math.Seq.{get_or-drop}
use Rattle.std.proofs.lemmas.Bool.{lt-leb}
use Rattle.loops.specs.Count.Laws.{list_ext}
use Rattle.task.specs.declared.Task.{Task}
use Rattle.task.specs.Meaning.{goal}
use Rattle.task.specs.Factors.{states, values_of, meets_in}
use Rattle.leaf.specs.Price.{mark}
use Rattle.layer.specs.Layer.{base, leaf_part}
use Rattle.layer.specs.Layer.Front.{cond_not}
use Rattle.layer.specs.Board.{Board}
use Rattle.layer.specs.Board.Laws.{part_on_lem}
use Rattle.tables.specs.Tables.{Goals}
use Rattle.search.specs.Node.{goal_prices}
use Rattle.search.specs.Explore.{Search, node_at}
use Rattle.search.specs.Plan.{goal_state, plan_of}
use Rattle.search.specs.Plan.Backwards.{plan_back, plan_back_ext, plan_back_lem}
use Rattle.search.specs.Plan.Laid.{laid, laid_none, laid_all}
use Rattle.keys.specs.Scan.{part_by, goals_by}
use Rattle.plans.specs.Walk.{node_on, goal_on, written}
use Rattle.plans.specs.Fit.{Grounds, search_on, prices_on_lem, prices_length}

-- ---- goal states

module _ (t : Task) (b : Board) (starts T : List ℕ) (count : ℕ) (g : Grounds t b starts T count) (goals : List ℕ) (is : Goals t goals)
    (u : ℕ) (h : u < count) where
  -- the prices of the leaf's goal states
  goals_on : (i : ℕ) → i < t.leaves
      → goals_by (part_by b.bases i goals) (part_by b.bases i (node_on b T u).prices) ≡ goal_prices t i (node_at t (search_on b T count) u)
  unfolding goals_by goal_prices leaf_part
  goals_on i m =
      rw (prices_length t b starts T count g i m u h, prices_on_lem t b starts T count g i m u h, part_on_lem t b g.fits i goals m)
      (list_ext (states t (suc i)) _ _ (λ x l. rw (entry x l) (cond_not (meets_in t (suc i) (goal t) (values_of t (suc i) x)) mark _)))
    where
      entry : (x : ℕ) → x < states t (suc i) → eqb (get_or (leaf_part t i goals) x 0) 0 ≡ not (meets_in t (suc i) (goal t) (values_of t (suc i) x))
      entry x l =
          ap (λ (k : ℕ). eqb k 0) (get_or-take (states t (suc i)) (drop (base t i) goals) x 0 l ∙ get_or-drop (base t i) goals x 0) ∙ is.is i x m l

  -- its goal state
  pub goal_on_lem : (i : ℕ) → i < t.leaves → goal_on b.bases goals (node_on b T u).prices i ≡ goal_state t (search_on b T count) i u
  unfolding goal_on goal_state
  goal_on_lem i m = rw (goals_on i m, prices_length t b starts T count g i m u h)

-- ---- the buffer

-- a plan that fits is written, one that does not is not
pub written_fits : (p plan : List ℕ) → length p ≤ length plan → written p plan ≡ p ++ drop (length p) plan
unfolding written
written_fits p plan h = rw (written, le-leb (length p) (length plan) h)

pub written_not : (p plan : List ℕ) → length plan < length p → written p plan ≡ plan
unfolding written
written_not p plan h = rw (written, lt-leb (length p) (length plan) h)

module _ (t : Task) (s : Search) (u : ℕ) (ys : ℕ → ℕ) (same : (i : ℕ) → i < t.leaves → ys i ≡ goal_state t s i u) where
  -- what is walked back from the goal states is the plan, from its end
  walked_plan : reverse (plan_back t s u u ys) ≡ plan_of t s u
  walked_plan = ap reverse (plan_back_ext t s u u ys (λ i. goal_state t s i u) same) ∙ plan_back_lem t s u

  walked_length : length (plan_back t s u u ys) ≡ length (plan_of t s u)
  walked_length = sym (length-reverse (plan_back t s u u ys)) ∙ ap length walked_plan

  -- where it is longer than the buffer, that stays as it was: such a buffer is not written on the first walk
  pub plan_short : (total r : ℕ) (plan plan' : List ℕ) → r ≡ length (plan_back t s u u ys) → plan' ≡ laid total 0 (plan_back t s u u ys) plan
      → (0 < total → r ≤ length plan) → length plan' ≡ length plan → length plan' < r
      → (r ≡ length (plan_of t s u)) × (plan' ≡ written (plan_of t s u) plan)
  plan_short zero r plan plan' e q fits long h =
      let same : plan' ≡ plan = q ∙ laid_none 0 (plan_back t s u u ys) plan in
      (e ∙ walked_length, same ∙ sym (written_not (plan_of t s u) plan (omega (arith, walked_length))))
  plan_short (suc total) r plan plan' e q fits long h = absurd (omega (arith, fits (omega arith)))

  -- laid into a buffer with room for it, it stands there from its end
  pub laid_once : (total r : ℕ) (plan plan' : List ℕ) → r ≡ length (plan_back t s u u ys) → plan' ≡ laid total 0 (plan_back t s u u ys) plan
      → r ≤ total → total ≤ length plan → plan' ≡ plan_back t s u u ys ++ drop (length (plan_back t s u u ys)) plan
  laid_once total r plan plan' e q l h = q ∙ laid_all total (plan_back t s u u ys) plan (omega arith) h

  -- so where its actions were only counted before
  pub laid_twice : (total r : ℕ) (plan plan' plan'' : List ℕ) → total ≡ 0 → r ≡ length (plan_back t s u u ys)
      → plan' ≡ laid total 0 (plan_back t s u u ys) plan → plan'' ≡ laid r 0 (plan_back t s u u ys) plan'
      → r ≤ length plan' → plan'' ≡ plan_back t s u u ys ++ drop (length (plan_back t s u u ys)) plan
  laid_twice total r plan plan' plan'' z e q q' l =
      let xs = plan_back t s u u ys in
      let same : plan' ≡ plan = q ∙ ap (λ (k : ℕ). laid k 0 xs plan) z ∙ laid_none 0 xs plan in
      laid_once r r plan' plan'' e q' (omega arith) l ∙ ap (λ (zs : List ℕ). xs ++ drop (length xs) zs) same

  -- turned round it stands there forwards
  pub plan_turned : (r : ℕ) (plan plan' plan'' : List ℕ) → r ≡ length (plan_back t s u u ys) → r ≤ length plan
      → plan' ≡ plan_back t s u u ys ++ drop (length (plan_back t s u u ys)) plan → plan'' ≡ reverse (take r plan') ++ drop r plan'
      → (r ≡ length (plan_of t s u)) × (plan'' ≡ written (plan_of t s u) plan)
  plan_turned r plan plan' plan'' e l there q =
      let xs = plan_back t s u u ys in
      let front : take r plan' ≡ xs = ap (take r) there ∙ take_at xs (drop (length xs) plan) r (sym e) in
      let rest : drop r plan' ≡ drop (length (plan_of t s u)) plan =
      ap (drop r) there ∙ drop_at xs (drop (length xs) plan) r (sym e) ∙ ap (λ (k : ℕ). drop k plan) walked_length in (
        e ∙ walked_length,
        q ∙ ap₂ (λ (ys zs : List ℕ). ys ++ zs) (ap reverse front ∙ walked_plan) rest ∙ sym (written_fits (plan_of t s u) plan (omega (arith, walked_length))),
      )
