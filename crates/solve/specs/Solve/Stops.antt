-- A search that has stopped, as the code hands it on: the table's rows and the counts. Assumes nothing.
use Rattle.std.specs.Prelude.{◌≡◌, refl, Option, Some, None, List, [], ◌++◌, ℕ, zero, suc, ◌+◌, ◌*◌, ◌≤◌, ◌<◌, drop, replicate}
use Rattle.std.proofs.Common.{sym, ◌∙◌, arith, drop_at}
use Rattle.std.proofs.Math.Path.{ap}
use Rattle.std.proofs.Math.Bool.{true, false}
use Rattle.std.proofs.Math.Nat.{mul-le-mul_right}
use Rattle.std.proofs.Math.Dec.{leb}
use Rattle.std.proofs.Math.ListN.{length}
use borrow.Author.Tests.{lt-leb, le-leb}
use Rattle.task.specs.declared.Task.{Task}
use Rattle.task.specs.Factors.{all_states}
use Rattle.search.specs.Node.{first_node, is_goal, goal_cost}
use Rattle.search.specs.Explore.{Search, Reason, finished, tableFull, budgetSpent, Stopped, node_at, explored}
use Rattle.search.specs.Explore.Laws.{Base}
use Rattle.search.specs.Explore.Rounds.{explored_base}
use Rattle.search.specs.Plan.{plan_of}
use Rattle.search.specs.Plan.Real.{Real}
use Rattle.search.specs.Plan.Found.{explored_real}
use Rattle.rows.specs.Row.{node_in, nodes_in}
use Rattle.rows.specs.Row.Laws.{nodes_in_length, nodes_in_at}
use Rattle.offers.specs.declared.Run.{Run}
use Rattle.explore.specs.declared.Stop.{Stop}
use Rattle.explore.specs.declared.Why.TheVariants.{Finished, TableFull as FullTable, BudgetSpent as SpentBudget}
use Rattle.explore.specs.Held.{reason_of, stopped_of}
use Rattle.offers.specs.Held.{best_number, search_of}
use Rattle.plans.specs.Walk.{held_in, written}
use Rattle.plans.specs.Goal.{written_fits, written_not}
use Rattle.plans.specs.Kept.{plan_kept, real_kept}
use Rattle.answers.specs.declared.Counts.{Counts}
use Rattle.answers.specs.declared.PlanRefusal.TheVariants.{TableFull, BudgetSpent, PlanLong}
use Rattle.answers.specs.declared.PlanAnswer.TheVariants.{Solved, Unsolvable, Refused}
use Rattle.solve.specs.Solve.{Outcome, counts_of, unwritten, with_plan, planned, at_best, at_stop, table_words, cleared}

-- the search that a table and the counts hold; which nodes are expanded does not matter any more
abbrev pub run_in : ℕ → List ℕ → Run → Search
run_in S T r = record { kept = nodes_in S T r.count; done = []; begun = r.begun; best = best_number r.best }

-- it is real, and its best node is a goal node of best's cost
pub record Sound (t : Task) (T : List ℕ) (r : Run) : Type 0 where
  pub few : r.count ≤ 4096
  pub fits : r.count * (40 + all_states t) ≤ length T
  pub real : Real t (run_in (all_states t) T r)
  pub best_in : (u : ℕ) → r.best ≡ Some u → (u < r.count) × (is_goal t (node_at t (run_in (all_states t) T r) u) ≡ true)
  pub best_cost : (u : ℕ) → r.best ≡ Some u → r.best_cost ≡ goal_cost t (node_at t (run_in (all_states t) T r) u)

-- searches with the same nodes, counts and best have the same outcome
same_planned : (t : Task) (s r : Search) (u : ℕ) (plan words : List ℕ) → s.kept ≡ r.kept → s.begun ≡ r.begun
    → planned t s u plan words ≡ planned t r u plan words
same_planned t s r u plan words k b = rw (plan_kept t s r u k, k, b)

same_best : (t : Task) (s r : Search) (best : ℕ) (plan words : List ℕ) → s.kept ≡ r.kept → s.begun ≡ r.begun
    → at_best t s best plan words ≡ at_best t r best plan words
same_best t s r zero plan words k b = rw (k, b)
same_best t s r (suc u) plan words k b = same_planned t s r u plan words k b

pub same_stop : (t : Task) (why : Reason) (s r : Search) (plan words : List ℕ) → s.kept ≡ r.kept → s.begun ≡ r.begun → s.best ≡ r.best
    → at_stop t why s plan words ≡ at_stop t why r plan words
same_stop t finished s r plan words k b e = ap (λ best. at_best t s best plan words) e ∙ same_best t s r r.best plan words k b
same_stop t tableFull s r plan words k b e = rw (k, b)
same_stop t budgetSpent s r plan words k b e = rw (k, b)

module _ (t : Task) (nodes budget : ℕ) (T O : List ℕ) (r : Stop) (e : stopped_of (all_states t) T O r ≡ explored t nodes budget) where
  abbrev s : Search
  s = (explored t nodes budget).search

  -- what the code holds of the search
  kept_is : nodes_in (all_states t) T r.run.count ≡ s.kept
  unfolding search_of
  kept_is = ap (λ (x : Stopped). x.search.kept) e

  begun_is : r.run.begun ≡ s.begun
  unfolding search_of
  begun_is = ap (λ (x : Stopped). x.search.begun) e

  best_is : best_number r.run.best ≡ s.best
  unfolding search_of
  best_is = ap (λ (x : Stopped). x.search.best) e

  -- the outcome by the table is the exploration's
  pub stop_is : (plan words : List ℕ)
      → at_stop t (reason_of r.why) (run_in (all_states t) T r.run) plan words ≡ at_stop t (explored t nodes budget).reason s plan words
  stop_is plan words =
      same_stop t (reason_of r.why) (run_in (all_states t) T r.run) s plan words kept_is begun_is best_is
      ∙ ap (λ (x : Stopped). at_stop t x.reason s plan words) e

  -- and it is sound
  pub stop_sound : 1 ≤ nodes → nodes ≤ 4096 → table_words t nodes ≤ length T
      → ((u : ℕ) → r.run.best ≡ Some u → r.run.best_cost ≡ goal_cost t (node_in (all_states t) T u)) → Sound t T r.run
  unfolding table_words
  stop_sound some few long cost =
      record {
        few = omega (arith, room);
        fits = omega (arith, mul-le-mul_right (40 + all_states t) (room'));
        real = real_kept t s (run_in (all_states t) T r.run) (sym kept_is) (explored_real t nodes budget);
        best_in = λ u q. let (l, g) = b.best_in u (sym best_is ∙ ap best_number q) in (omega (arith, count_is), rw (← kept_is) at g);
        best_cost = λ u q. cost u q ∙ ap (goal_cost t) (sym (nodes_in_at (all_states t) T r.run.count u (first_node t) (omega (arith, (b.best_in u (sym best_is ∙ ap best_number q)).0, count_is))));
      }
    where
      b : Base t nodes s
      b = explored_base t nodes budget some

      count_is : r.run.count ≡ length s.kept
      count_is = sym (nodes_in_length (all_states t) T r.run.count) ∙ ap length kept_is

      room : r.run.count ≤ nodes
      room = omega (arith, count_is, b.room)

      room' : r.run.count ≤ nodes + 1
      room' = omega (arith, room)

-- ---- the answers of a search that has finished

-- what is not some number is none
pub none_is : (o : Option ℕ) → ((u : ℕ) → o ≡ Some u → ⊥) → o ≡ None
none_is None h = refl
none_is (Some u) h = absurd (h u refl)

module _ (t : Task) (T : List ℕ) (r : Run) (plan : List ℕ) where
  abbrev held : Search
  held = run_in (all_states t) T r

  -- the counts that the code hands on
  abbrev counted : Counts
  counted = record { expanded = r.begun; kept = r.count }

  pub counted_is : counted ≡ counts_of held
  counted_is = ap {B = Counts} (λ k. record { expanded = r.begun; kept = k }) (sym (nodes_in_length (all_states t) T r.count))

  -- the table's plans are the search's
  plan_is : (u : ℕ) → plan_of t (held_in (all_states t) T r.count) u ≡ plan_of t held u
  plan_is u = plan_kept t (held_in (all_states t) T r.count) held u refl

  -- with no best
  pub finish_none : r.best ≡ None → unwritten (Unsolvable counted) plan [] ≡ at_best t held (best_number r.best) plan []
  finish_none e = rw (counted_is, e)

  module _ (u n : ℕ) (plan' : List ℕ) (some : r.best ≡ Some u)
      (isLength : n ≡ length (plan_of t (held_in (all_states t) T r.count) u))
      (isPlan : plan' ≡ written (plan_of t (held_in (all_states t) T r.count) u) plan) where
    -- what stands in the buffer
    front : plan' ≡ written (plan_of t held u) plan
    front = isPlan ∙ ap (λ p. written p plan) (plan_is u)

    -- a plan that is too long
    pub finish_long : length plan < n → unwritten (Refused PlanLong counted) plan' [] ≡ at_best t held (best_number r.best) plan []
    unfolding with_plan
    finish_long l =
        let h : length plan < length (plan_of t held u) = rw (isLength, plan_is u) at l in
        let e : leb (length (plan_of t held u)) (length plan) ≡ false = lt-leb _ _ h in
        rw (counted_is, front ∙ written_not _ plan h) (sym (ap (λ b. at_best t held (best_number b) plan []) some ∙ rw (e, with_plan)))

    -- a plan that has space
    pub finish_solved : n ≤ length plan → (c : ℕ) → c ≡ goal_cost t (node_at t held u)
        → ◌≡◌ {A = Outcome} (record { answer = Solved (record { length = n; cost = c }) counted; plan = plan'; words = [] }) (at_best t held (best_number r.best) plan [])
    unfolding with_plan
    finish_solved l c q =
        let k : n ≡ length (plan_of t held u) = isLength ∙ rw (plan_is u) in
        let h : length (plan_of t held u) ≤ length plan = rw k at l in
        let e : leb (length (plan_of t held u)) (length plan) ≡ true = le-leb _ _ h in
        rw (counted_is, front ∙ written_fits _ plan h, q, k) (sym (ap (λ b. at_best t held (best_number b) plan []) some ∙ rw (e, with_plan)))

-- ---- the answers of a search that has stopped

module _ (t : Task) (T : List ℕ) (x : Stop) (plan : List ℕ) where
  abbrev stopped : Search
  stopped = run_in (all_states t) T x.run

  pub stop_full : x.why ≡ FullTable
      → unwritten (Refused TableFull (record { expanded = x.run.begun; kept = x.run.count })) plan [] ≡ at_stop t (reason_of x.why) stopped plan []
  stop_full e = rw (counted_is t T x.run plan, e)

  pub stop_spent : x.why ≡ SpentBudget
      → unwritten (Refused BudgetSpent (record { expanded = x.run.begun; kept = x.run.count })) plan [] ≡ at_stop t (reason_of x.why) stopped plan []
  stop_spent e = rw (counted_is t T x.run plan, e)

  pub stop_finished : x.why ≡ Finished → at_best t stopped (best_number x.run.best) plan [] ≡ at_stop t (reason_of x.why) stopped plan []
  stop_finished e = rw e

-- ---- the words

-- words that were cleared behind a search over their front
pub cleared_is : (n : ℕ) (words front : List ℕ) → length front ≡ n → cleared n (front ++ drop n words) ≡ cleared n words
cleared_is n words front e = ap (λ xs. replicate n 0 ++ xs) (drop_at front (drop n words) n e)
