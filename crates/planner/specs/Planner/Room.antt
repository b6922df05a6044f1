-- 24 is answered only where the plan buffer is shorter than any plan of so many nodes may be. Assumes nothing.
use Rattle.std.specs.Prelude.{◌≡◌, Bool, ◌&&◌, List, ℕ, zero, suc, ◌+◌, ◌*◌, ◌≤◌, ◌<◌, length}
use Rattle.std.proofs.Math.Path.{refl}
use Rattle.std.proofs.Math.Bool.{true, false}
use Rattle.std.proofs.Common.{le_trans, arith, leb-true, leb-false}
use Rattle.std.proofs.Math.Dec.{leb}
use Rattle.fields.specs.Answers.Laws.{record_number}
use Rattle.loops.specs.Count.Laws.{and_out}
use Rattle.task.specs.declared.Task.{Task}
use Rattle.task.specs.Factors.{all_states}
use Rattle.task.specs.Valid.{Valid}
use Rattle.whole.specs.Verdict.{Verdict, Accepted, Refused as NotAccepted}
use Rattle.record.specs.Record.{read_record}
use Rattle.record.specs.Record.Laws.{accepted_valid}
use Rattle.search.specs.Explore.{Search, Reason, finished, tableFull, budgetSpent, explored}
use Rattle.search.specs.Plan.{plan_of}
use Rattle.search.specs.Plan.Short.{best_short}
use Rattle.answers.specs.declared.PlanAnswer.{PlanAnswer}
use Rattle.answers.specs.Told.{plan_told}
use Rattle.solve.specs.Solve.{counts_of, with_plan, at_best, at_stop, table_words, cleared, searched}
use Rattle.planner.specs.Planner.{task_plan, on_verdict, record_plan}

-- the answer is 24 only where the buffer has fewer than n bytes
abbrev Fits : ℕ → List ℕ → PlanAnswer → Type 0
Fits n plan a = (plan_told a).number ≡ 24 → length plan < n

-- a plan of at most n actions
with_fits : (p : List ℕ) (cost n : ℕ) (s : Search) (plan ws : List ℕ) → length p ≤ n → Fits n plan (with_plan p cost (counts_of s) plan ws).answer
unfolding with_plan
with_fits p cost n s plan ws h = go (leb (length p) (length plan)) refl
  where
    go : (b : Bool) → leb (length p) (length plan) ≡ b → Fits n plan (with_plan p cost (counts_of s) plan ws).answer
    go true e = rw (e, with_plan) (λ x. absurd (omega arith))
    go false e = let l : length plan < length p = leb-false (length p) (length plan) e in rw (e, with_plan) (λ x. le_trans l h)

module _ (t : Task) (ok : Valid t) (nodes budget : ℕ) (plan words : List ℕ) where
  -- the outcome of a search
  searched_fits : 1 ≤ nodes → Fits (nodes * (all_states t + 1)) plan (searched t nodes budget plan words).answer
  unfolding searched
  searched_fits some = go (explored t nodes budget).reason
    where
      s : Search
      s = (explored t nodes budget).search

      ws : List ℕ
      ws = cleared (table_words t nodes) words

      best : (b : ℕ) → s.best ≡ b → Fits (nodes * (all_states t + 1)) plan (at_best t s b plan ws).answer
      best zero e = λ x. absurd (omega arith)
      best (suc u) e = with_fits (plan_of t s u) _ (nodes * (all_states t + 1)) s plan ws (best_short t nodes ok some budget u e)

      go : (r : Reason) → Fits (nodes * (all_states t + 1)) plan (at_stop t r s plan ws).answer
      go finished = best s.best refl
      go tableFull = λ x. absurd (omega arith)
      go budgetSpent = λ x. absurd (omega arith)

  -- the outcome for a task
  task_fits : Fits (nodes * (all_states t + 1)) plan (task_plan t nodes budget plan words).answer
  unfolding task_plan
  task_fits = go (leb 1 nodes && leb nodes 4096) refl (leb (table_words t nodes) (length words)) refl
    where
      go : (a : Bool) → (leb 1 nodes && leb nodes 4096) ≡ a → (b : Bool) → leb (table_words t nodes) (length words) ≡ b
          → Fits (nodes * (all_states t + 1)) plan (task_plan t nodes budget plan words).answer
      go true e true f = rw (e, f, task_plan) (searched_fits (leb-true _ _ (and_out (leb 1 nodes) (leb nodes 4096) e).0))
      go true e false f = rw (e, f, task_plan) (λ x. absurd (omega arith))
      go false e b f = rw (e, task_plan) (λ x. absurd (omega arith))

-- the outcome for a record
pub record_fits : (rec : List ℕ) (nodes budget : ℕ) (plan words : List ℕ) → (plan_told (record_plan rec nodes budget plan words).answer).number ≡ 24
    → length plan < nodes * (all_states (read_record rec).task + 1)
unfolding record_plan
record_fits rec nodes budget plan words = go (read_record rec).verdict refl
  where
    go : (v : Verdict) → (read_record rec).verdict ≡ v
        → Fits (nodes * (all_states (read_record rec).task + 1)) plan (on_verdict v (read_record rec).task nodes budget plan words).answer
    go Accepted e = task_fits (read_record rec).task (accepted_valid rec e) nodes budget plan words
    go (NotAccepted why) e = λ x. absurd (omega (arith, (record_number why).1))
