-- The words that a table needs, and a search's outcome over the front of a longer table. Assumes nothing.
use Rattle.std.specs.Prelude.{◌≡◌, refl, Bool, true, false, List, [], ◌++◌, ℕ, zero, suc, ◌+◌, ◌*◌, ◌≤◌, leb, length, get_or, drop}
use Rattle.std.proofs.Common.{ap, ◌∙◌, mul-le-mul, arith}
use Rattle.task.specs.declared.Task.{Task}
use Rattle.task.specs.Factors.{all_states}
use Rattle.task.specs.Valid.{Valid}
use Rattle.tables.specs.Tables.{Bases}
use Rattle.tables.specs.Fit.{row_of}
use Rattle.search.specs.Node.{goal_cost}
use Rattle.search.specs.Explore.{Search, Reason, finished, tableFull, budgetSpent, node_at, explored}
use Rattle.search.specs.Plan.{plan_of}
use Rattle.answers.specs.declared.Counts.{Counts}
use Rattle.answers.specs.declared.PlanAnswer.{PlanAnswer}
use Rattle.solve.specs.Solve.{Outcome, counts_of, with_plan, at_best, at_stop, table_words, cleared, searched}
use Rattle.solve.specs.Solve.Stops.{cleared_is}

-- ---- words

-- the words of a table, by S of the tables
pub words_is : (t : Task) (bases : List ℕ) → Bases t bases → (n : ℕ) → (n + 1) * (40 + get_or bases t.leaves 0) ≡ table_words t n
unfolding table_words
words_is t bases b n = rw (row_of t bases b)

-- they are few
pub words_few : (t : Task) → Valid t → (n : ℕ) → n ≤ 4096 → table_words t n ≤ 4359208
unfolding table_words
words_few t ok n h = let a : n + 1 ≤ 4097 = omega arith in let b : 40 + all_states t ≤ 1064 = omega (arith, ok.whole.few_all_states) in mul-le-mul a b

-- an outcome with these words
abbrev with : Outcome → List ℕ → Outcome
with o words = record { answer = o.answer; plan = o.plan; words = words }

-- the answer and the plan do not look at the words
plan_words : (p : List ℕ) (cost : ℕ) (c : Counts) (plan v w : List ℕ) → with (with_plan p cost c plan v) w ≡ with_plan p cost c plan w
unfolding with_plan
plan_words p cost c plan v w = go (leb (length p) (length plan)) refl
  where
    go : (b : Bool) → leb (length p) (length plan) ≡ b → with (with_plan p cost c plan v) w ≡ with_plan p cost c plan w
    go true e = rw (e, with_plan)
    go false e = rw (e, with_plan)

best_words : (t : Task) (s : Search) (b : ℕ) (plan v w : List ℕ) → with (at_best t s b plan v) w ≡ at_best t s b plan w
best_words t s zero plan v w = refl
best_words t s (suc u) plan v w = plan_words (plan_of t s u) (goal_cost t (node_at t s u)) (counts_of s) plan v w

stop_words : (t : Task) (why : Reason) (s : Search) (plan v w : List ℕ) → with (at_stop t why s plan v) w ≡ at_stop t why s plan w
stop_words t finished s plan v w = best_words t s s.best plan v w
stop_words t tableFull s plan v w = refl
stop_words t budgetSpent s plan v w = refl

-- the outcome of a search over the front of the words, which are cleared behind it
pub search_is : (t : Task) (nodes budget : ℕ) (plan words : List ℕ) (a : PlanAnswer) (plan' front : List ℕ) (n : ℕ) → n ≡ table_words t nodes → length front ≡ n
    → ◌≡◌ {A = Outcome} (record { answer = a; plan = plan'; words = [] }) (at_stop t (explored t nodes budget).reason (explored t nodes budget).search plan [])
    → (words' : List ℕ) → words' ≡ cleared n (front ++ drop n words)
    → ◌≡◌ {A = Outcome} (record { answer = a; plan = plan'; words = words' }) (searched t nodes budget plan words)
unfolding searched
search_is t nodes budget plan words a plan' front n e l h words' q =
    ap (λ o. with o words') h
    ∙ stop_words t (explored t nodes budget).reason (explored t nodes budget).search plan [] words'
    ∙ ap (at_stop t (explored t nodes budget).reason (explored t nodes budget).search plan) (q ∙ cleared_is n words front l ∙ ap (λ k. cleared k words) e)
