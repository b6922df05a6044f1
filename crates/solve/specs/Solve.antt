-- What a search answers, and what the lent plan buffer and the lent table hold afterwards. Follows "The exploration" and "Refused because of the
-- state": after a search "22 or 23 as met, then 24"; what is refused before one is the planner's.
pub mod Stops
pub mod Answers
use Rattle.std.specs.Prelude.{true, false, List, ◌++◌, ℕ, zero, suc, ◌+◌, ◌*◌, leb, length, drop, replicate}
use Rattle.task.specs.declared.Task.{Task}
use Rattle.task.specs.Factors.{all_states}
use Rattle.search.specs.Node.{goal_cost}
use Rattle.search.specs.Explore.{Search, Reason, finished, tableFull, budgetSpent, node_at, explored}
use Rattle.search.specs.Plan.{plan_of}
use Rattle.answers.specs.declared.Counts.{Counts}
use Rattle.answers.specs.declared.PlanRefusal.TheVariants.{TableFull, BudgetSpent, PlanLong}
use Rattle.answers.specs.declared.PlanAnswer.{PlanAnswer}
use Rattle.answers.specs.declared.PlanAnswer.TheVariants.{Solved, Unsolvable, Refused}

-- the answer, and the plan buffer's bytes and the table's words afterwards
pub record Outcome : Type 0 where
  pub answer : PlanAnswer
  pub plan : List ℕ
  pub words : List ℕ

-- "22 to 24 give expansions and nodes so far"
abbrev pub counts_of : Search → Counts
counts_of s = record { expanded = s.begun; kept = length s.kept }

-- an answer that writes no plan
abbrev pub unwritten : PlanAnswer → List ℕ → List ℕ → Outcome
unwritten a plan words = record { answer = a; plan = plan; words = words }

-- ---- after the search

-- a plan p of this cost: "24 plan longer than its buffer"; else the plan at the buffer's front, "bytes behind the plan are untouched"
unfoldable pub with_plan : List ℕ → ℕ → Counts → List ℕ → List ℕ → Outcome
with_plan p cost c plan words =
    elim (leb (length p) (length plan)) [
      | true ↦ record { answer = Solved (record { length = length p; cost = cost }) c; plan = p ++ drop (length p) plan; words = words }
      | false ↦ unwritten (Refused PlanLong c) plan words
    ]

-- the plan of node u
abbrev pub planned : Task → Search → ℕ → List ℕ → List ℕ → Outcome
planned t s u plan words = with_plan (plan_of t s u) (goal_cost t (node_at t s u)) (counts_of s) plan words

-- "stop with the plan or unsolvable"; best is one more than its node, 0 for none
abbrev pub at_best : Task → Search → ℕ → List ℕ → List ℕ → Outcome
at_best t s zero plan words = unwritten (Unsolvable (counts_of s)) plan words
at_best t s (suc u) plan words = planned t s u plan words

abbrev pub at_stop : Task → Reason → Search → List ℕ → List ℕ → Outcome
at_stop t finished s plan words = at_best t s s.best plan words
at_stop t tableFull s plan words = unwritten (Refused TableFull (counts_of s)) plan words
at_stop t budgetSpent s plan words = unwritten (Refused BudgetSpent (counts_of s)) plan words

-- ---- the table

-- "The working table needs (nodes + 1) × (40 + S) words of 64 bits."
unfoldable pub table_words : Task → ℕ → ℕ
table_words t nodes = (nodes + 1) * (40 + all_states t)

-- "After any exploration these are 0; words behind them are untouched."
abbrev pub cleared : ℕ → List ℕ → List ℕ
cleared n words = replicate n 0 ++ drop n words

-- the outcome of a search
unfoldable pub searched : Task → ℕ → ℕ → List ℕ → List ℕ → Outcome
searched t nodes budget plan words =
    let r = explored t nodes budget in
    at_stop t r.reason r.search plan (cleared (table_words t nodes) words)
