-- What the planner answers, and what the lent plan buffer and the lent table hold afterwards. Follows "The exploration" and "Refused because of the
-- state": "The planner's order: 1 to 11, 20, 21, then 22 or 23 as met, then 24." The outcome itself, and that of a search, are the crate solve's.
pub mod Demands
pub mod Room
pub mod Answers
use Rattle.std.specs.Prelude.{true, false, ◌&&◌, List, ℕ, ◌+◌, ◌-◌, ◌/◌, min, leb, length}
use Rattle.task.specs.declared.Task.{Task}
use Rattle.task.specs.Factors.{all_states}
use Rattle.whole.specs.Verdict.{Verdict, Accepted, Refused as NotAccepted}
use Rattle.record.specs.Record.{verdict_number, read_record}
use Rattle.answers.specs.declared.Counts.{Counts}
use Rattle.answers.specs.declared.PlanRefusal.TheVariants.{InRecord, NodesWrong, TableShort}
use Rattle.answers.specs.declared.PlanAnswer.TheVariants.{Refused}
use Rattle.answers.specs.Told.{plan_told}
use Rattle.solve.specs.Solve.{Outcome, unwritten, table_words, searched}
use Rattle.planner.specs.Planner.Demands.{Call, Given}

-- "22 to 24 give expansions and nodes so far; elsewhere all counts are 0."
abbrev pub no_counts : Counts
no_counts = record { expanded = 0; kept = 0 }

-- the outcome for a task: 20, 21, then the search
unfoldable pub task_plan : Task → ℕ → ℕ → List ℕ → List ℕ → Outcome
task_plan t nodes budget plan words =
    elim (leb 1 nodes && leb nodes 4096) [
      | true ↦
          elim (leb (table_words t nodes) (length words)) [
            | true ↦ searched t nodes budget plan words
            | false ↦ unwritten (Refused TableShort no_counts) plan words
          ]
      | false ↦ unwritten (Refused NodesWrong no_counts) plan words
    ]

abbrev pub on_verdict : Verdict → Task → ℕ → ℕ → List ℕ → List ℕ → Outcome
on_verdict Accepted t nodes budget plan words = task_plan t nodes budget plan words
on_verdict (NotAccepted why) t nodes budget plan words = unwritten (Refused (InRecord why) no_counts) plan words

-- the outcome for a record
unfoldable pub record_plan : List ℕ → ℕ → ℕ → List ℕ → List ℕ → Outcome
record_plan rec nodes budget plan words = on_verdict (read_record rec).verdict (read_record rec).task nodes budget plan words

-- ---- as the demands see it

-- a call on a record
abbrev pub call_on : List ℕ → ℕ → List ℕ → List ℕ → Call
call_on rec nodes plan words =
    let r = read_record rec in
    record { verdict = verdict_number r.verdict; task = r.task; nodes = nodes; need = table_words r.task nodes; plan = plan; words = words }

-- what it gives
abbrev pub given_by : Outcome → Given
given_by o = record { told = plan_told o.answer; plan = o.plan; words = o.words }

-- what the same call gives with another plan buffer
abbrev pub given_with : List ℕ → ℕ → ℕ → List ℕ → List ℕ → Given
given_with rec nodes budget words buffer = given_by (record_plan rec nodes budget buffer words)

-- ---- nodes

-- as many nodes as fit into so many words, 4,096 at most
unfoldable pub fitting_nodes : Task → ℕ → ℕ
fitting_nodes t words = min (words / (40 + all_states t) - 1) 4096

abbrev pub verdict_nodes : Verdict → Task → ℕ → ℕ
verdict_nodes Accepted t words = fitting_nodes t words
verdict_nodes (NotAccepted why) t words = 0

-- the same for a record, 0 where it is refused
unfoldable pub record_nodes : List ℕ → ℕ → ℕ
record_nodes rec words = verdict_nodes (read_record rec).verdict (read_record rec).task words
