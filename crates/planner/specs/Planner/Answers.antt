-- The planner's answers case by case, as its code finds them, and what each says of sequences. Assumes nothing.
use Rattle.std.specs.Prelude.{◌≡◌, ◌&&◌, Ok, List, ℕ, ◌+◌, ◌-◌, ◌/◌, ◌≤◌, ◌<◌, length}
use Rattle.std.proofs.Common.{◌∙◌, arith}
use Rattle.std.proofs.Math.Bool.{true, false}
use Rattle.std.proofs.Math.Dec.{leb}
use borrow.Author.Tests.{lt-leb, le-leb}
use Rattle.loops.specs.Count.Laws.{and_in}
use Rattle.task.specs.declared.Task.{Task}
use Rattle.task.specs.Factors.{all_states}
use Rattle.fields.specs.declared.Refusal.{Refusal}
use Rattle.whole.specs.Verdict.{Refused as NotAccepted}
use Rattle.record.specs.Record.{read_told, read_record}
use Rattle.answers.specs.declared.PlanRefusal.TheVariants.{InRecord, NodesWrong, TableShort}
use Rattle.answers.specs.declared.PlanAnswer.{PlanAnswer}
use Rattle.answers.specs.declared.PlanAnswer.TheVariants.{Refused}
use Rattle.solve.specs.Solve.{Outcome, unwritten, table_words, searched}
use Rattle.answers.specs.Told.{plan_told}
use Rattle.planner.specs.Planner.{no_counts, task_plan, record_plan, call_on, given_with, fitting_nodes, record_nodes}
use Rattle.planner.specs.Planner.Demands.{CarriesOut, LeastCost, Decided, Untouched, Zeroed, Meets}
use Rattle.planner.specs.Planner.Demands.Laws.{record_meets}

-- ---- a task

module _ (t : Task) (nodes budget : ℕ) (plan words : List ℕ) where
  -- 20
  pub task_none : nodes ≡ 0 → unwritten (Refused NodesWrong no_counts) plan words ≡ task_plan t nodes budget plan words
  unfolding task_plan
  task_none e = let f : leb 1 nodes ≡ false = lt-leb 1 nodes (omega arith) in rw (f, task_plan)

  pub task_many : 4096 < nodes → unwritten (Refused NodesWrong no_counts) plan words ≡ task_plan t nodes budget plan words
  unfolding task_plan
  task_many h =
      let f : leb 1 nodes ≡ true = le-leb 1 nodes (omega arith) in
      let g : leb nodes 4096 ≡ false = lt-leb nodes 4096 h in
      rw (f, g, task_plan)

  module _ (some : 1 ≤ nodes) (few : nodes ≤ 4096) where
    inside : (leb 1 nodes && leb nodes 4096) ≡ true
    inside = and_in {a = leb 1 nodes} (le-leb 1 nodes some) (le-leb nodes 4096 few)

    -- 21
    pub task_short : length words < table_words t nodes → unwritten (Refused TableShort no_counts) plan words ≡ task_plan t nodes budget plan words
    unfolding task_plan
    task_short h = let g : leb (table_words t nodes) (length words) ≡ false = lt-leb _ _ h in rw (inside, g, task_plan)

    -- the search
    pub task_searched : {o : Outcome} → table_words t nodes ≤ length words → o ≡ searched t nodes budget plan words → o ≡ task_plan t nodes budget plan words
    unfolding task_plan
    task_searched h e = e ∙ (let g : leb (table_words t nodes) (length words) ≡ true = le-leb _ _ h in rw (inside, g, task_plan))

module _ (rec : List ℕ) (nodes budget : ℕ) (plan words : List ℕ) where
  -- 1 to 11
  pub record_refused : {why : Refusal} → (read_record rec).verdict ≡ NotAccepted why → unwritten (Refused (InRecord why) no_counts) plan words ≡ record_plan rec nodes budget plan words
  unfolding record_plan
  record_refused e = rw e

  pub record_accepted : {t : Task} {o : Outcome} → read_told (Ok t) ≡ read_record rec → o ≡ task_plan t nodes budget plan words → o ≡ record_plan rec nodes budget plan words
  unfolding record_plan
  record_accepted e f = f ∙ rw (← e)

  -- what the outcome says of sequences, of the plan buffer and of the table
  pub outcome_says : (a : PlanAnswer) (plan' words' : List ℕ) → ◌≡◌ {A = Outcome} (record { answer = a; plan = plan'; words = words' }) (record_plan rec nodes budget plan words)
      → let t = (read_record rec).task in
      (◌≡◌ {A = Outcome} (record { answer = a; plan = plan'; words = words' }) (record_plan rec nodes budget plan words))
      × (CarriesOut t plan' (plan_told a) × (LeastCost t (plan_told a) × (Decided (call_on rec nodes plan words) (given_with rec nodes budget words) (plan_told a)
      × (Untouched plan plan' (plan_told a) × Zeroed (table_words t nodes) words words' (plan_told a)))))
  outcome_says a plan' words' e =
      let m : Meets (call_on rec nodes plan words) (given_with rec nodes budget words) (record { told = plan_told a; plan = plan'; words = words' }) =
      rw (← e) at (record_meets rec nodes budget plan words) in
      (e, (m.carries_out, (m.least_cost, (m.decided, (m.untouched, m.zeroed)))))

-- ---- nodes

-- no row, as many rows as the most nodes need, and between them
pub nodes_none : (t : Task) (words k : ℕ) → k ≡ words / (40 + all_states t) → k ≡ 0 → 0 ≡ fitting_nodes t words
unfolding fitting_nodes
nodes_none t words k e z = rw (← e) (omega arith)

pub nodes_most : (t : Task) (words k : ℕ) → k ≡ words / (40 + all_states t) → 4097 < k → 4096 ≡ fitting_nodes t words
unfolding fitting_nodes
nodes_most t words k e h = rw (← e) (omega arith)

pub nodes_some : (t : Task) (words k : ℕ) → k ≡ words / (40 + all_states t) → k ≤ 4097 → k - 1 ≡ fitting_nodes t words
unfolding fitting_nodes
nodes_some t words k e h = rw (← e) (omega arith)

module _ (rec : List ℕ) (words : ℕ) where
  pub nodes_refused : {why : Refusal} → (read_record rec).verdict ≡ NotAccepted why → 0 ≡ record_nodes rec words
  unfolding record_nodes
  nodes_refused e = rw e

  pub nodes_accepted : {t : Task} {n : ℕ} → read_told (Ok t) ≡ read_record rec → n ≡ fitting_nodes t words → n ≡ record_nodes rec words
  unfolding record_nodes
  nodes_accepted e f = f ∙ rw (← e)
