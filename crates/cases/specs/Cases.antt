-- The cases that are marked P, computed by the definitions from the records' bytes, and beside them a task with two leaves: one table, one
-- theorem. What is expected is the paper's; of the task with two leaves it is the model's (model/two_leaves.py). Assumes nothing.
use Rattle.std.specs.Prelude.{◌≡◌, refl, Ok, List, [], ◌∷◌, ℕ, replicate, take}
use Rattle.loops.specs.Count.{all, any, sum, list}
use Rattle.loops.specs.Parsed.{turns}
use Rattle.drive.specs.Drive.{drive_time, travel_time, root_from}
use Rattle.task.specs.declared.Task.{Task}
use Rattle.task.specs.Fetch.{fetch}
use Rattle.task.specs.Meaning.{cost}
use Rattle.task.specs.Factors.{touches, within, holds_in, leaf_pairs, star_pairs, number_to, states_to, digit_to, centre_action, leaf_action, number, states, all_states, values_of, meets_in, to}
use Rattle.task.specs.Centre.{centre_of, centre_after, centre_meets}
use Rattle.fields.specs.Fields.{bit_of, field_of, next_field}
use Rattle.parts.specs.Grammar.{head_of, variable_of, pair_of, pairs_from, counted_pairs, effect_pairs, costs_of, action_of, lists_of, task_of}
use Rattle.whole.specs.Verdict.{Accepted}
use Rattle.whole.specs.Whole.{factors_used, states_few, all_star, whole_of}
use Rattle.record.specs.Example.{fetch_record, without_take, empty_goal, wax_record}
use Rattle.record.specs.Record.{TaskRead, filled_of, read_record}
use Rattle.leaf.specs.Price.{mark}
use Rattle.leaf.specs.Settle.{lower, key as priceKey, key_at, key_of, pick, relax, settle, settled}
use Rattle.leaf.specs.Pass.{pass}
use Rattle.layer.specs.Layer.{enabled_to, settle_leaf, start_leaf, pass_leaf, passes, base, leaf_part, joined, first_prices, next_prices, applies_to}
use Rattle.price.specs.Path.{next_layer, walk}
use Rattle.price.specs.Ways.{weave}
use Rattle.pricer.specs.Pricer.{Outcome as Priced, path_fits, task_prices, prices_of}
use Rattle.search.specs.Node.{first_node, next_node, least_of, key, goal_prices, is_goal, goal_cost, dominates}
use Rattle.search.specs.Explore.{below_best, best_with, keep, start, waits, choose, offer, turn, expand, begin, explore, explored}
use Rattle.search.specs.Plan.{lowest, tight, tight_to, depths, source, back, begins, back_in, over, stages, path_to, goal_state, plan_of}
use Rattle.answers.specs.declared.Counts.{Counts}
use Rattle.answers.specs.declared.PlanAnswer.{PlanAnswer}
use Rattle.answers.specs.declared.PlanAnswer.TheVariants.{Solved, Unsolvable, Refused}
use Rattle.answers.specs.declared.PlanRefusal.TheVariants.{TableFull, BudgetSpent, PlanLong}
use Rattle.solve.specs.Solve.{with_plan, table_words, searched}
use Rattle.planner.specs.Planner.{task_plan, record_plan}
use Rattle.cases.specs.Tasks.{fetch_without_take, fetch_empty_goal, waxed}

-- an answer of the planner, and the first seven bytes of its plan buffer, which was filled with 238
pub record Told : Type 0 where
  pub answer : PlanAnswer
  pub front : List ℕ

-- a call with a table of 4,096 words
abbrev pub call : List ℕ → ℕ → ℕ → ℕ → Told
call rec nodes budget room =
    let o = record_plan rec nodes budget (replicate room 238) (replicate 4096 7) in
    record { answer = o.answer; front = take 7 o.plan }

abbrev pub blank : List ℕ
blank = 238 ∷ 238 ∷ 238 ∷ 238 ∷ 238 ∷ 238 ∷ 238 ∷ []

abbrev pub counts : ℕ → ℕ → Counts
counts expanded kept = record { expanded = expanded; kept = kept }

-- the reader accepts the record as this task
abbrev pub accepted : Task → TaskRead
accepted t = record { verdict = Accepted; task = t }

-- all cases: the tasks that the records mean, plans, prices, drive times
pub record Cases : Type 0 where
  pub tasks : List TaskRead
  pub plans : List Told
  pub prices : List Priced
  pub times : List ℕ

pub p_table :
    ◌≡◌ {A = Cases}
    (record {
      tasks = read_record fetch_record ∷ read_record without_take ∷ read_record empty_goal ∷ read_record wax_record ∷ [];
      plans =
          call fetch_record 94 4096 8192 ∷ call without_take 94 4096 8192 ∷ call empty_goal 94 4096 8192 ∷ call fetch_record 94 3 8192 ∷
          call fetch_record 3 4096 8192 ∷ call fetch_record 3 2 8192 ∷ call fetch_record 94 4096 3 ∷
          call wax_record 84 4096 8192 ∷ [];
      prices =
          prices_of fetch_record (0 ∷ 1 ∷ []) (replicate 3 7) ∷ prices_of fetch_record [] (replicate 3 7) ∷
          prices_of wax_record (0 ∷ []) (replicate 9 7) ∷ prices_of wax_record (0 ∷ 1 ∷ 0 ∷ 1 ∷ []) (replicate 9 7) ∷ [];
      times = drive_time 2 ∷ drive_time 400 ∷ drive_time 1023 ∷ [];
    })
    (record {
      tasks = accepted fetch ∷ accepted fetch_without_take ∷ accepted fetch_empty_goal ∷ accepted waxed ∷ [];
      plans =
          record { answer = Solved (record { length = 4; cost = 1650 }) (counts 4 4); front = 0 ∷ 2 ∷ 1 ∷ 3 ∷ 238 ∷ 238 ∷ 238 ∷ [] } ∷
          record { answer = Unsolvable (counts 2 2); front = blank } ∷
          record { answer = Solved (record { length = 0; cost = 0 }) (counts 0 1); front = blank } ∷
          record { answer = Refused BudgetSpent (counts 3 4); front = blank } ∷
          record { answer = Refused TableFull (counts 3 3); front = blank } ∷
          record { answer = Refused BudgetSpent (counts 2 3); front = blank } ∷
          record { answer = Refused PlanLong (counts 4 4); front = 238 ∷ 238 ∷ 238 ∷ [] } ∷
          record { answer = Solved (record { length = 6; cost = 1554 }) (counts 4 4); front = 0 ∷ 5 ∷ 1 ∷ 4 ∷ 3 ∷ 2 ∷ 238 ∷ [] } ∷ [];
      prices =
          record { answer = Ok 3; words = 0 ∷ 500 ∷ 800 ∷ [] } ∷ record { answer = Ok 3; words = 0 ∷ mark ∷ mark ∷ [] } ∷
          record { answer = Ok 8; words = mark ∷ 0 ∷ 500 ∷ mark ∷ mark ∷ mark ∷ 0 ∷ mark ∷ 7 ∷ [] } ∷
          record { answer = Ok 8; words = 800 ∷ mark ∷ 500 ∷ 840 ∷ mark ∷ 540 ∷ 30 ∷ 0 ∷ 7 ∷ [] } ∷ [];
      times = 54 ∷ 425 ∷ 737 ∷ [];
    })
unfolding fetch record_plan task_plan searched with_plan table_words prices_of task_prices path_fits walk next_layer plan_of goal_state path_to stages over back_in begins back source depths tight_to tight lowest weave explored explore expand begin turn offer choose waits start keep best_with below_best dominates goal_cost is_goal goal_prices key least_of next_node first_node first_prices next_prices applies_to joined leaf_part base passes pass_leaf start_leaf settle_leaf enabled_to pass settled settle relax pick key_of key_at priceKey lower read_record filled_of whole_of factors_used states_few all_star task_of lists_of action_of costs_of effect_pairs counted_pairs pairs_from pair_of variable_of head_of next_field field_of bit_of turns centre_meets centre_after centre_of to meets_in values_of all_states states number leaf_action centre_action digit_to states_to number_to star_pairs leaf_pairs holds_in within touches cost drive_time travel_time root_from all any sum list
p_table = refl
