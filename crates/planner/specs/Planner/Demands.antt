-- The three demands on a call of the planner, in the words of the published meaning of tasks and in the paper's numbers. What the call would give
-- with another plan buffer comes in as a parameter. Definitions alone: that the planner's outcome meets them stands in Laws.
pub mod Laws
use Rattle.std.specs.Prelude.{◌≡◌, ◌⊎◌, ◌↔◌, true, List, ◌++◌, ℕ, ◌≤◌, ◌<◌, length, take, drop, replicate}
use Rattle.task.specs.declared.Task.{Task}
use Rattle.task.specs.Meaning.{reaches, cost_of, Least}
use Rattle.answers.specs.declared.Told.{Told}

-- ---- a call, and what it gives

-- the reader's number for the record, 0 where it is accepted, and the task that it holds; the nodes stated, and the words that a table for them needs;
-- the plan buffer and the table as they are lent
pub record Call : Type 0 where
  pub verdict : ℕ
  pub task : Task
  pub nodes : ℕ
  pub need : ℕ
  pub plan : List ℕ
  pub words : List ℕ

-- the answer in numbers: 0 for a plan, 255 for "unsolvable", else the refusal's; plan buffer and table afterwards
pub record Given : Type 0 where
  pub told : Told
  pub plan : List ℕ
  pub words : List ℕ

-- "20 nodes 0 or above 4,096."
abbrev pub NodesOutside : ℕ → Type 0
NodesOutside nodes = (nodes ≡ 0) ⊎ (4096 < nodes)

-- "A task is accepted if its record meets none of the record's refusals. A planner call on it is accepted if it meets none of those tested before the
-- search either, here 20 and 21."
pub record Accepted (c : Call) : Type 0 where
  pub read : c.verdict ≡ 0
  pub some_nodes : 1 ≤ c.nodes
  pub few_nodes : c.nodes ≤ 4096
  pub long_table : c.need ≤ length c.words

-- the answers that follow a search: a plan, "unsolvable", 22, 23 or 24
abbrev pub Searched : ℕ → Type 0
Searched n = (n ≡ 0) ⊎ ((n ≡ 255) ⊎ ((n ≡ 22) ⊎ ((n ≡ 23) ⊎ (n ≡ 24))))

-- ---- demand 1: "Every byte string, node number, budget and lent buffer gets an answer: a plan, prices, "unsolvable", or one numbered refusal. 22 (table
-- full) and 23 (budget spent) exactly when the written exploration needs one node or one expansion more than was lent. A refusal or "unsolvable" leaves
-- the plan buffer untouched; the working table is untouched before a search and zero after one." The middle sentence is said by the equation with the
-- written exploration alone.

-- a refusal or "unsolvable" leaves the plan buffer untouched, and a plan the bytes behind it
pub record Untouched (before after : List ℕ) (a : Told) : Type 0 where
  pub behind : a.number ≡ 0 → (a.length ≤ length after) × (drop a.length after ≡ drop a.length before)
  pub whole : (a.number ≡ 0 → ⊥) → after ≡ before

-- the working table is untouched before a search and zero after one: the words that the nodes need
pub record Zeroed (need : ℕ) (before after : List ℕ) (a : Told) : Type 0 where
  pub early : (Searched a.number → ⊥) → after ≡ before
  pub late : Searched a.number → after ≡ replicate need 0 ++ drop need before

-- ---- demand 2: "A plan carries out, action by action, from the initial state to the goal, at the cost reported. A centre path is refused 13 only where no
-- action sequence has just those centre actions in that order. A choice of one leaf state per leaf is priced exactly when such a sequence ends there, and
-- the prices add up to the least leaf cost of doing so." Its first sentence; the others are crate price's (`Demand.antt`).

pub record CarriesOut (t : Task) (bytes : List ℕ) (a : Told) : Type 0 where
  pub written : a.number ≡ 0 → a.length ≤ length bytes
  pub to_goal : a.number ≡ 0 → reaches t (take a.length bytes) ≡ true
  pub at_cost : a.number ≡ 0 → cost_of t (take a.length bytes) ≡ a.cost

-- ---- demand 3: "No action sequence that reaches the goal costs less than the cost reported. A call that is answered neither 22 nor 23 is answered
-- "unsolvable" exactly when no sequence reaches the goal, else with a plan, or 24 where that plan is longer than its buffer."

abbrev pub LeastCost : Task → Told → Type 0
LeastCost t a = a.number ≡ 0 → Least t a.cost

-- some sequence reaches the goal
abbrev pub Reachable : Task → Type 0
Reachable t = (acts : List ℕ) × (reaches t acts ≡ true)

-- the call gave this plan
pub record Gave (p : List ℕ) (g : Given) : Type 0 where
  pub number : g.told.number ≡ 0
  pub actions : g.told.length ≡ length p
  pub bytes : take (length p) g.plan ≡ p

-- the plan of least cost that the same call gives with every buffer that is long enough: it is longer than this one
pub record ThatPlan (t : Task) (again : List ℕ → Given) (room : ℕ) : Type 0 where
  pub plan : List ℕ
  pub to_goal : reaches t plan ≡ true
  pub least : Least t (cost_of t plan)
  pub longer : room < length plan
  pub given : (buffer : List ℕ) → length plan ≤ length buffer → Gave plan (again buffer)

-- each number exactly where its reason holds and none before it does; `again` is what the call gives with another plan buffer
pub record Decided (c : Call) (again : List ℕ → Given) (a : Told) : Type 0 where
  -- 1 to 11 are the reader's
  pub in_record : (n : ℕ) → 1 ≤ n → n ≤ 11 → (a.number ≡ n) ↔ (c.verdict ≡ n)
  pub nodes_wrong : (a.number ≡ 20) ↔ ((c.verdict ≡ 0) × NodesOutside c.nodes)
  pub table_short : (a.number ≡ 21) ↔ ((c.verdict ≡ 0) × ((1 ≤ c.nodes) × ((c.nodes ≤ 4096) × (length c.words < c.need))))
  -- an accepted call is answered by its search, and no other call is
  pub searched : Searched a.number ↔ Accepted c
  -- "22 to 24 give expansions and nodes so far; elsewhere all counts are 0."
  pub no_counts : (Searched a.number → ⊥) → (a.expanded ≡ 0) × (a.kept ≡ 0)
  -- what the search found
  pub plan : a.number ≡ 0 → Reachable c.task × (a.length ≤ length c.plan)
  pub unsolvable : a.number ≡ 255 → Reachable c.task → ⊥
  pub plan_long : a.number ≡ 24 → ThatPlan c.task again (length c.plan)

-- ---- all of them

pub record Meets (c : Call) (again : List ℕ → Given) (g : Given) : Type 0 where
  pub carries_out : CarriesOut c.task g.plan g.told
  pub least_cost : LeastCost c.task g.told
  pub decided : Decided c again g.told
  pub untouched : Untouched c.plan g.plan g.told
  pub zeroed : Zeroed c.need c.words g.words g.told
