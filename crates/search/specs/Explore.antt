-- The exploration. Follows "The exploration": one step on a search state, run with fuel.
pub mod Closure
pub mod Laws
pub mod Turns
pub mod Rounds
pub mod Detours
use Rattle.std.specs.Prelude.{Bool, true, false, ◌&&◌, List, [], ◌∷◌, ◌++◌, ℕ, zero, suc, ◌+◌, ltb, eqb, length, get_or, set}
use Rattle.loops.specs.Count.{any}
use Rattle.task.specs.declared.Task.{Task}
use Rattle.task.specs.Factors.{centre_action}
use Rattle.layer.specs.Layer.{applies_to}
use Rattle.search.specs.Node.{Node, first_node, next_node, key, is_goal, goal_cost, dominates}

-- the search so far: the nodes kept (the field says: generated and not pruned), a flag for each that is 1 once its expansion has begun, how many
-- expansions have begun, and best: one more than the number of the first kept node of least goal cost, or 0 where no goal node is kept
pub record Search : Type 0 where
  pub kept : List Node
  pub done : List ℕ
  pub begun : ℕ
  pub best : ℕ

-- why a search stops
pub data Reason : Type 0 where
  finished tableFull budgetSpent : Reason

pub record Stopped : Type 0 where
  pub reason : Reason
  pub search : Search

-- the node of a number
abbrev pub node_at : Task → Search → ℕ → Node
node_at t s u = get_or s.kept u (first_node t)

-- below best: with no best every cost is
unfoldable pub below_best : Task → Search → ℕ → Bool
below_best t s k = elim s.best [ zero ↦ true | suc u ↦ ltb k (goal_cost t (node_at t s u)) ]

-- "Best is the least goal cost kept so far, at its first node."
unfoldable pub best_with : Task → Search → Node → ℕ
best_with t s n = elim (is_goal t n && below_best t s (goal_cost t n)) [ true ↦ suc (length s.kept) | false ↦ s.best ]

-- the search with one node more, under the next number
unfoldable pub keep : Task → Search → Node → Search
keep t s n = record { kept = s.kept ++ (n ∷ []); done = s.done ++ (0 ∷ []); begun = s.begun; best = best_with t s n }

-- "Node 0 is the empty path; it is kept."
unfoldable pub start : Task → Search
start t = keep t (record { kept = []; done = []; begun = 0; best = 0 }) (first_node t)

-- ---- the choice of the next node

-- node u can be expanded: it is not, and its key is below best
unfoldable pub waits : Task → Search → ℕ → Bool
waits t s u = eqb (get_or s.done u 1) 0 && below_best t s (key t (node_at t s u))

-- among the nodes below i, one more than the one with the least key, the lowest number on ties; 0 for none
unfoldable pub choose : Task → Search → ℕ → ℕ
choose t s zero = zero
choose t s (suc i) =
    elim (choose t s i) [
      | zero ↦ elim (waits t s i) [ true ↦ suc i | false ↦ zero ]
      | suc u ↦ elim (waits t s i && ltb (key t (node_at t s i)) (key t (node_at t s u))) [ true ↦ suc i | false ↦ suc u ]
    ]

-- ---- an expansion

-- what a turn gives: the search to go on with, or a full table
pub data Turn : Type 0 where
  on : Search → Turn
  full : Turn

-- "A successor is dropped if its key is not below best; else dropped if a kept node has the same centre, no higher centre cost and no higher price
-- anywhere; else refused 22 if the table has its stated nodes; else kept, under the next number."
unfoldable pub offer : Task → ℕ → Search → Node → Turn
offer t nodes s n =
    elim (below_best t s (key t n)) [
      | false ↦ on s
      | true ↦
          elim (any (length s.kept) (λ u. dominates (node_at t s u) n)) [
            | true ↦ on s
            | false ↦ elim (ltb (length s.kept) nodes) [ true ↦ on (keep t s n) | false ↦ full ]
          ]
    ]

-- action a at node u: a centre action that applies has a successor
unfoldable pub turn : Task → ℕ → ℕ → ℕ → Search → Turn
turn t nodes u a s =
    elim (centre_action t a && applies_to t (node_at t s u).spot (node_at t s u).prices a) [
      | true ↦ offer t nodes s (next_node t u (node_at t s u) a)
      | false ↦ on s
    ]

-- what an expansion gives: it went through all actions, or the table was full at one of them
pub data Expanded : Type 0 where
  through : Search → Expanded
  filled : Search → Expanded

-- "Actions go by rising number": n actions more of node u, the next of them a
unfoldable pub expand : Task → ℕ → ℕ → ℕ → ℕ → Search → Expanded
expand t nodes u zero a s = through s
expand t nodes u (suc n) a s = elim (turn t nodes u a s) [ on s' ↦ expand t nodes u n (a + 1) s' | full ↦ filled s ]

-- node u's expansion begins
unfoldable pub begin : ℕ → Search → Search
begin u s = record { kept = s.kept; done = set s.done u 1; begun = s.begun + 1; best = s.best }

-- ---- the search

-- "Before each expansion: if no unexpanded node has a key below best (with no best, if none is left), stop; else if the budget is used up, refuse
-- 23. Expand the least key, ties to the lowest node."
unfoldable pub explore : Task → ℕ → ℕ → ℕ → Search → Stopped
explore t nodes budget zero s = record { reason = finished; search = s }
explore t nodes budget (suc fuel) s =
    elim (choose t s (length s.kept)) [
      | zero ↦ record { reason = finished; search = s }
      | suc u ↦
          elim (eqb s.begun budget) [
            | true ↦ record { reason = budgetSpent; search = s }
            | false ↦
                elim (expand t nodes u t.actions 0 (begin u s)) [
                  | through s' ↦ explore t nodes budget fuel s'
                  | filled s' ↦ record { reason = tableFull; search = s' }
                ]
          ]
    ]

-- the whole exploration: each expansion takes another kept node, of which there are at most `nodes`
unfoldable pub explored : Task → ℕ → ℕ → Stopped
explored t nodes budget = explore t nodes budget (suc nodes) (start t)
