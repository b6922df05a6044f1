-- What a task means: states, actions, sequences, costs. Follows "The task" and the preliminaries of documents 000 and 001.
-- This is the page to read first: the demands are stated in its words alone.
use Rattle.std.specs.Prelude.{◌≡◌, Bool, true, cond, ◌&&◌, ◌||◌, List, [], ◌∷◌, ℕ, ◌+◌, ◌*◌, ◌≤◌, ltb, eqb, get_or}
use Rattle.loops.specs.Count.{all}
use Rattle.drive.specs.Drive.{drive_time}
use Rattle.task.specs.declared.Task.{Task}

-- "A state gives each variable a value." Variables count from 0.
abbrev pub State : Type 0
State = ℕ → ℕ

-- Conditions, effects and goal name some variables and give each a value: a partial assignment.
abbrev pub Partial : Type 0
Partial = ℕ → ℕ

-- Where a partial assignment has this number, it does not name the variable.
abbrev pub free : ℕ
free = 16

-- ---- the parts of a task

-- a variable has as many values as its size: 0, 1, ..
abbrev pub size : Task → ℕ → ℕ
size t v = get_or t.sizes v 0

-- the factor that a variable belongs to: 0 is the centre, 1 to 8 are leaves
abbrev pub factor : Task → ℕ → ℕ
factor t v = get_or t.factors v 0

abbrev pub initial : Task → State
initial t v = get_or t.initial v 0

abbrev pub goal : Task → Partial
goal t v = get_or t.goal v 0

abbrev pub condition : Task → ℕ → Partial
condition t a v = get_or t.conditions (a * 32 + v) 0

abbrev pub effect : Task → ℕ → Partial
effect t a v = get_or t.effects (a * 32 + v) 0

-- "An action's cost is its handling plus the drive time of its distance."
unfoldable pub cost : Task → ℕ → ℕ
cost t a = get_or t.handling a 0 + drive_time (get_or t.distance a 0)

-- ---- states and actions

-- the pair, if there is one, holds of the value
abbrev pub met : ℕ → ℕ → Bool
met x value = eqb x free || eqb x value

-- all pairs on the n variables hold in the state
unfoldable pub holds : ℕ → Partial → State → Bool
holds n p s = all n (λ v. met (p v) (s v))

-- the state, changed where the partial assignment names a variable
abbrev pub put : Partial → State → State
put p s v = cond (eqb (p v) free) (s v) (p v)

-- "It applies where all its conditions hold" (and is an action of the task)
unfoldable pub applies : Task → ℕ → State → Bool
applies t a s = ltb a t.actions && holds t.variables (condition t a) s

-- ".. and changes only what its effects name." Document 000 writes s[a] for this state.
abbrev pub outcome : Task → ℕ → State → State
outcome t a s = put (effect t a) s

-- ---- sequences

-- the actions of the sequence apply in turn from the state
unfoldable pub runs : Task → State → List ℕ → Bool
runs t s [] = true
runs t s (a ∷ acts) = applies t a s && runs t (outcome t a s) acts

-- the state in which the sequence ends
unfoldable pub final : Task → State → List ℕ → State
final t s [] = s
final t s (a ∷ acts) = final t (outcome t a s) acts

-- "A plan is a sequence that applies in turn from the initial state and ends where all goal pairs hold;
-- just such a sequence reaches the goal."
unfoldable pub reaches : Task → List ℕ → Bool
reaches t acts = runs t (initial t) acts && holds t.variables (goal t) (final t (initial t) acts)

-- "it costs the sum of its actions' costs, the empty one 0"
unfoldable pub cost_of : Task → List ℕ → ℕ
cost_of t [] = 0
cost_of t (a ∷ acts) = cost t a + cost_of t acts

-- no sequence that reaches the goal, of any length and order, costs less than c
unfoldable pub Least : Task → ℕ → Type 0
Least t c = (acts : List ℕ) → reaches t acts ≡ true → c ≤ cost_of t acts
