-- What is tested over the whole of a task. Follows "Refused because of the input": "Then over the whole: 9 centre or a leaf without variables,
-- 10 too many leaf states, 11 an action that is neither centre nor leaf action."
pub mod Laws
pub mod Ext
use Rattle.std.specs.Prelude.{Bool, true, false, ◌&&◌, List, [], ◌∷◌, ℕ, suc, ◌+◌, leb, eqb}
use Rattle.loops.specs.Count.{all, any, sum}
use Rattle.task.specs.declared.Task.{Task}
use Rattle.task.specs.Meaning.{Partial, size, factor, condition, effect}
use Rattle.task.specs.Factors.{states_to, star_pairs}
use Rattle.fields.specs.declared.Refusal.{Refusal}
use Rattle.fields.specs.declared.Refusal.TheVariants.{FactorEmpty, TooManyStates, NotStar}
use Rattle.whole.specs.Verdict.{Verdict, Accepted, Refused}

-- the centre and each leaf have a variable
unfoldable pub factors_used : ℕ → ℕ → (ℕ → ℕ) → Bool
factors_used n leaves fac = all (leaves + 1) (λ g. any n (λ v. eqb (fac v) g))

-- "A leaf has at most 256 states and all leaves together at most 1,024."
unfoldable pub states_few : ℕ → ℕ → (ℕ → ℕ) → (ℕ → ℕ) → Bool
states_few n leaves siz fac =
    all leaves (λ i. leb (states_to fac siz (suc i) n) 256) && leb (sum leaves (λ i. states_to fac siz (suc i) n)) 1024

-- each action is a centre action or a leaf action
unfoldable pub all_star : ℕ → ℕ → ℕ → (ℕ → ℕ) → (ℕ → Partial) → (ℕ → Partial) → Bool
all_star n leaves actions fac con eff = all actions (λ a. star_pairs n fac leaves (con a) (eff a))

-- a test, and the refusal where it fails
pub record Test : Type 0 where
  pub refusal : Refusal
  pub passed : Bool

-- the refusal of the first test that fails
abbrev pub first_fault : List Test → Verdict
first_fault [] = Accepted
first_fault (x ∷ xs) = elim x.passed [ true ↦ first_fault xs | false ↦ Refused x.refusal ]

-- the tests in their written order
abbrev pub tests : ℕ → ℕ → ℕ → (ℕ → ℕ) → (ℕ → ℕ) → (ℕ → Partial) → (ℕ → Partial) → List Test
tests n leaves actions siz fac con eff =
    record { refusal = FactorEmpty; passed = factors_used n leaves fac } ∷
    record { refusal = TooManyStates; passed = states_few n leaves siz fac } ∷
    record { refusal = NotStar; passed = all_star n leaves actions fac con eff } ∷
    []

-- the verdict on n variables, so many leaves and actions, by sizes and factors, conditions and effects
unfoldable pub whole_of : ℕ → ℕ → ℕ → (ℕ → ℕ) → (ℕ → ℕ) → (ℕ → Partial) → (ℕ → Partial) → Verdict
whole_of n leaves actions siz fac con eff = first_fault (tests n leaves actions siz fac con eff)

-- the verdict on a task
abbrev pub whole_task : Task → Verdict
whole_task t = whole_of t.variables t.leaves t.actions (size t) (factor t) (condition t) (effect t)
