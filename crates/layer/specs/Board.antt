-- A task's tables as the code holds them, and the layers by them. A table stands for a definition on the task (see Fits); nobody but the code
-- and its proof looks at them.
pub mod Laws
pub mod Turns
pub mod Begin
use Rattle.std.specs.Prelude.{◌≡◌, Bool, cond, not, ◌&&◌, List, [], ◌∷◌, ◌++◌, ℕ, zero, suc, ◌+◌, ◌-◌, ◌*◌, ◌≤◌, ◌<◌, ltb, eqb, length, get_or, set, take, drop, replicate}
use Rattle.loops.specs.Count.{all, any}
use Rattle.task.specs.declared.Task.{Task}
use Rattle.task.specs.declared.Centre.{Centre}
use Rattle.task.specs.Meaning.{cost}
use Rattle.task.specs.Factors.{centre_action, leaf_action, states, to}
use Rattle.task.specs.Centre.{centre_meets}
use Rattle.leaf.specs.Price.{mark}
use Rattle.leaf.specs.Settle.{settled}
use Rattle.leaf.specs.Pass.{pass}
use Rattle.layer.specs.Layer.{base, joined}

-- the tables: where each leaf's states begin (and S behind the last leaf), what each action makes of each leaf state, costs, the leaf of each
-- leaf action (0 for a centre action), factors, conditions
pub record Board : Type 0 where
  pub leaves : ℕ
  pub actions : ℕ
  pub bases : List ℕ
  pub moves : List ℕ
  pub costs : List ℕ
  pub kinds : List ℕ
  pub factors : List ℕ
  pub conditions : List ℕ

-- ---- by the tables

abbrev pub base_on : Board → ℕ → ℕ
base_on b i = get_or b.bases i 0

-- S
abbrev pub row_on : Board → ℕ
row_on b = get_or b.bases b.leaves 0

-- the states of the leaf behind i leaves
abbrev pub states_on : Board → ℕ → ℕ
states_on b i = base_on b (i + 1) - base_on b i

-- what action a makes of state x of the leaf behind i leaves
abbrev pub to_on : Board → ℕ → ℕ → ℕ → ℕ
to_on b i a x = get_or b.moves (a * row_on b + (base_on b i + x)) 0

-- the centre conditions of action a hold
abbrev pub met_on : Board → Centre → ℕ → Bool
met_on b c a = centre_meets (λ v. get_or b.factors v 0) (λ v. get_or b.conditions (a * 32 + v) 0) c

-- the enabled leaf actions of the leaf behind i leaves, among the actions below n
unfoldable pub enabled_on : Board → ℕ → Centre → ℕ → List ℕ
enabled_on b i c zero = []
enabled_on b i c (suc a) = cond (eqb (get_or b.kinds a 0) (i + 1) && met_on b c a) (enabled_on b i c a ++ (a ∷ [])) (enabled_on b i c a)

-- settling by a list of actions
unfoldable pub settle_by : Board → ℕ → List ℕ → List ℕ → List ℕ
settle_by b i acts P = settled mark (length acts) (λ j. get_or b.costs (get_or acts j 0) 0) (λ j x. to_on b i (get_or acts j 0) x) P

abbrev pub settle_on : Board → ℕ → Centre → List ℕ → List ℕ
settle_on b i c P = settle_by b i (enabled_on b i c b.actions) P

unfoldable pub pass_on : Board → ℕ → ℕ → List ℕ → List ℕ
pass_on b i a P = pass mark (states_on b i) (to_on b i a) P (states_on b i)

unfoldable pub passes_on : Board → ℕ → ℕ → List ℕ → Bool
passes_on b i a P = any (states_on b i) (λ x. ltb (get_or P x mark) mark && not (eqb (to_on b i a x) 0))

-- the prices of the leaf behind i leaves
abbrev pub part_on : Board → ℕ → List ℕ → List ℕ
part_on b i P = take (states_on b i) (drop (base_on b i) P)

-- the first layer, from the initial state of each leaf; the layer behind centre action a
unfoldable pub first_on : Board → List ℕ → Centre → List ℕ
first_on b starts c = joined b.leaves (λ i. settle_on b i c (set (replicate (states_on b i) mark) (get_or starts i 0) 0))

unfoldable pub next_on : Board → Centre → ℕ → List ℕ → List ℕ
next_on b c a P = joined b.leaves (λ i. settle_on b i c (pass_on b i a (part_on b i P)))

-- its begin: what comes through, before it settles; and prices settled leaf by leaf
unfoldable pub begin_on : Board → ℕ → List ℕ → List ℕ
begin_on b a P = joined b.leaves (λ i. pass_on b i a (part_on b i P))

unfoldable pub settled_on : Board → Centre → List ℕ → List ℕ
settled_on b c P = joined b.leaves (λ i. settle_on b i c (part_on b i P))

unfoldable pub applies_on : Board → Centre → List ℕ → ℕ → Bool
applies_on b c P a = met_on b c a && all b.leaves (λ i. passes_on b i a (part_on b i P))

-- ---- tables that can be indexed

pub record Sound (b : Board) : Type 0 where
  pub few_leaves : b.leaves ≤ 8
  pub few_actions : b.actions ≤ 255
  pub bases_long : length b.bases ≡ 9
  pub bases_first : base_on b 0 ≡ 0
  pub bases_rise : (i : ℕ) → i < b.leaves → base_on b i ≤ base_on b (i + 1)
  pub few_states : (i : ℕ) → i < b.leaves → states_on b i ≤ 256
  pub few_all : row_on b ≤ 1024
  pub moves_long : b.actions * row_on b ≤ length b.moves
  pub moves_in : (i a x : ℕ) → i < b.leaves → a < b.actions → x < states_on b i → to_on b i a x ≤ states_on b i
  pub costs_long : length b.costs ≡ 256
  pub kinds_long : length b.kinds ≡ 256
  pub factors_long : length b.factors ≡ 32
  pub conditions_long : length b.conditions ≡ 8192

-- ---- the tables of a task

pub record Fits (t : Task) (b : Board) : Type 0 where
  pub leaves_is : b.leaves ≡ t.leaves
  pub actions_is : b.actions ≡ t.actions
  pub bases_is : (i : ℕ) → i ≤ t.leaves → base_on b i ≡ base t i
  pub moves_is : (i a x : ℕ) → i < t.leaves → a < t.actions → x < states t (suc i) → to_on b i a x ≡ to t (suc i) a x
  pub costs_is : (a : ℕ) → a < t.actions → get_or b.costs a 0 ≡ cost t a
  pub kinds_is : (i a : ℕ) → i < t.leaves → a < t.actions → eqb (get_or b.kinds a 0) (i + 1) ≡ leaf_action t a (suc i)
  pub kinds_centre : (a : ℕ) → a < t.actions → eqb (get_or b.kinds a 0) 0 ≡ centre_action t a
  pub factors_is : b.factors ≡ t.factors
  pub conditions_is : b.conditions ≡ t.conditions
