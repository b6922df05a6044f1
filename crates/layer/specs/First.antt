-- A centre condition of each action that is tested first, so that most actions fail at one test. Nobody but the code and its proof looks at these.
use Rattle.std.specs.Prelude.{◌≡◌, ◌⊎◌, false, List, [], ℕ, ◌+◌, ◌*◌, ◌≤◌, ◌<◌, length, get_or, set}
use Rattle.std.proofs.Common.{inl, inr, arith, get_or-set_same, get_or-set_other, eq-eqb, ne_eqb}
use Rattle.loops.specs.Count.Laws.{all_not, below_cases}
use Rattle.task.specs.declared.Centre.{Centre}
use Rattle.task.specs.Meaning.{free}
use Rattle.task.specs.Factors.{holds_in}
use Rattle.task.specs.Centre.{value_in, centre_meets}
use Rattle.layer.specs.Board.{Board, met_on}
use Rattle.layer.specs.Lent.{board_of, tests_of}

-- v is a centre variable that the conditions of action a name, or 32
pub record First (factors conditions : List ℕ) (a v : ℕ) : Type 0 where
  pub inside : v ≤ 32
  pub named : v < 32 → (get_or factors v 0 ≡ 0) × (get_or conditions (a * 32 + v) 0 ≡ free → ⊥)

-- for each action a centre variable that its conditions name, or 32
pub record Firsts (b : Board) (firsts : List ℕ) : Type 0 where
  pub long : length firsts ≡ 256
  pub inside : (a : ℕ) → a < b.actions → get_or firsts a 0 ≤ 32
  pub named : (a : ℕ) → a < b.actions → get_or firsts a 0 < 32
      → (get_or b.factors (get_or firsts a 0) 0 ≡ 0) × (get_or b.conditions (a * 32 + get_or firsts a 0) 0 ≡ free → ⊥)

-- the parts of a Board that say which centre conditions its actions have
abbrev pub asks_of : ℕ → List ℕ → List ℕ → Board
asks_of actions factors conditions = board_of 0 actions [] [] [] [] factors conditions

-- only these parts count
pub firsts_part : (b : Board) (firsts : List ℕ) → Firsts (asks_of b.actions b.factors b.conditions) firsts → Firsts b firsts
firsts_part b firsts f = record { long = f.long; inside = f.inside; named = f.named }

-- a turn of the loop: the entry of one more action is stored
pub first_more : (factors conditions firsts : List ℕ) (n v : ℕ) → n < length firsts
    → ((a : ℕ) → a < n → First factors conditions a (get_or firsts a 0)) → First factors conditions n v
    → (a : ℕ) → a < n + 1 → First factors conditions a (get_or (set firsts n v) a 0)
first_more factors conditions firsts n v h before here a l = go (below_cases (omega arith))
  where
    go : (a < n) ⊎ (a ≡ n) → First factors conditions a (get_or (set firsts n v) a 0)
    go (inl k) = rw (get_or-set_other firsts n a v 0 (omega arith)) (before a k)
    go (inr e) = rw (e, get_or-set_same firsts n v 0 h) here

-- the entries of all actions make the table
pub firsts_all : (b : Board) (firsts : List ℕ) → length firsts ≡ 256 → ((a : ℕ) → a < b.actions → First b.factors b.conditions a (get_or firsts a 0)) → Firsts b firsts
firsts_all b firsts e f = record { long = e; inside = λ a l. (f a l).inside; named = λ a l. (f a l).named }

-- where that one condition fails the action's centre conditions do not hold
pub first_fails : (factors conditions : List ℕ) (c : Centre) (a v : ℕ) → First factors conditions a v → v < 32
    → (get_or conditions (a * 32 + v) 0 ≡ value_in c v → ⊥) → met_on (tests_of [] factors conditions) c a ≡ false
unfolding centre_meets holds_in
first_fails factors conditions c a v f l n =
    all_not 32 _ v l (rw (eq-eqb _ _ (f.named l).0, ne_eqb _ _ (f.named l).1, ne_eqb _ _ n))
