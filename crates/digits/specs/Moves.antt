-- What an action makes of a leaf state, by the number of variables, their factors and sizes, conditions and effects; and the same of a state with
-- one digit more.
pub mod Laws
use Rattle.std.specs.Prelude.{cond, ℕ, ◌+◌, ◌-◌, ◌*◌, ◌≤◌, ◌<◌, eqb}
use Rattle.task.specs.Meaning.{Partial, free, met, put}
use Rattle.task.specs.Factors.{number_to, states_to, digit_to, holds_in, gate}
use Rattle.task.specs.Valid.{PairIn}

-- 0 where the conditions on leaf l do not hold in its state x, else one more than the next state's number
unfoldable pub to_with : ℕ → (ℕ → ℕ) → (ℕ → ℕ) → Partial → Partial → ℕ → ℕ → ℕ
to_with n fac siz con eff l x =
    gate (holds_in n fac l con (λ v. digit_to fac siz l x v n)) (number_to fac siz l (put eff (λ v. digit_to fac siz l x v n)) n)

-- ---- a digit more

-- the value behind an effect: the effect's, or the one before
abbrev pub value_after : ℕ → ℕ → ℕ
value_after effect value = cond (eqb effect free) value effect

-- what the action makes of a state with a digit more, where it makes k of the state without
unfoldable pub digit_move : ℕ → ℕ → ℕ → ℕ → ℕ → ℕ
digit_move k size condition effect digit =
    cond (eqb k 0) 0 (cond (met condition digit) ((k - 1) * size + value_after effect digit + 1) 0)

-- ---- numbers that fit

-- each effect has a value of its variable, and the leaf has few states
pub record Small (n : ℕ) (fac siz : ℕ → ℕ) (eff : Partial) (l : ℕ) : Type 0 where
  pub sized : (v : ℕ) → v < n → 1 ≤ siz v
  pub inside : (v : ℕ) → v < n → PairIn (siz v) (eff v)
  pub few : states_to fac siz l n ≤ 256
