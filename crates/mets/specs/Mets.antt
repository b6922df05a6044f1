-- Which actions' centre conditions hold in a centre state, as a table of flags. Nobody but the code and its proof looks at these.
use Rattle.std.specs.Prelude.{◌≡◌, true, false, List, ℕ, ◌<◌, length, get_or}
use Rattle.task.specs.declared.Centre.{Centre}
use Rattle.layer.specs.Board.{Board, met_on}

-- a flag for each action: 0 just where its centre conditions do not hold in centre state c
pub record Mets (b : Board) (c : Centre) (flags : List ℕ) : Type 0 where
  pub long : length flags ≡ 256
  pub unmet : (a : ℕ) → a < b.actions → get_or flags a 0 ≡ 0 → met_on b c a ≡ false
  pub met : (a : ℕ) → a < b.actions → (get_or flags a 0 ≡ 0 → ⊥) → met_on b c a ≡ true
