-- What the code is lent: a Board in its parts.
use Rattle.std.specs.Prelude.{◌≡◌, List, [], ◌++◌, ℕ, length, set, take, drop, replicate}
use Rattle.task.specs.declared.Centre.{Centre}
use Rattle.leaf.specs.Price.{mark}
use Rattle.layer.specs.Board.{Board, states_on, settle_on}

-- the Board of these parts
abbrev pub board_of : ℕ → ℕ → List ℕ → List ℕ → List ℕ → List ℕ → List ℕ → List ℕ → Board
board_of leaves actions bases moves costs kinds factors conditions =
    record {
      leaves = leaves;
      actions = actions;
      bases = bases;
      moves = moves;
      costs = costs;
      kinds = kinds;
      factors = factors;
      conditions = conditions;
    }

-- a Board with no leaves: the parts that say which actions are enabled
abbrev pub tests_of : List ℕ → List ℕ → List ℕ → Board
tests_of kinds factors conditions = board_of 0 0 [] [] [] kinds factors conditions

-- the prices of the leaf behind i leaves in the first layer, where it begins in state x
abbrev pub first_leaf_on : Board → ℕ → Centre → ℕ → List ℕ
first_leaf_on b i c x = settle_on b i c (set (replicate (states_on b i) mark) x 0)

-- "Every leaf state starts a layer as unreachable": the first n of the prices that a layer lowers are the mark
abbrev pub Unreached : ℕ → List ℕ → Type 0
Unreached n prices = take n prices ≡ replicate n mark

-- a list is written at the front of another: how many entries, and what stands there afterwards
pub record Front (these before : List ℕ) (n : ℕ) (after : List ℕ) : Type 0 where
  pub many : n ≡ length these
  pub written : after ≡ these ++ drop n before
