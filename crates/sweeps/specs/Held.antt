-- What a program holds of the ways of a leaf, in the words of the ways.
use Rattle.std.specs.Prelude.{ℕ, ◌+◌, ◌*◌, get_or}
use Rattle.sweeps.specs.declared.held.LeafWays.{LeafWays}
use Rattle.sweeps.specs.Sweeps.{Ways, Meant, Aims}

-- what an action makes of state x: one more than a state, or 0
abbrev pub move_in : LeafWays → (action x : ℕ) → ℕ
move_in w action x = get_or w.moves.now (action * w.row + (w.at + x)) 0

-- the edges of each state of a leaf of n states can be followed
abbrev pub WaysIn : LeafWays → ℕ → Type 0
WaysIn w n = Ways w.moves.now w.row w.at w.costs.now w.mets.now w.edges.list.now w.edges.ends.now n

-- m actions lead from the states of a leaf where its edges do
abbrev pub MeantIn : LeafWays → ℕ → (m : ℕ) → (ℕ → ℕ) → (ℕ → ℕ → ℕ) → Type 0
MeantIn w n m cost to = Meant w.moves.now w.row w.at w.costs.now w.mets.now w.edges.list.now w.edges.ends.now n m cost to

-- some actions do
abbrev pub AimsIn : LeafWays → ℕ → Type 0
AimsIn w n = Aims w.moves.now w.row w.at w.costs.now w.mets.now w.edges.list.now w.edges.ends.now n
