-- The planner's and the pricer's answers as the numbers and words that a controller takes, and the sizes of what it lends.
pub mod Demands
pub mod Laws
use Rattle.std.specs.Prelude.{true, false, ◌&&◌, List, ◌∷◌, ℕ, ◌+◌, ◌*◌, leb, length, drop}
use Rattle.task.specs.Factors.{all_states}
use Rattle.whole.specs.Verdict.{Verdict, Accepted, Refused as NotAccepted}
use Rattle.record.specs.Record.{read_record}
use Rattle.answers.specs.declared.Told.{Told}

-- length, cost, expansions and nodes at the front of the answer; a slice of less than four words is left as it was
unfoldable pub answered : Told → List ℕ → List ℕ
answered t answer =
    elim (leb 4 (length answer)) [ true ↦ t.length ∷ t.cost ∷ t.expanded ∷ t.kept ∷ drop 4 answer | false ↦ answer ]

-- ---- sizes

-- a size that goes by S, the number of leaf states; 0 where 20 is met
unfoldable pub for_nodes : (ℕ → ℕ) → ℕ → ℕ → ℕ
for_nodes size states nodes = elim (leb 1 nodes && leb nodes 4096) [ true ↦ size states | false ↦ 0 ]

-- 0 where the record is refused
abbrev pub on_verdict : Verdict → ℕ → ℕ
on_verdict Accepted n = n
on_verdict (NotAccepted why) n = 0

unfoldable pub for_record : (ℕ → ℕ) → List ℕ → ℕ → ℕ
for_record size rec nodes = on_verdict (read_record rec).verdict (for_nodes size (all_states (read_record rec).task) nodes)

-- a size that goes by nodes and S, each with something more
abbrev pub size_for : ℕ → ℕ → ℕ → ℕ → ℕ
size_for rows width nodes states = (nodes + rows) * (width + states)

-- "The working table needs (nodes + 1) × (40 + S) words of 64 bits."
abbrev pub words_for : ℕ → ℕ → ℕ
words_for = size_for 1 40

-- nodes × (1 + S): a plan of a search that keeps so many nodes has no more actions. In each layer no leaf has more than it has states, and one goes on to
-- the next.
abbrev pub bytes_for : ℕ → ℕ → ℕ
bytes_for = size_for 0 1
