-- The node that a candidate is.
use Rattle.std.specs.Prelude.{take}
use Rattle.search.specs.Node.{Node}
use Rattle.rows.specs.Row.{node_with}
use Rattle.dominance.specs.declared.held.Candidate.{Candidate}

-- a candidate as a node; which node it was made from does not count
abbrev pub node_held : Candidate → Node
node_held c = node_with c.spot c.paid (take c.states c.prices.now) 0 0
