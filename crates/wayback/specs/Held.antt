-- The walk back in the words of what a program holds: a leaf's ways, and the buffer of a plan.
use Rattle.std.specs.Prelude.{◌≡◌, List, ℕ, ◌+◌, length}
use Rattle.std.proofs.Common.{◌∙◌}
use Rattle.edges.specs.Edges.{edges_at}
use Rattle.sweeps.specs.declared.held.LeafWays.{LeafWays}
use Rattle.search.specs.Plan.{Back}
use Rattle.wayback.specs.declared.held.PlanBuffer.{PlanBuffer}
use Rattle.wayback.specs.Woven.{Legible, edge_at, Spread, Listed, Leading, Backed}
use Rattle.wayback.specs.Least.{StateMet, AllMet}
use Rattle.wayback.specs.Walked.{Walked}

-- ---- a leaf's ways, where an action's flag is its place in a list, counted from 1

-- the costs and the moves of the actions of the list can be read, and the moves stay in a leaf of n states
abbrev pub LegibleIn : LeafWays → ℕ → Type 0
LegibleIn w n = Legible w.moves.now w.row w.at w.costs.now w.mets.now n

-- the tight edge of action a from state x, by prices P; 0 where there is none
abbrev pub edge_in : LeafWays → List ℕ → ℕ → ℕ → ℕ
edge_in w P a x = edge_at w.moves.now w.row w.at w.costs.now w.mets.now P a x

-- the edges of a leaf of n states can be read, and fit into `room` entries
abbrev pub SpreadIn : LeafWays → ℕ → ℕ → Type 0
SpreadIn w n room = Spread w.edges.list.now w.edges.ends.now w.at n room

-- the tight ones of the states below k are listed
abbrev pub ListedIn : LeafWays → List ℕ → ℕ → List ℕ → List ℕ → Type 0
ListedIn w P k tight stops = Listed (edge_in w P) (λ x. edges_at w.edges.list.now w.edges.ends.now (w.at + x)) k tight stops

-- these actions lead from state x of a leaf of n states
abbrev pub LeadingIn : LeafWays → List ℕ → ℕ → ℕ → Type 0
LeadingIn w acts x n = Leading w.moves.now w.row w.at w.mets.now acts x n

-- their edges from state x are met
abbrev pub StateMetIn : LeafWays → List ℕ → List ℕ → ℕ → List ℕ → List ℕ → Type 0
StateMetIn w acts D x before after = StateMet w.moves.now w.row w.at w.mets.now acts D x (length acts) before after

-- the edges of all states are met
abbrev pub AllMetIn : LeafWays → List ℕ → List ℕ → Type 0
AllMetIn w D sources = AllMet w.moves.now w.row w.at w.mets.now w.edges.list.now w.edges.ends.now D (length D) sources

-- state y can be walked back from along the edges, in a layer that began with prices B and has prices P
abbrev pub BackedIn : LeafWays → List ℕ → List ℕ → List ℕ → ℕ → Type 0
BackedIn w acts B P y = Backed w.moves.now w.row w.at acts w.mets.now w.edges.list.now w.edges.ends.now B P y

-- ---- the buffer of a plan

-- it is the same buffer, of which as many places may be written
pub record KeptIn (before after : PlanBuffer) : Type 0 where
  pub same : after.plan.ghost_name ≡ before.plan.ghost_name
  pub total : after.total ≡ before.total
  pub long : length after.plan.now ≡ length before.plan.now

pub kept_twice : {a b c : PlanBuffer} → KeptIn a b → KeptIn b c → KeptIn a c
kept_twice k l = record { same = l.same ∙ k.same; total = l.total ∙ k.total; long = l.long ∙ k.long }

-- a way back was walked to state y, and its actions written
abbrev pub WalkedIn : Back → PlanBuffer → ℕ → PlanBuffer → Type 0
WalkedIn b before y after = Walked b before.total before.place before.plan.now y after.place after.plan.now
