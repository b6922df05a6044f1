-- What the walk back needs of a search: every kept node but node 0 was made from a node of a lower number by a centre action that applies to it;
-- and what follows of a node's layer. Assumes nothing.
use Rattle.std.specs.Prelude.{◌≡◌, ◌≢◌, true, length, get_or}
use Rattle.std.proofs.Common.{sym, ◌∙◌}
use Rattle.std.proofs.Math.Path.{ap}
use mathlib.Core.List.{List}
use Prim.Native.Nat.{ℕ, zero, suc, ◌+◌, ◌<◌}
use Rattle.task.specs.declared.Task.{Task}
use Rattle.task.specs.declared.Centre.{Centre}
use Rattle.task.specs.Meaning.{initial, cost}
use Rattle.task.specs.Factors.{centre_action, states}
use Rattle.task.specs.Centre.{centre}
use Rattle.leaf.specs.Price.{mark}
use Rattle.leaf.specs.Settle.Walks.{Capped}
use Rattle.layer.specs.Layer.{settle_leaf, leaf_part, next_centre, next_prices, applies_to}
use Rattle.layer.specs.Layer.Leaf.{start_leaf_length, start_leaf_cap, pass_leaf_length, pass_leaf_cap}
use Rattle.layer.specs.Layer.Laws.{part_first, part_next}
use Rattle.search.specs.Node.{Node, first_node, next_node}
use Rattle.search.specs.Explore.{Search, node_at}
use Rattle.search.specs.Plan.{begins}

-- every kept node but node 0 was made from a node of a lower number by a centre action that applies to it
pub record Real (t : Task) (s : Search) : Type 0 where
  pub some : 0 < length s.kept
  pub first : node_at t s 0 ≡ first_node t
  pub lower : (u : ℕ) → suc u < length s.kept → (node_at t s (suc u)).parent < suc u
  pub known : (u : ℕ) → suc u < length s.kept → (node_at t s (suc u)).action < t.actions
  pub central : (u : ℕ) → suc u < length s.kept → centre_action t (node_at t s (suc u)).action ≡ true
  pub applied : (u : ℕ) → suc u < length s.kept
      → let n = node_at t s (suc u) in let p = node_at t s n.parent in applies_to t p.spot p.prices n.action ≡ true
  pub made : (u : ℕ) → suc u < length s.kept → let n = node_at t s (suc u) in n ≡ next_node t n.parent (node_at t s n.parent) n.action

-- and the expansion of the node that it was made from has begun; the walk back does not ask for this
pub record Rooted (t : Task) (s : Search) : Type 0 where
  pub real : Real t s
  pub opened : (u : ℕ) → suc u < length s.kept → get_or s.done (node_at t s (suc u)).parent 0 ≢ 0

module _ (t : Task) (s : Search) (r : Real t s) where
  -- node 0 has the initial centre state
  pub first_spot : (node_at t s 0).spot ≡ centre t (initial t)
  unfolding first_node
  first_spot = ap (λ (n : Node). n.spot) r.first

  -- and has paid nothing
  pub first_paid : (node_at t s 0).paid ≡ 0
  unfolding first_node
  first_paid = ap (λ (n : Node). n.paid) r.first

  -- a node's centre state is its parent's behind its action
  pub made_spot : (u : ℕ) → suc u < length s.kept
      → (node_at t s (suc u)).spot ≡ next_centre t (node_at t s (suc u)).action (node_at t s (node_at t s (suc u)).parent).spot
  unfolding next_node
  made_spot u h = ap (λ (n : Node). n.spot) (r.made u h)

  -- it has paid what its parent has, and its action
  pub made_paid : (u : ℕ) → suc u < length s.kept
      → (node_at t s (suc u)).paid ≡ (node_at t s (node_at t s (suc u)).parent).paid + cost t (node_at t s (suc u)).action
  unfolding next_node
  made_paid u h = ap (λ (n : Node). n.paid) (r.made u h)

  -- its prices are its parent's, passed and settled
  made_prices : (u : ℕ) → suc u < length s.kept
      → (node_at t s (suc u)).prices
      ≡ next_prices t (next_centre t (node_at t s (suc u)).action (node_at t s (node_at t s (suc u)).parent).spot) (node_at t s (suc u)).action (node_at t s (node_at t s (suc u)).parent).prices
  unfolding next_node
  made_prices u h = ap (λ (n : Node). n.prices) (r.made u h)

  -- a leaf's prices in a node are those that its layer began with, settled
  pub node_part : (i u : ℕ) → i < t.leaves → u < length s.kept
      → leaf_part t i (node_at t s u).prices ≡ settle_leaf t (suc i) (node_at t s u).spot (begins t s i u)
  unfolding begins first_node
  node_part i zero m h = rw r.first (part_first t i m)
  node_part i (suc u) m h =
      ap (λ (P : List ℕ). leaf_part t i P) (made_prices u h)
      ∙ part_next t (next_centre t (node_at t s (suc u)).action (node_at t s (node_at t s (suc u)).parent).spot) (node_at t s (suc u)).action (node_at t s (node_at t s (suc u)).parent).prices i m
      ∙ ap (λ (c : Centre). settle_leaf t (suc i) c (begins t s i (suc u))) (sym (made_spot u h))

-- a layer begins with a price for every state
pub begins_length : (t : Task) (s : Search) (i u : ℕ) → length (begins t s i u) ≡ states t (suc i)
unfolding begins
begins_length t s i zero = start_leaf_length t (suc i)
begins_length t s i (suc u) = pass_leaf_length t (suc i) _ _

-- and with no price above the mark
pub begins_cap : (t : Task) (s : Search) (i u : ℕ) → Capped mark (begins t s i u)
unfolding begins
begins_cap t s i zero = start_leaf_cap t (suc i)
begins_cap t s i (suc u) = pass_leaf_cap t (suc i) _ _
