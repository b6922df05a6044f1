-- Layers: the prices of all leaves after a centre path. Follows "Prices and layers" and Definition 2 of document 001.
pub mod Leaf
pub mod Laws
pub mod Front
use Rattle.std.specs.Prelude.{◌≡◌, Bool, true, cond, not, ◌&&◌, List, [], ◌∷◌, ◌++◌, ℕ, zero, suc, ◌+◌, ◌<◌, ltb, eqb, length, get_or, set, take, drop, replicate}
use Rattle.loops.specs.Count.{all, any, sum}
use Rattle.task.specs.declared.Task.{Task}
use Rattle.task.specs.declared.Centre.{Centre}
use Rattle.task.specs.Meaning.{initial, factor, condition, effect, cost}
use Rattle.task.specs.Factors.{leaf_action, number, states, to}
use Rattle.task.specs.Centre.{centre, centre_after, centre_meets}
use Rattle.leaf.specs.Price.{mark}
use Rattle.leaf.specs.Settle.{settled}
use Rattle.leaf.specs.Pass.{pass}

-- ---- one leaf

-- the leaf actions of leaf l whose centre conditions hold in the centre state, among the actions below n
unfoldable pub enabled_to : Task → ℕ → Centre → ℕ → List ℕ
enabled_to t l c zero = []
enabled_to t l c (suc a) =
    cond (leaf_action t a l && centre_meets (factor t) (condition t a) c) (enabled_to t l c a ++ (a ∷ [])) (enabled_to t l c a)

abbrev pub enabled : Task → ℕ → Centre → List ℕ
enabled t l c = enabled_to t l c t.actions

-- "Then leaf actions whose centre conditions hold in the layer's centre lower prices until each is the cheapest way."
unfoldable pub settle_leaf : Task → ℕ → Centre → List ℕ → List ℕ
settle_leaf t l c P =
    let acts = enabled t l c in
    settled mark (length acts) (λ j. cost t (get_or acts j 0)) (λ j x. to t l (get_or acts j 0) x) P

-- a walk of leaf l inside a layer with centre c, from x to a state, and its cost: the leaf actions that the settling may take, one by one
pub data LeafWalk (t : Task) (l : ℕ) (c : Centre) (x : ℕ) : ℕ → ℕ → Type 0 where
  stay : LeafWalk t l c x x 0
  go : {y z w k : ℕ} (a : ℕ) → LeafWalk t l c x y w → a < t.actions → leaf_action t a l ≡ true → centre_meets (factor t) (condition t a) c ≡ true
      → to t l a y ≡ suc z → k ≡ w + cost t a → LeafWalk t l c x z k

-- "In the first layer the initial state of each leaf has price 0."
unfoldable pub start_leaf : Task → ℕ → List ℕ
start_leaf t l = set (replicate (states t l) mark) (number t l (initial t)) 0

-- "In each leaf, every reachable state that meets the conditions passes, changed by the effects, at its own price."
unfoldable pub pass_leaf : Task → ℕ → ℕ → List ℕ → List ℕ
pass_leaf t l a P = pass mark (states t l) (to t l a) P (states t l)

-- one reachable state of the leaf meets all conditions of the action on it
unfoldable pub passes : Task → ℕ → ℕ → List ℕ → Bool
passes t l a P = any (states t l) (λ x. ltb (get_or P x mark) mark && not (eqb (to t l a x) 0))

-- ---- all leaves: the prices of S leaf states, leaf 1 first

-- where the prices of the leaf behind i leaves begin
unfoldable pub base : Task → ℕ → ℕ
base t i = sum i (λ j. states t (suc j))

-- the prices of the leaf behind i leaves
unfoldable pub leaf_part : Task → ℕ → List ℕ → List ℕ
leaf_part t i P = take (states t (suc i)) (drop (base t i) P)

-- the lists of n leaves, one behind the other
unfoldable pub joined : ℕ → (ℕ → List ℕ) → List ℕ
joined zero f = []
joined (suc i) f = joined i f ++ f i

-- the first layer
unfoldable pub first_prices : Task → List ℕ
first_prices t = joined t.leaves (λ i. settle_leaf t (suc i) (centre t (initial t)) (start_leaf t (suc i)))

-- the layer behind centre action a, whose centre is c; P are the prices before it
unfoldable pub next_prices : Task → Centre → ℕ → List ℕ → List ℕ
next_prices t c a P = joined t.leaves (λ i. settle_leaf t (suc i) c (pass_leaf t (suc i) a (leaf_part t i P)))

-- "A centre action applies to a node if its centre conditions hold and, for each leaf it has conditions on, one reachable state meets them all."
-- In a leaf that it has no conditions on every reachable state does, and there always is one.
unfoldable pub applies_to : Task → Centre → List ℕ → ℕ → Bool
applies_to t c P a = centre_meets (factor t) (condition t a) c && all t.leaves (λ i. passes t (suc i) a (leaf_part t i P))

-- "A centre state takes an action's effects and is the next centre state."
abbrev pub next_centre : Task → ℕ → Centre → Centre
next_centre t a c = centre_after (factor t) (effect t a) c
