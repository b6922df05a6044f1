-- Ways: how one leaf goes along a centre path, by its own leaf actions inside each layer and by the centre actions from layer to layer; and ways
-- of all leaves woven to a sequence. Follows section 3.2 of document 000 ("a leaf path complies with a center path") and "The exploration".
pub mod Laws
pub mod Split
pub mod Weave
use Rattle.std.specs.Prelude.{◌≡◌, true, List, [], ◌∷◌, ◌++◌, ℕ, suc, ◌+◌, ◌<◌}
use Rattle.task.specs.declared.Task.{Task}
use Rattle.task.specs.declared.Centre.{Centre}
use Rattle.task.specs.Meaning.{initial, factor, condition, cost, cost_of}
use Rattle.task.specs.Factors.{centre_action, leaf_action, number, to}
use Rattle.task.specs.Centre.{centre, centre_meets}
use Rattle.layer.specs.Layer.{joined, next_centre}

-- ---- the centre along a path

-- the centre state behind the actions of a path
unfoldable pub centre_along : Task → Centre → List ℕ → Centre
centre_along t c [] = c
centre_along t c (a ∷ p) = centre_along t (next_centre t a c) p

-- a path of centre actions whose centre conditions hold in turn, from the centre state on
pub data Open (t : Task) : Centre → List ℕ → Type 0 where
  stop : {c : Centre} → Open t c []
  next : {c : Centre} {p : List ℕ} (a : ℕ) → a < t.actions → centre_action t a ≡ true → centre_meets (factor t) (condition t a) c ≡ true
      → Open t (next_centre t a c) p → Open t c (a ∷ p)

-- ---- one leaf

-- leaf action a of leaf l has its centre conditions met by the centre state, and takes the leaf from x to y
pub record Step (t : Task) (l : ℕ) (c : Centre) (a x y : ℕ) : Type 0 where
  pub known : a < t.actions
  pub own : leaf_action t a l ≡ true
  pub enabled : centre_meets (factor t) (condition t a) c ≡ true
  pub takes : to t l a x ≡ suc y

-- a way of leaf l from centre state c and leaf state x: the centre actions that it goes along, the leaf state where it ends, and what its leaf
-- actions cost. Centre actions cost it nothing.
pub data Way (t : Task) (l : ℕ) : Centre → ℕ → List ℕ → ℕ → ℕ → Type 0 where
  done : {c : Centre} {x : ℕ} → Way t l c x [] x 0
  move : {c : Centre} {x y z w k : ℕ} {p : List ℕ} (a : ℕ) → Step t l c a x y → Way t l c y p z w → k ≡ cost t a + w → Way t l c x p z k
  cross : {c : Centre} {x y z w : ℕ} {p : List ℕ} (a : ℕ) → a < t.actions → to t l a x ≡ suc y → Way t l (next_centre t a c) y p z w
      → Way t l c x (a ∷ p) z w

-- a way of the leaf behind i leaves from the initial state
abbrev pub WayTo : Task → ℕ → List ℕ → ℕ → ℕ → Type 0
WayTo t i p x w = Way t (suc i) (centre t (initial t)) (number t (suc i) (initial t)) p x w

-- ---- ways by their actions

-- the actions take leaf l in turn from one state to another, inside a layer
pub data Steps (t : Task) (l : ℕ) (c : Centre) : ℕ → List ℕ → ℕ → Type 0 where
  none : {x : ℕ} → Steps t l c x [] x
  then : {x y z : ℕ} {acts : List ℕ} (a : ℕ) → Step t l c a x y → Steps t l c y acts z → Steps t l c x (a ∷ acts) z

-- a way of leaf l by its leaf actions in each layer: f 0 before the path's first action, f 1 behind it, and so on
pub data Staged (t : Task) (l : ℕ) : Centre → ℕ → List ℕ → (ℕ → List ℕ) → ℕ → Type 0 where
  last : {c : Centre} {x z : ℕ} {f : ℕ → List ℕ} → Steps t l c x (f 0) z → Staged t l c x [] f z
  over : {c : Centre} {x y u z : ℕ} {p : List ℕ} {f : ℕ → List ℕ} (a : ℕ) → Steps t l c x (f 0) y → a < t.actions → to t l a y ≡ suc u
      → Staged t l (next_centre t a c) u p (λ k. f (suc k)) z → Staged t l c x (a ∷ p) f z

-- what these leaf actions cost, along a path
unfoldable pub staged_cost : Task → (ℕ → List ℕ) → List ℕ → ℕ
staged_cost t f [] = cost_of t (f 0)
staged_cost t f (a ∷ p) = cost_of t (f 0) + staged_cost t (λ k. f (suc k)) p

-- ---- all leaves

-- "Written forwards, each layer holds leaf 1's actions, then leaf 2's and so on, then the next centre action": f k i are those of the leaf behind
-- i leaves in layer k
unfoldable pub weave : ℕ → (ℕ → ℕ → List ℕ) → List ℕ → List ℕ
weave n f [] = joined n (f 0)
weave n f (a ∷ p) = joined n (f 0) ++ (a ∷ weave n (λ k. f (suc k)) p)
