-- Layers along a centre path. Follows "Prices and layers".
pub mod Laws
use Rattle.std.specs.Prelude.{true, false, List, [], ◌∷◌, ℕ}
use Rattle.task.specs.declared.Task.{Task}
use Rattle.task.specs.declared.Centre.{Centre}
use Rattle.task.specs.Meaning.{initial}
use Rattle.task.specs.Centre.{centre}
use Rattle.layer.specs.Layer.{first_prices, next_prices, next_centre, applies_to}

-- a layer: its centre state, and the prices of all leaf states
pub record Layer : Type 0 where
  pub spot : Centre
  pub prices : List ℕ

abbrev pub first_layer : Task → Layer
first_layer t = record { spot = centre t (initial t); prices = first_prices t }

-- the layer behind centre action a
unfoldable pub next_layer : Task → ℕ → Layer → Layer
next_layer t a l = let c = next_centre t a l.spot in record { spot = c; prices = next_prices t c a l.prices }

-- a path's end: its last layer, or an action that does not apply
pub data End : Type 0 where
  ends : Layer → End
  stuck : End

-- the layers of the actions one after the other
unfoldable pub walk : Task → Layer → List ℕ → End
walk t l [] = ends l
walk t l (a ∷ p) = elim (applies_to t l.spot l.prices a) [ true ↦ walk t (next_layer t a l) p | false ↦ stuck ]
