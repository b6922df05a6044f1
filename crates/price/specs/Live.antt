-- Where a walk ends each leaf has a reachable state. Assumes nothing.
use Rattle.std.specs.Prelude.{◌≡◌, true, ℕ, suc, ◌<◌}
use mathlib.Core.List.{List, [], ◌∷◌}
use Rattle.std.proofs.Common.{arith}
use Rattle.loops.specs.Count.Laws.{and_out, all_out}
use Rattle.task.specs.declared.Task.{Task}
use Rattle.task.specs.Meaning.{initial, factor, condition}
use Rattle.task.specs.Factors.{number, states}
use Rattle.task.specs.Centre.{centre_meets}
use Rattle.task.specs.Valid.{Valid}
use Rattle.task.specs.Star.{number_lt, to_in}
use Rattle.leaf.specs.Price.{mark}
use Rattle.layer.specs.Layer.{leaf_part, applies_to}
use Rattle.layer.specs.Layer.Leaf.{passes_out}
use Rattle.price.specs.Path.{Layer, first_layer, next_layer, ends, walk}
use Rattle.price.specs.Path.Laws.{walk_on, price, first_at, next_hit}
use Rattle.price.specs.Prices.{Centred}

-- every leaf has a reachable state in the layer
abbrev pub Live : Task → Layer → Type 0
Live t l = (i : ℕ) → i < t.leaves → (x : ℕ) × ((x < states t (suc i)) × (price t l i x < mark))

module _ (t : Task) (ok : Valid t) where
  -- each leaf's initial state is reachable in the first layer
  pub first_live : Live t (first_layer t)
  first_live i l = (number t (suc i) (initial t), (number_lt t (suc i) ok.fields.initial_inside, omega (arith, first_at t ok i l)))

  -- behind an action that applies each leaf has a reachable state
  pub next_live : (a : ℕ) (l : Layer) → a < t.actions → applies_to t l.spot l.prices a ≡ true → Live t (next_layer t a l)
  unfolding applies_to
  next_live a l h e i m =
      let (_, ps) = and_out (centre_meets (factor t) (condition t a) l.spot) _ e in
      let (x, y, k, p, q) = passes_out t (suc i) a (leaf_part t i l.prices) (all_out t.leaves _ ps i m) in
      (y, (to_in t ok (suc i) a x y h q, omega (arith, next_hit t ok a l i m x y h k q)))

  -- where a walk ends each leaf has a reachable state
  pub walk_live : (p : List ℕ) (l m : Layer) → Centred t p → Live t l → walk t l p ≡ ends m → Live t m
  unfolding walk
  walk_live [] l m c v e = let f : l ≡ m = cc in rw f at v
  walk_live (a ∷ p) l m c v e =
      let (u, w) = walk_on t l a p e in
      walk_live p (next_layer t a l) m (λ k n. c (suc k) (omega arith)) (next_live a l (c 0 (omega arith)).0 u) w
