-- "In a layer, a state's depth is the fewest leaf actions, since the layer began, that give its price": the law that depths are just that. It is
-- what a reader has to know of the definition; no other law needs it. Assumes nothing.
use Rattle.std.specs.Prelude.{◌≡◌, refl, List, length, get_or}
use Prim.Native.Nat.{ℕ, suc, ◌+◌, ◌≤◌, ◌<◌}
use native.Mathlib.Omega.{arith}
use Rattle.task.specs.declared.Task.{Task}
use Rattle.task.specs.declared.Centre.{Centre}
use Rattle.task.specs.Meaning.{cost_of}
use Rattle.task.specs.Factors.{states}
use Rattle.task.specs.Valid.{Valid}
use Rattle.task.specs.Star.{to_in}
use Rattle.leaf.specs.Price.{mark}
use Rattle.leaf.specs.Settle.Steps.{price_in_lem}
use Rattle.leaf.specs.Settle.Walks.{Capped}
use Rattle.layer.specs.Layer.{enabled, settle_leaf}
use Rattle.layer.specs.Layer.Leaf.{enabled_find, leaf_below, leaf_closed}
use Rattle.price.specs.Ways.{Steps, none, then}
use Rattle.search.specs.Plan.{depths, back}
use Rattle.search.specs.Plan.Depths.{tight_to_in, edges, depths_in, depth_all, depth_step, depth_kept}
use Rattle.search.specs.Plan.WayBack.{back_count, back_led}

-- ---- what is said

-- in a layer of leaf l with centre c that began with prices B, the leaf actions give state y its price: they lead to y from a state that the layer
-- began with, and what they cost, added to the price of that state, is the price of y
pub record Gives (t : Task) (l : ℕ) (c : Centre) (B : List ℕ) (y : ℕ) (acts : List ℕ) : Type 0 where
  pub from : ℕ
  pub began : get_or B from mark < mark
  pub leads : Steps t l c from acts y
  pub price : get_or B from mark + cost_of t acts ≡ get_or (settle_leaf t l c B) y mark

-- n is the fewest leaf actions that give state y its price
pub record Fewest (t : Task) (l : ℕ) (c : Centre) (B : List ℕ) (y n : ℕ) : Type 0 where
  pub no_fewer : (acts : List ℕ) → Gives t l c B y acts → n ≤ length acts
  pub some_has : (acts : List ℕ) × Gives t l c B y acts × (length acts ≡ n)

-- ---- why it holds

module _ (t : Task) (ok : Valid t) (i : ℕ) (m : i < t.leaves) (c : Centre) (B : List ℕ) (len : length B ≡ states t (suc i)) (cap : Capped mark B) where
  -- leaf actions lead to no state at less than its price
  steps_least : {x y : ℕ} {acts : List ℕ} → x < states t (suc i) → Steps t (suc i) c x acts y
      → get_or (settle_leaf t (suc i) c B) y mark ≤ get_or (settle_leaf t (suc i) c B) x mark + cost_of t acts
  unfolding cost_of
  steps_least h none = omega arith
  steps_least {x} h (then {y = y} a s r) =
      omega (arith, leaf_closed t ok (suc i) c B len cap x a y h s.known s.own s.enabled s.takes, steps_least (to_in t ok (suc i) a x y s.known s.takes) r)

  -- leaf actions that lead to a state at its price do so at each step, so each leads one deeper at most
  steps_depth : {x y : ℕ} {acts : List ℕ} → x < states t (suc i) → Steps t (suc i) c x acts y
      → get_or (settle_leaf t (suc i) c B) x mark + cost_of t acts ≡ get_or (settle_leaf t (suc i) c B) y mark
      → get_or (depths_in t (suc i) c B) y mark ≤ get_or (depths_in t (suc i) c B) x mark + length acts
  unfolding cost_of
  steps_depth h none e = omega arith
  steps_depth {x} h (then {y = y} a s r) e =
      let hy = to_in t ok (suc i) a x y s.known s.takes in
      let p = leaf_closed t ok (suc i) c B len cap x a y h s.known s.own s.enabled s.takes in
      let q = steps_least hy r in
      let (j, b, v) = enabled_find t (suc i) c a s.known s.own s.enabled in
      let edge : edges t (suc i) c B j x ≡ suc y = rw v (tight_to_in t (suc i) (settle_leaf t (suc i) c B) a x y s.takes (omega arith)) in
      omega (arith, depth_step t ok i m c B len cap x j y h b edge, steps_depth hy r (omega arith))

  -- a state's depth is the fewest leaf actions, since the layer began, that give its price
  pub depth_fewest : (y : ℕ) → get_or (settle_leaf t (suc i) c B) y mark < mark
      → Fewest t (suc i) c B y (get_or (depths t (suc i) (enabled t (suc i) c) B (settle_leaf t (suc i) c B)) y mark)
  depth_fewest y h = record { no_fewer = least; some_has = some }
    where
      least : (acts : List ℕ) → Gives t (suc i) c B y acts → get_or (depths_in t (suc i) c B) y mark ≤ length acts
      least acts g =
          let x = g.from in
          let hx : x < states t (suc i) = omega (arith, price_in_lem mark B x g.began, len) in
          let p = steps_least hx g.leads in
          let q = leaf_below t (suc i) c B x in
          let kept : get_or B x mark ≡ get_or (settle_leaf t (suc i) c B) x mark = omega (arith, g.price) in
          let zero-deep = depth_kept t ok i m c B len cap x (omega (arith, g.began)) kept in
          omega (arith, steps_depth hx g.leads (omega (arith, g.price)))

      some : (acts : List ℕ) × Gives t (suc i) c B y acts × (length acts ≡ get_or (depths_in t (suc i) c B) y mark)
      some =
          let k = get_or (depths_in t (suc i) c B) y mark in
          let b = back t (suc i) (enabled t (suc i) c) (settle_leaf t (suc i) c B) (depths_in t (suc i) c B) k y in
          let led = back_led t ok i m c B len cap k y refl (depth_all t ok i m c B len cap y h) in (
            b.acts,
            record { from = b.from; began = omega (arith, led.below, led.kept); leads = led.steps; price = omega (arith, led.kept, led.total) },
            back_count t (suc i) (enabled t (suc i) c) (settle_leaf t (suc i) c B) (depths_in t (suc i) c B) k y,
          )
