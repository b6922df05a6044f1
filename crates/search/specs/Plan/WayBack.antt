-- The way back inside a layer leads from a state that has kept the price that the layer began with, and costs what it should. Assumes nothing.
use Rattle.std.specs.Prelude.{◌≡◌, refl, true, List, length, get_or}
use Prim.Native.Nat.{ℕ, zero, suc, ◌+◌, ◌<◌}
use native.Mathlib.Omega.{arith}
use Rattle.std.proofs.Common.{length-append}
use borrow.Author.Tests.{eqb-true, eq-eqb}
use Rattle.loops.specs.Count.{any}
use Rattle.loops.specs.Count.Laws.{and_in, and_out, any_in, any_out}
use Rattle.task.specs.declared.Task.{Task}
use Rattle.task.specs.declared.Centre.{Centre}
use Rattle.task.specs.Meaning.{cost, cost_of}
use Rattle.task.specs.Factors.{states, to}
use Rattle.task.specs.Valid.{Valid}
use Rattle.leaf.specs.Price.{mark}
use Rattle.leaf.specs.Settle.Walks.{Capped}
use Rattle.layer.specs.Layer.{enabled, settle_leaf}
use Rattle.layer.specs.Layer.Leaf.{enabled_at, leaf_length}
use Rattle.price.specs.Ways.{Steps, none}
use Rattle.price.specs.Sequences.{cost_of_snoc}
use Rattle.search.specs.Plan.{lowest, tight, depths, source, Back, back}
use Rattle.search.specs.Plan.Lowest.{lowest_is}
use Rattle.search.specs.Plan.Staged.{steps_snoc}
use Rattle.search.specs.Plan.Depths.{tight_in, tight_out, depths_in, depth_all, depth_zero, depth_suc}

-- ---- source

module _ (t : Task) (l : ℕ) (P D : List ℕ) (k y a x : ℕ) where
  -- a state of depth k from which the action leads to y at the right price is a source
  source_in : to t l a x ≡ suc y → get_or P x mark + cost t a ≡ get_or P y mark → get_or D x mark ≡ k → source t l P D k y a x ≡ true
  unfolding source
  source_in e p d = and_in (tight_in t l P a x y e p) (eq-eqb (get_or D x mark) k d)

  -- and back
  source_out : source t l P D k y a x ≡ true → (to t l a x ≡ suc y) × (get_or P x mark + cost t a ≡ get_or P y mark) × (get_or D x mark ≡ k)
  unfolding source
  source_out q =
      let u = and_out (tight t l P a x y) _ q in
      let w = tight_out t l P a x y u.0 in
      (w.0, w.1, eqb-true (get_or D x mark) k u.1)

-- ---- back

-- the way back from depth k has k actions
pub back_count : (t : Task) (l : ℕ) (acts P D : List ℕ) (k y : ℕ) → length (back t l acts P D k y).acts ≡ k
unfolding back
back_count t l acts P D zero y = refl
back_count t l acts P D (suc k) y = rw (length-append, back_count t l acts P D k) (omega arith)

-- actions that lead inside a layer with prices P from a state to y: the state has kept its price of B, and they add up to the price of y
pub record Led (t : Task) (l : ℕ) (c : Centre) (B P : List ℕ) (y : ℕ) (b : Back) : Type 0 where
  pub steps : Steps t l c b.from b.acts y
  pub below : get_or P b.from mark < mark
  pub kept : get_or B b.from mark ≡ get_or P b.from mark
  pub total : get_or P b.from mark + cost_of t b.acts ≡ get_or P y mark

-- the way back from y, of depth k, in the settled layer
abbrev back_of : Task → ℕ → Centre → List ℕ → ℕ → ℕ → Back
back_of t l c B k y = back t l (enabled t l c) (settle_leaf t l c B) (depths_in t l c B) k y

-- the entry that the walk back takes from y, of depth k + 1
abbrev entry : Task → ℕ → Centre → List ℕ → ℕ → ℕ → ℕ
entry t l c B k y =
    lowest (length (enabled t l c)) (λ j. any (length (settle_leaf t l c B)) (source t l (settle_leaf t l c B) (depths_in t l c B) k y (get_or (enabled t l c) j 0)))

-- and its source
abbrev origin : Task → ℕ → Centre → List ℕ → ℕ → ℕ → ℕ
origin t l c B k y =
    lowest (length (settle_leaf t l c B)) (source t l (settle_leaf t l c B) (depths_in t l c B) k y (get_or (enabled t l c) (entry t l c B k y) 0))

-- entry e and source x are a tight edge to y from depth k
record Taken (t : Task) (l : ℕ) (c : Centre) (B : List ℕ) (k y e x : ℕ) : Type 0 where
  below : e < length (enabled t l c)
  takes : to t l (get_or (enabled t l c) e 0) x ≡ suc y
  right : get_or (settle_leaf t l c B) x mark + cost t (get_or (enabled t l c) e 0) ≡ get_or (settle_leaf t l c B) y mark
  depth : get_or (depths_in t l c B) x mark ≡ k

module _ (t : Task) (ok : Valid t) (i : ℕ) (m : i < t.leaves) (c : Centre) (B : List ℕ) (len : length B ≡ states t (suc i)) (cap : Capped mark B) where
  -- what the walk back takes is such an edge
  taken : (k y : ℕ) → get_or (depths_in t (suc i) c B) y mark ≡ suc k → suc k < mark → Taken t (suc i) c B k y (entry t (suc i) c B k y) (origin t (suc i) c B k y)
  taken k y e h =
      let d = depth_suc t ok i m c B len cap y k e h in
      let inside : d.source < length (settle_leaf t (suc i) c B) = omega (arith, d.inside, leaf_length t (suc i) c B, len) in
      let P = settle_leaf t (suc i) c B in
      let D = depths_in t (suc i) c B in
      let some = any_in (length P) (source t (suc i) P D k y (get_or (enabled t (suc i) c) d.entry 0)) d.source inside
      (source_in t (suc i) P D k y (get_or (enabled t (suc i) c) d.entry 0) d.source d.takes d.right d.depth) in
      let f = lowest_is (length (enabled t (suc i) c)) (λ j. any (length P) (source t (suc i) P D k y (get_or (enabled t (suc i) c) j 0))) d.entry d.below some in
      let (x, (hx, q)) = any_out (length P) (source t (suc i) P D k y (get_or (enabled t (suc i) c) (entry t (suc i) c B k y) 0)) f.passes in
      let g = lowest_is (length P) (source t (suc i) P D k y (get_or (enabled t (suc i) c) (entry t (suc i) c B k y) 0)) x hx q in
      let w = source_out t (suc i) P D k y (get_or (enabled t (suc i) c) (entry t (suc i) c B k y) 0) (origin t (suc i) c B k y) g.passes in
      record { below = f.inside; takes = w.0; right = w.1; depth = w.2 }

  -- the way back from a state whose depth is below the mark
  pub back_led : (k y : ℕ) → get_or (depths_in t (suc i) c B) y mark ≡ k → k < mark
      → Led t (suc i) c B (settle_leaf t (suc i) c B) y (back_of t (suc i) c B k y)
  unfolding back cost_of
  back_led zero y e h =
      let u = depth_zero t ok i m c B len cap y e in
      record { steps = none; below = u.0; kept = u.1; total = omega arith }
  back_led (suc k) y e h = go (taken k y e h) (back_led k (origin t (suc i) c B k y))
    where
      go : Taken t (suc i) c B k y (entry t (suc i) c B k y) (origin t (suc i) c B k y)
          → (get_or (depths_in t (suc i) c B) (origin t (suc i) c B k y) mark ≡ k → k < mark
          → Led t (suc i) c B (settle_leaf t (suc i) c B) (origin t (suc i) c B k y) (back_of t (suc i) c B k (origin t (suc i) c B k y)))
          → Led t (suc i) c B (settle_leaf t (suc i) c B) y (back_of t (suc i) c B (suc k) y)
      go d rec =
          let r = rec d.depth (omega arith) in
          let (la, el, ec) = enabled_at t (suc i) c (entry t (suc i) c B k y) d.below in
          record {
            steps = steps_snoc t (suc i) _ r.steps (record { known = la; own = el; enabled = ec; takes = d.takes });
            below = r.below;
            kept = r.kept;
            total = omega (
              arith,
              cost_of_snoc t (back_of t (suc i) c B k (origin t (suc i) c B k y)).acts (get_or (enabled t (suc i) c) (entry t (suc i) c B k y) 0),
              r.total,
              d.right,
            );
          }

  -- the way back from a state whose price is below the mark
  pub back_works : (P : List ℕ) (y : ℕ) → P ≡ settle_leaf t (suc i) c B → get_or P y mark < mark
      → Led t (suc i) c B P y (back t (suc i) (enabled t (suc i) c) P (depths t (suc i) (enabled t (suc i) c) B P) (get_or (depths t (suc i) (enabled t (suc i) c) B P) y mark) y)
  back_works P y e h =
      let g : get_or (settle_leaf t (suc i) c B) y mark < mark = rw e at h in
      rw e (back_led (get_or (depths_in t (suc i) c B) y mark) y refl (depth_all t ok i m c B len cap y g))
