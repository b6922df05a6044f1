-- Sources: every state of a depth that is neither 0 nor the mark has one of depth one less, and the walk back takes one. Assumes nothing.
use Rattle.std.specs.Prelude.{◌≡◌, length, get_or}
use Rattle.std.proofs.Math.Path.{refl, ap}
use Rattle.std.proofs.Common.{◌∙◌, arith}
use Rattle.std.proofs.Math.Bool.{true}
use mathlib.Core.List.{List}
use Prim.Native.Nat.{ℕ, zero, suc, ◌+◌, ◌≤◌, ◌<◌}
use borrow.Author.Tests.{eqb-true, eq-eqb}
use Rattle.loops.specs.Count.{any}
use Rattle.loops.specs.Count.Laws.{and_in, and_out, any_in, any_out, any_ext, list_length}
use Rattle.leaf.specs.Price.{mark}
use Rattle.leaf.specs.Settle.{settled}
use Rattle.leaf.specs.Settle.Steps.{price_in_lem}
use Rattle.leaf.specs.Settle.Walks.{Walk, stand, step, Ranged, Closed}
use Rattle.leaf.specs.Settle.Laws.{settled_length, settled_below, settled_real, settled_closed, settled_least, walk_in}
use Rattle.leaf.specs.Settle.Ext.{settled_ext}
use Rattle.search.specs.Plan.{lowest}
use Rattle.search.specs.Plan.Lowest.{lowest_is}
use Rattle.search.specs.Plan.Depths.{depth0, depth0_out, depth0_cap, depth0_bound}
use Rattle.wayback.specs.Steps.{depths_by, source_by, entry_by, origin_by, back_by}
use Rattle.wayback.specs.Lowest.{lowest_ext}

-- the j-th action leads from x, of depth k, to y
pub record Leads (n m : ℕ) (edges : ℕ → ℕ → ℕ) (D : List ℕ) (k y j x : ℕ) : Type 0 where
  pub below : j < m
  pub inside : x < n
  pub edge : edges j x ≡ suc y
  pub depth : get_or D x mark ≡ k

-- some action leads from a state of depth k to y
pub record Source (n m : ℕ) (edges : ℕ → ℕ → ℕ) (D : List ℕ) (k y : ℕ) : Type 0 where
  pub act : ℕ
  pub from : ℕ
  pub leads : Leads n m edges D k y act from

-- every state whose depth is k + 1, below the mark, has a source of depth k
abbrev pub Sourced : ℕ → ℕ → (ℕ → ℕ → ℕ) → List ℕ → Type 0
Sourced n m edges D = (k y : ℕ) → get_or D y mark ≡ suc k → suc k < mark → Source n m edges D k y

-- ---- depths

module _ (edges : ℕ → ℕ → ℕ) (m : ℕ) (B P : List ℕ) where
  -- there is a beginning for each state
  full : length (depth0 B P) ≡ length P
  full = list_length (length P) _

  -- there is a depth for each state
  pub depths_length : length (depths_by edges m B P) ≡ length P
  unfolding depths_by
  depths_length = settled_length mark m (λ j. 1) edges (depth0 B P) ∙ full

  -- no depth is above that where depths begin
  pub depths_below : (y : ℕ) → get_or (depths_by edges m B P) y mark ≤ get_or (depth0 B P) y mark
  unfolding depths_by
  depths_below y = settled_below mark m (λ j. 1) edges (depth0 B P) y

  -- a depth below the mark is no more than the states
  pub depths_bound : (y : ℕ) → get_or (depths_by edges m B P) y mark < mark → get_or (depths_by edges m B P) y mark ≤ length P
  unfolding depths_by
  depths_bound y h = depth0_bound B P m edges y h

  -- depths depend on the edges of the actions and states that there are
  pub depths_ext : (other : ℕ → ℕ → ℕ) → ((j x : ℕ) → j < m → x < length P → edges j x ≡ other j x) → depths_by edges m B P ≡ depths_by other m B P
  unfolding depths_by
  depths_ext other h = settled_ext mark m (length P) _ _ edges other (λ j l. refl) h (depth0 B P) full

  module _ (ranged : Ranged (length P) m edges) where
    -- a state of another depth than 0 has a source of depth one less
    pub depths_sourced : Sourced (length P) m edges (depths_by edges m B P)
    unfolding depths_by Closed
    depths_sourced k y e h =
        let r = settled_real mark m (λ j. 1) edges (depth0 B P) y (omega arith) in
        go r.from r.toll (omega (arith, r.sum)) r.walk
      where
        D : List ℕ
        D = settled mark m (λ j. 1) edges (depth0 B P)

        go : (x w : ℕ) → get_or (depth0 B P) x mark + w ≡ suc k → Walk m (λ j. 1) edges x y w → Source (length P) m edges D k y
        go x w f stand = let u = depth0_out B P x (omega arith) in absurd (omega (arith, u.0))
        go x w f (step {y = z} {w = v} a r l q) =
            let u = depth0_out B P x (omega arith) in
            let hx : x < length P = omega (arith, price_in_lem mark (depth0 B P) x (omega (arith, u.0)), full) in
            let hz = walk_in (length P) m (λ j. 1) edges ranged hx r in
            let low = settled_least mark (length P) m (λ j. 1) edges ranged (depth0 B P) full (depth0_cap B P) hx r in
            let near = settled_closed mark (length P) m (λ j. 1) edges ranged (depth0 B P) full (depth0_cap B P) z a y hz l q in
            record { act = a; from = z; leads = record { below = l; inside = hz; edge = q; depth = omega (arith, u.0) } }

-- ---- what the walk back takes

module _ (n m : ℕ) (edges : ℕ → ℕ → ℕ) (D : List ℕ) where
  -- where y has a source, the first action with one and its lowest source lead to y
  pub source_taken : (k y : ℕ) → Source n m edges D k y → Leads n m edges D k y (entry_by edges m n D k y) (origin_by edges m n D k y)
  unfolding source_by
  source_taken k y s =
      let l = s.leads in
      let here : source_by edges D k y s.act s.from ≡ true = and_in (eq-eqb _ _ l.edge) (eq-eqb _ _ l.depth) in
      let f = lowest_is m (λ j. any n (source_by edges D k y j)) s.act l.below (any_in n _ s.from l.inside here) in
      let (x, (h, q)) = any_out n (source_by edges D k y (entry_by edges m n D k y)) f.passes in
      let g = lowest_is n (source_by edges D k y (entry_by edges m n D k y)) x h q in
      let w = and_out _ _ g.passes in
      record { below = f.inside; inside = g.inside; edge = eqb-true _ _ w.0; depth = eqb-true _ _ w.1 }

  -- the way back depends on the edges of the actions and states that there are
  pub back_ext : (other : ℕ → ℕ → ℕ) → ((j x : ℕ) → j < m → x < n → edges j x ≡ other j x) → Sourced n m edges D
      → (acts : List ℕ) (k y : ℕ) → get_or D y mark ≡ k → k < mark → back_by edges acts m n D k y ≡ back_by other acts m n D k y
  unfolding back_by
  back_ext other same has acts zero y e h = refl
  back_ext other same has acts (suc k) y e h =
      let l = source_taken k y (has k y e h) in
      let entry : entry_by edges m n D k y ≡ entry_by other m n D k y =
      lowest_ext m _ _ (λ j b. any_ext n _ _ (λ x i. test j x b i)) in
      let origin : origin_by edges m n D k y ≡ origin_by other m n D k y =
      lowest_ext n _ _ (λ x i. test (entry_by edges m n D k y) x l.below i) ∙ ap (λ j. lowest n (source_by other D k y j)) entry in
      let rest = back_ext other same has acts k (origin_by edges m n D k y) l.depth (omega arith) ∙ ap (back_by other acts m n D k) origin in
      rw (rest, entry)
    where
      test : (j x : ℕ) → j < m → x < n → source_by edges D k y j x ≡ source_by other D k y j x
      test j x b i = unfold source_by in rw (same j x b i)
