-- Laws of depths: every state with a price has one, a state of depth 0 has the price that it began with, and a state of another depth has a
-- source of depth one less at the right price. Assumes nothing.
use Rattle.std.specs.Prelude.{◌≡◌, refl, ◌⊎◌, Bool, true, false, cond, ◌&&◌, List, ltb, eqb, length}
use Rattle.std.proofs.Common.{◌∙◌, inl, inr, arith}
use Prim.Native.Nat.{ℕ, zero, suc, ◌+◌, ◌≤◌, ◌<◌}
use Rattle.std.proofs.Math.Decide.{dec_lt}
use Rattle.std.proofs.Math.ListN.{get_or, get_or-eq_default}
use borrow.Author.Tests.{ltb-true, lt-ltb, eqb-true, eq-eqb}
use Rattle.loops.specs.Count.{list}
use Rattle.loops.specs.Count.Laws.{and_in, and_out, list_length}
use Rattle.task.specs.declared.Task.{Task}
use Rattle.task.specs.declared.Centre.{Centre}
use Rattle.task.specs.Meaning.{cost}
use Rattle.task.specs.Factors.{states, to}
use Rattle.task.specs.Valid.{Valid}
use Rattle.task.specs.Star.{to_in}
use Rattle.leaf.specs.Price.{mark}
use Rattle.leaf.specs.Settle.{settled}
use Rattle.leaf.specs.Settle.Steps.{price_in_lem}
use Rattle.leaf.specs.Settle.Walks.{Walk, stand, step, Ranged, Capped, Closed}
use Rattle.leaf.specs.Settle.Laws.{settled_below, settled_real, settled_bound, settled_closed, settled_least, walk_in}
use Rattle.layer.specs.Layer.{LeafWalk, enabled, settle_leaf}
use Rattle.layer.specs.Layer.Leaf.{enabled_at, enabled_find, leaf_length, leaf_real, leaf_walk_in, leaf_closed, leaf_least}
use Rattle.search.specs.Node.Laws.{list_entry}
use Rattle.search.specs.Plan.{tight, tight_to, depths}

-- ---- tight

module _ (t : Task) (l : ℕ) (P : List ℕ) (a x y : ℕ) where
  -- an action that leads from x to y at the right price is tight
  pub tight_in : to t l a x ≡ suc y → get_or P x mark + cost t a ≡ get_or P y mark → tight t l P a x y ≡ true
  unfolding tight
  tight_in e p = and_in (eq-eqb (to t l a x) (suc y) e) (eq-eqb (get_or P x mark + cost t a) (get_or P y mark) p)

  -- and back
  pub tight_out : tight t l P a x y ≡ true → (to t l a x ≡ suc y) × (get_or P x mark + cost t a ≡ get_or P y mark)
  unfolding tight
  tight_out q =
      let u = and_out (eqb (to t l a x) (suc y)) _ q in
      (eqb-true (to t l a x) (suc y) u.0, eqb-true (get_or P x mark + cost t a) (get_or P y mark) u.1)

-- what a tight action makes of a state
pub tight_to_in : (t : Task) (l : ℕ) (P : List ℕ) (a x y : ℕ) → to t l a x ≡ suc y → get_or P x mark + cost t a ≡ get_or P y mark → tight_to t l P a x ≡ suc y
unfolding tight_to
tight_to_in t l P a x y e p = rw (e, tight_to, tight_in t l P a x y e p)

-- and back
pub tight_to_out : (t : Task) (l : ℕ) (P : List ℕ) (a x y : ℕ) → tight_to t l P a x ≡ suc y → (to t l a x ≡ suc y) × (get_or P x mark + cost t a ≡ get_or P y mark)
unfolding tight_to
tight_to_out t l P a x y q = go (to t l a x) refl
  where
    test : (z : ℕ) → to t l a x ≡ suc z → (b : Bool) → tight t l P a x z ≡ b → cond b (suc z) 0 ≡ suc y → tight t l P a x y ≡ true
    test z e true f g = let h : z ≡ y = omega arith in rw h at f
    test z e false f g = absurd (omega arith)

    go : (z : ℕ) → to t l a x ≡ z → (to t l a x ≡ suc y) × (get_or P x mark + cost t a ≡ get_or P y mark)
    go zero e = let f : 0 ≡ suc y = rw (e, tight_to) at q in absurd (omega arith)
    go (suc z) e = let f : cond (tight t l P a x z) (suc z) 0 ≡ suc y = rw (e, tight_to) at q in tight_out t l P a x y (test z e (tight t l P a x z) refl f)

-- ---- where depths begin

-- depth 0 at the states that have kept the price that they began with
abbrev pub depth0 : List ℕ → List ℕ → List ℕ
depth0 B P = list (length P) (λ x. cond (ltb (get_or P x mark) mark && eqb (get_or B x mark) (get_or P x mark)) 0 mark)

module _ (B P : List ℕ) where
  -- a state that has kept its price
  depth0_in : (x : ℕ) → get_or P x mark < mark → get_or B x mark ≡ get_or P x mark → get_or (depth0 B P) x mark ≡ 0
  depth0_in x h e =
      list_entry (length P) _ x mark (price_in_lem mark P x h) ∙ rw (lt-ltb (get_or P x mark) mark h, eq-eqb (get_or B x mark) (get_or P x mark) e)

  -- a state is at depth 0 and has kept its price, or it is at the mark
  depth0_cases : (x : ℕ)
      → ((get_or (depth0 B P) x mark ≡ 0) × (get_or P x mark < mark) × (get_or B x mark ≡ get_or P x mark)) ⊎ (get_or (depth0 B P) x mark ≡ mark)
  depth0_cases x = go (dec_lt x (length P))
    where
      test : (b : Bool) → (ltb (get_or P x mark) mark && eqb (get_or B x mark) (get_or P x mark)) ≡ b → {q : ℕ} → q ≡ cond b 0 mark
          → ((q ≡ 0) × (get_or P x mark < mark) × (get_or B x mark ≡ get_or P x mark)) ⊎ (q ≡ mark)
      test true e f =
          let u = and_out (ltb (get_or P x mark) mark) _ e in
          inl (f, ltb-true (get_or P x mark) mark u.0, eqb-true (get_or B x mark) (get_or P x mark) u.1)
      test false e f = inr f

      go : Dec (x < length P) → ((get_or (depth0 B P) x mark ≡ 0) × (get_or P x mark < mark) × (get_or B x mark ≡ get_or P x mark)) ⊎ (get_or (depth0 B P) x mark ≡ mark)
      go (yes h) = test _ refl (list_entry (length P) _ x mark h)
      go (no h) = inr (get_or-eq_default (depth0 B P) mark (rw list_length (omega arith)))

  -- what is not at the mark has kept its price
  pub depth0_out : (x : ℕ) → get_or (depth0 B P) x mark < mark → (get_or (depth0 B P) x mark ≡ 0) × (get_or P x mark < mark) × (get_or B x mark ≡ get_or P x mark)
  depth0_out x h = go (depth0_cases x)
    where
      go : ((get_or (depth0 B P) x mark ≡ 0) × (get_or P x mark < mark) × (get_or B x mark ≡ get_or P x mark)) ⊎ (get_or (depth0 B P) x mark ≡ mark)
          → (get_or (depth0 B P) x mark ≡ 0) × (get_or P x mark < mark) × (get_or B x mark ≡ get_or P x mark)
      go (inl u) = u
      go (inr e) = absurd (omega arith)

  -- no depth is above the mark
  pub depth0_cap : Capped mark (depth0 B P)
  depth0_cap x = go (depth0_cases x)
    where
      go : {q : ℕ} → ((q ≡ 0) × (get_or P x mark < mark) × (get_or B x mark ≡ get_or P x mark)) ⊎ (q ≡ mark) → q ≤ mark
      go (inl u) = omega (arith, u.0)
      go (inr e) = omega arith

  -- settled by steps that cost 1, a depth below the mark is no more than there are states
  pub depth0_bound : (m : ℕ) (to : ℕ → ℕ → ℕ) (x : ℕ) → get_or (settled mark m (λ j. 1) to (depth0 B P)) x mark < mark
      → get_or (settled mark m (λ j. 1) to (depth0 B P)) x mark ≤ length P
  depth0_bound m to x h =
      let r = settled_bound mark m (λ j. 1) to 0 1 (depth0 B P) (λ j k. omega arith) (λ u k. omega (arith, (depth0_out u k).0)) x h in
      let full : length (depth0 B P) ≡ length P = list_length (length P) _ in
      omega arith

-- ---- walks of steps that cost 1

-- the last step of a walk
pub record Ended (m : ℕ) (to : ℕ → ℕ → ℕ) (x y w : ℕ) : Type 0 where
  pub act : ℕ
  pub source : ℕ
  pub before : ℕ
  pub walk : Walk m (λ j. 1) to x source before
  pub below : act < m
  pub leads : to act source ≡ suc y
  pub count : w ≡ before + 1

-- a walk stands still, or has a last step
walk_cases : {m : ℕ} {to : ℕ → ℕ → ℕ} {x y w : ℕ} → Walk m (λ j. 1) to x y w → ((y ≡ x) × (w ≡ 0)) ⊎ Ended m to x y w
walk_cases stand = inl (refl, refl)
walk_cases (step {y} {w} a r h e) = inr (record { act = a; source = y; before = w; walk = r; below = h; leads = e; count = refl })

-- ---- the depths of a settled layer

-- what the tight edges make of a state: those of the settled prices, by the enabled actions
abbrev pub edges : Task → ℕ → Centre → List ℕ → ℕ → ℕ → ℕ
edges t l c B j x = tight_to t l (settle_leaf t l c B) (get_or (enabled t l c) j 0) x

-- the depths of a layer of leaf l with centre c that began with prices B
abbrev pub depths_in : Task → ℕ → Centre → List ℕ → List ℕ
depths_in t l c B = depths t l (enabled t l c) B (settle_leaf t l c B)

-- a source of state y: a state of depth k from which an enabled action leads to y at the right price
pub record Tight (t : Task) (l : ℕ) (c : Centre) (B : List ℕ) (y k : ℕ) : Type 0 where
  pub entry : ℕ
  pub source : ℕ
  pub below : entry < length (enabled t l c)
  pub inside : source < states t l
  pub takes : to t l (get_or (enabled t l c) entry 0) source ≡ suc y
  pub right : get_or (settle_leaf t l c B) source mark + cost t (get_or (enabled t l c) entry 0) ≡ get_or (settle_leaf t l c B) y mark
  pub depth : get_or (depths_in t l c B) source mark ≡ k

module _ (t : Task) (ok : Valid t) (i : ℕ) (m : i < t.leaves) (c : Centre) (B : List ℕ) (len : length B ≡ states t (suc i)) (cap : Capped mark B) where
  -- there is a price for each state
  full : length (depth0 B (settle_leaf t (suc i) c B)) ≡ states t (suc i)
  full = list_length (length (settle_leaf t (suc i) c B)) _ ∙ leaf_length t (suc i) c B ∙ len

  -- tight edges stay in range
  edges_ranged : Ranged (states t (suc i)) (length (enabled t (suc i) c)) (edges t (suc i) c B)
  edges_ranged j x y h k e = to_in t ok (suc i) _ x y (enabled_at t (suc i) c j h).0 (tight_to_out t (suc i) (settle_leaf t (suc i) c B) _ x y e).0

  -- a tight edge leads one deeper at most
  pub depth_step : (x j y : ℕ) → x < states t (suc i) → j < length (enabled t (suc i) c) → edges t (suc i) c B j x ≡ suc y
      → get_or (depths_in t (suc i) c B) y mark ≤ get_or (depths_in t (suc i) c B) x mark + 1
  unfolding depths Closed
  depth_step x j y h k e =
      settled_closed mark (states t (suc i)) (length (enabled t (suc i) c)) (λ j. 1) (edges t (suc i) c B) edges_ranged (depth0 B (settle_leaf t (suc i) c B)) full (depth0_cap B (settle_leaf t (suc i) c B)) x j y h k e

  -- a depth below the mark is no more than the leaf has states
  pub depth_bound : (x : ℕ) → get_or (depths_in t (suc i) c B) x mark < mark → get_or (depths_in t (suc i) c B) x mark ≤ states t (suc i)
  unfolding depths
  depth_bound x h =
      let r = depth0_bound B (settle_leaf t (suc i) c B) (length (enabled t (suc i) c)) (edges t (suc i) c B) x h in
      omega (arith, leaf_length t (suc i) c B, len)

  -- a state that has kept its price has depth 0
  pub depth_kept : (x : ℕ) → get_or (settle_leaf t (suc i) c B) x mark < mark → get_or B x mark ≡ get_or (settle_leaf t (suc i) c B) x mark → get_or (depths_in t (suc i) c B) x mark ≡ 0
  unfolding depths
  depth_kept x h e =
      omega (arith, settled_below mark (length (enabled t (suc i) c)) (λ j. 1) (edges t (suc i) c B) (depth0 B (settle_leaf t (suc i) c B)) x, depth0_in B (settle_leaf t (suc i) c B) x h e)

  -- where a walk gives a state its price, the state has a depth
  walk_depth : {x y w : ℕ} → x < states t (suc i) → LeafWalk t (suc i) c x y w → get_or B x mark + w ≡ get_or (settle_leaf t (suc i) c B) y mark
      → get_or (settle_leaf t (suc i) c B) y mark < mark → get_or (depths_in t (suc i) c B) y mark < mark
  walk_depth {x} h LeafWalk.stay e l = omega (arith, depth_kept x (omega arith) (omega arith))
  walk_depth {x} h (LeafWalk.go {y} {z} {w} a r la el ec f k) e l =
      let hy = leaf_walk_in t ok h r in
      let p = leaf_least t ok (suc i) c B len cap h r in
      let q = leaf_closed t ok (suc i) c B len cap y a z hy la el ec f in
      let g : get_or B x mark + w ≡ get_or (settle_leaf t (suc i) c B) y mark = omega arith in
      let d = walk_depth h r g (omega arith) in
      let (j, b, v) = enabled_find t (suc i) c a la el ec in
      let edge : edges t (suc i) c B j y ≡ suc z = rw v (tight_to_in t (suc i) (settle_leaf t (suc i) c B) a y z f (omega arith)) in
      omega (arith, depth_step y j z hy b edge, depth_bound y d, ok.whole.few_states i m)

  -- every state with a price below the mark has a depth below the mark
  pub depth_all : (y : ℕ) → get_or (settle_leaf t (suc i) c B) y mark < mark → get_or (depths_in t (suc i) c B) y mark < mark
  depth_all y h =
      let (x, w, g, r, e) = leaf_real t (suc i) c B y h in
      walk_depth (omega (arith, price_in_lem mark B x g, len)) r e h

  -- a state of depth 0 has the price that it began with
  pub depth_zero : (y : ℕ) → get_or (depths_in t (suc i) c B) y mark ≡ 0
      → (get_or (settle_leaf t (suc i) c B) y mark < mark) × (get_or B y mark ≡ get_or (settle_leaf t (suc i) c B) y mark)
  unfolding depths
  depth_zero y e =
      let r = settled_real mark (length (enabled t (suc i) c)) (λ j. 1) (edges t (suc i) c B) (depth0 B (settle_leaf t (suc i) c B)) y (omega arith) in
      go r.from r.toll (omega (arith, r.sum)) (walk_cases r.walk)
    where
      go : (x w : ℕ) → get_or (depth0 B (settle_leaf t (suc i) c B)) x mark + w ≡ 0 → ((y ≡ x) × (w ≡ 0)) ⊎ Ended (length (enabled t (suc i) c)) (edges t (suc i) c B) x y w
          → (get_or (settle_leaf t (suc i) c B) y mark < mark) × (get_or B y mark ≡ get_or (settle_leaf t (suc i) c B) y mark)
      go x w f (inl (q, g)) =
          let u = depth0_out B (settle_leaf t (suc i) c B) x (omega arith) in
          rw q (u.1, u.2)
      go x w f (inr d) = absurd (omega (arith, d.count))

  -- a state of another depth has a source of depth one less
  pub depth_suc : (y k : ℕ) → get_or (depths_in t (suc i) c B) y mark ≡ suc k → suc k < mark → Tight t (suc i) c B y k
  unfolding depths
  depth_suc y k e h =
      let r = settled_real mark (length (enabled t (suc i) c)) (λ j. 1) (edges t (suc i) c B) (depth0 B (settle_leaf t (suc i) c B)) y (omega arith) in
      go r.from r.toll (omega (arith, r.sum)) (walk_cases r.walk)
    where
      go : (x w : ℕ) → get_or (depth0 B (settle_leaf t (suc i) c B)) x mark + w ≡ suc k → ((y ≡ x) × (w ≡ 0)) ⊎ Ended (length (enabled t (suc i) c)) (edges t (suc i) c B) x y w
          → Tight t (suc i) c B y k
      go x w f (inl (q, g)) = let u = depth0_out B (settle_leaf t (suc i) c B) x (omega arith) in absurd (omega (arith, u.0))
      go x w f (inr d) =
          let u = depth0_out B (settle_leaf t (suc i) c B) x (omega arith) in
          let hx : x < states t (suc i) = omega (arith, price_in_lem mark (depth0 B (settle_leaf t (suc i) c B)) x (omega (arith, u.0)), full) in
          let hz = walk_in (states t (suc i)) (length (enabled t (suc i) c)) (λ j. 1) (edges t (suc i) c B) edges_ranged hx d.walk in
          let low =
          settled_least mark (states t (suc i)) (length (enabled t (suc i) c)) (λ j. 1) (edges t (suc i) c B) edges_ranged (depth0 B (settle_leaf t (suc i) c B)) full (depth0_cap B (settle_leaf t (suc i) c B)) hx d.walk in
          let near = depth_step d.source d.act y hz d.below d.leads in
          let v = tight_to_out t (suc i) (settle_leaf t (suc i) c B) _ d.source y d.leads in
          record {
            entry = d.act;
            source = d.source;
            below = d.below;
            inside = hz;
            takes = v.0;
            right = v.1;
            depth = omega (arith, d.count, u.0);
          }
