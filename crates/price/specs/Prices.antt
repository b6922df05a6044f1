-- Prices along a centre path are the least costs of the leaves' ways: a price below the mark is the cost of a way, no way costs less than the
-- price where it ends, and along a path that is not too long every way ends at a price below the mark. Assumes nothing.
use Rattle.std.specs.Prelude.{◌≡◌, true, ℕ, suc, ◌+◌, ◌*◌, ◌≤◌, ◌<◌, length, get_or}
use Rattle.std.proofs.Math.Path.{refl}
use Rattle.std.proofs.Common.{sym, ap, ◌∙◌}
use mathlib.Core.List.{List, [], ◌∷◌}
use native.Mathlib.Omega.{arith}
use Rattle.loops.specs.Count.Laws.{and_out}
use Rattle.task.specs.declared.Task.{Task}
use Rattle.task.specs.declared.Centre.{Centre}
use Rattle.task.specs.Meaning.{factor, condition, cost}
use Rattle.task.specs.Factors.{centre_action, states, to}
use Rattle.task.specs.Centre.{centre_meets}
use Rattle.task.specs.Valid.{Valid}
use Rattle.task.specs.Star.{number_lt, to_in}
use Rattle.leaf.specs.Price.{mark}
use Rattle.layer.specs.Layer.{LeafWalk, next_centre, applies_to}
use Rattle.price.specs.Path.{Layer, first_layer, next_layer, ends, walk}
use Rattle.price.specs.Path.Laws.{walk_on, walk_next, price, Settled, Small, rise, first_settled, first_small, first_at, first_real, next_settled, next_small, next_hit, next_real, applies_priced}
use Rattle.price.specs.Ways.{Open, stop, next, Way, done, move, cross, WayTo}
use Rattle.price.specs.Ways.Laws.{way_in, way_head}

-- every entry of the path is a centre action of the task
abbrev pub Centred : Task → List ℕ → Type 0
Centred t path = (k : ℕ) → k < length path → (get_or path k 0 < t.actions) × (centre_action t (get_or path k 0) ≡ true)

-- ---- a price below the mark is the cost of a way

module _ (t : Task) where
  -- a walk inside the first layer, and a way behind it
  pub way_walk : (l : ℕ) {c : Centre} {x y z w k : ℕ} {p : List ℕ} (j : ℕ) → LeafWalk t l c x y w → Way t l c y p z k → j ≡ w + k → Way t l c x p z j
  way_walk l {k} j LeafWalk.stay v e = let f : j ≡ k = omega arith in rw f v
  way_walk l {k} j (LeafWalk.go a r known own enabled takes f) v e =
      way_walk l j r (move {k = cost t a + k} a (record { known = known; own = own; enabled = enabled; takes = takes }) v refl) (omega arith)

-- a way from a state of layer l, whose price and the way's cost make k
pub record Source (t : Task) (l : Layer) (p : List ℕ) (i z k : ℕ) : Type 0 where
  pub from : ℕ
  pub toll : ℕ
  pub way : Way t (suc i) l.spot from p z toll
  pub total : price t l i from + toll ≡ k

module _ (t : Task) (ok : Valid t) where
  -- a price below the mark where a walk ends: a way from a state of the layer where it begins
  pub price_source : (i : ℕ) → i < t.leaves → (p : List ℕ) → Centred t p → (l m : Layer) → walk t l p ≡ ends m → (z : ℕ) → price t m i z < mark
      → Source t l p i z (price t m i z)
  unfolding walk next_layer
  price_source i b [] c l m e z h = let f : l ≡ m = cc in record { from = z; toll = 0; way = done; total = rw f (omega arith) }
  price_source i b (a ∷ p) c l m e z h =
      let d = price_source i b p (λ k n. c (suc k) (omega arith)) (next_layer t a l) m (walk_on t l a p e).1 z h in
      let s = next_real t ok a l i b d.from (omega (arith, d.total)) in
      record {
        from = s.source;
        toll = s.toll + d.toll;
        way = cross a (c 0 (omega arith)).0 s.takes (way_walk t (suc i) (s.toll + d.toll) s.walked d.way refl);
        total = omega (arith, s.total, d.total);
      }

  -- a price below the mark behind a path is the cost of a way
  pub price_way : (i : ℕ) → i < t.leaves → (p : List ℕ) → Centred t p → (m : Layer) → walk t (first_layer t) p ≡ ends m → (z : ℕ) → price t m i z < mark
      → WayTo t i p z (price t m i z)
  price_way i b p c m e z h =
      let d = price_source i b p c (first_layer t) m e z h in
      way_walk t (suc i) (price t m i z) (first_real t ok i b d.from (omega (arith, d.total))) d.way (sym d.total)

  -- ---- no way costs less than the price where it ends

  -- a way from a state of a layer, along a walk
  pub way_price : (i : ℕ) → i < t.leaves → {c : Centre} {x z k : ℕ} {p : List ℕ} (l m : Layer) → Settled t l → c ≡ l.spot → walk t l p ≡ ends m → x < states t (suc i)
      → Way t (suc i) c x p z k → price t m i z ≤ price t l i x + k
  unfolding walk next_layer
  way_price i b l m s q e h done = let f : l ≡ m = cc in rw f (omega arith)
  way_price i b l m s q e h (move {x} {y} a st r f) =
      omega (arith, s.closed i b a x y h (rw q at st), way_price i b l m s q e (to_in t ok (suc i) a x y st.known st.takes) r)
  way_price i b l m s q e h (cross {x} {y} {p} a n f r) =
      omega (
        arith,
        next_hit t ok a l i b x y n h f,
        way_price i b (next_layer t a l) m (next_settled t ok a l) (ap (λ (c : Centre). next_centre t a c) q) (walk_on t l a p e).1 (to_in t ok (suc i) a x y n f) r,
      )

  -- ---- a way from a price below the mark ends below the mark

  -- a way from a state of a layer, along a walk that is not too long for the prices there
  pub way_below : (i : ℕ) → i < t.leaves → {c : Centre} {x z k : ℕ} {p : List ℕ} (B : ℕ) (l m : Layer) → Settled t l → Small t B l → B + suc (length p) * rise ≤ mark
      → c ≡ l.spot → walk t l p ≡ ends m → x < states t (suc i) → price t l i x < mark → Way t (suc i) c x p z k → price t m i z < mark
  unfolding walk next_layer
  way_below i b B l m s sm fits q e h u done = let f : l ≡ m = cc in rw f at u
  way_below i b B l m s sm fits q e h u (move {x} {y} {p} a st r f) =
      way_below i b B l m s sm fits q e (to_in t ok (suc i) a x y st.known st.takes)
      (omega (arith, s.closed i b a x y h (rw q at st), sm i b x u, ok.fields.cost_bound a st.known)) r
  way_below i b B l m s sm fits q e h u (cross {x} {y} {p} a n f r) =
      way_below i b (B + rise) (next_layer t a l) m (next_settled t ok a l) (next_small t ok a l B sm) (omega arith)
      (ap (λ (c : Centre). next_centre t a c) q) (walk_on t l a p e).1 (to_in t ok (suc i) a x y n f) (omega (arith, next_hit t ok a l i b x y n h f)) r

  -- a way along a path: no cheaper than the price where it ends
  pub way_to_price : (i : ℕ) → i < t.leaves → {z k : ℕ} {p : List ℕ} (m : Layer) → walk t (first_layer t) p ≡ ends m → WayTo t i p z k → price t m i z ≤ k
  way_to_price i b m e w =
      omega (
        arith,
        first_at t ok i b,
        way_price i b (first_layer t) m (first_settled t ok) refl e (number_lt t (suc i) ok.fields.initial_inside) w,
      )

  -- and it ends below the mark, along a path of at most 4,095 actions
  pub way_to_below : (i : ℕ) → i < t.leaves → {z k : ℕ} {p : List ℕ} (m : Layer) → length p ≤ 4095 → walk t (first_layer t) p ≡ ends m → WayTo t i p z k
      → price t m i z < mark
  way_to_below i b m n e w =
      way_below i b rise (first_layer t) m (first_settled t ok) (first_small t ok) (omega arith) refl e (number_lt t (suc i) ok.fields.initial_inside)
      (omega (arith, first_at t ok i b)) w

  -- ---- every layer of a walk

  -- what settling leaves true holds where a walk ends
  pub walk_settled : (p : List ℕ) (l m : Layer) → Settled t l → walk t l p ≡ ends m → Settled t m
  unfolding walk
  walk_settled [] l m s e = let f : l ≡ m = cc in rw f at s
  walk_settled (a ∷ p) l m s e = walk_settled p (next_layer t a l) m (next_settled t ok a l) (walk_on t l a p e).1

  -- each layer adds a rise at most
  pub walk_small : (p : List ℕ) (B : ℕ) (l m : Layer) → Small t B l → walk t l p ≡ ends m → Small t (B + length p * rise) m
  unfolding walk
  walk_small [] B l m s e i b x h = let f : l ≡ m = cc in omega (arith, rw f at s i b x h)
  walk_small (a ∷ p) B l m s e i b x h = omega (arith, walk_small p (B + rise) (next_layer t a l) m (next_small t ok a l B s) (walk_on t l a p e).1 i b x h)

  -- behind k actions no price below the mark is above k + 1 rises
  pub path_small : (p : List ℕ) (m : Layer) → walk t (first_layer t) p ≡ ends m → Small t (suc (length p) * rise) m
  path_small p m e i b x h = omega (arith, walk_small p rise (first_layer t) m (first_small t ok) e i b x h)

-- ---- where a walk ends and where it is stuck

-- a way of the leaf behind i leaves along the path, from a state of layer l with a price below the mark
pub record Going (t : Task) (l : Layer) (c : Centre) (p : List ℕ) (i : ℕ) : Type 0 where
  pub from : ℕ
  pub inside : from < states t (suc i)
  pub below : price t l i from < mark
  pub end : ℕ
  pub toll : ℕ
  pub way : Way t (suc i) c from p end toll

module _ (t : Task) (ok : Valid t) where
  -- the centre conditions hold along a walk that ends
  pub walk_open : (p : List ℕ) → Centred t p → (l m : Layer) → walk t l p ≡ ends m → Open t l.spot p
  unfolding next_layer applies_to
  walk_open [] c l m e = stop
  walk_open (a ∷ p) c l m e =
      let u = walk_on t l a p e in
      let w = c 0 (omega arith) in
      next a w.0 w.1 (and_out (centre_meets (factor t) (condition t a) l.spot) _ u.0).0 (walk_open p (λ k n. c (suc k) (omega arith)) (next_layer t a l) m u.1)

  -- a way of each leaf over the path's first action
  going_next : {c : Centre} (a : ℕ) (p : List ℕ) (B : ℕ) (l : Layer) → Settled t l → Small t B l → B + rise ≤ mark → c ≡ l.spot → (i : ℕ) → i < t.leaves → Going t l c (a ∷ p) i
      → ((x : ℕ) × (y : ℕ) × (x < states t (suc i)) × (price t l i x < mark) × (to t (suc i) a x ≡ suc y)) × Going t (next_layer t a l) (next_centre t a c) p i
  unfolding walk
  going_next a p B l s sm fits q i b g =
      let d = way_head t (suc i) g.way in
      let h = way_in t (suc i) ok g.inside d.before in
      let u = way_below t ok i b B l l s sm (omega arith) q refl g.inside g.below d.before in (
        (d.source, d.target, h, u, d.takes),
        record {
          from = d.target;
          inside = to_in t ok (suc i) a d.source d.target d.known d.takes;
          below = omega (arith, next_hit t ok a l i b d.source d.target d.known h d.takes);
          end = g.end;
          toll = d.back;
          way = d.behind;
        },
      )

  -- where the centre conditions hold and each leaf has a way, the walk ends
  pub walk_ends : {c : Centre} {p : List ℕ} (B : ℕ) (l : Layer) → Settled t l → Small t B l → B + suc (length p) * rise ≤ mark → c ≡ l.spot → Open t c p
      → ((i : ℕ) → i < t.leaves → Going t l c p i) → (m : Layer) × (walk t l p ≡ ends m)
  unfolding walk next_layer
  walk_ends B l s sm fits q stop g = (l, refl)
  walk_ends B l s sm fits q (next {p} a n b e o) g =
      let u = applies_priced t ok l a (rw q at e) (λ i k. (going_next a p B l s sm (omega arith) q i k (g i k)).0) in
      let r =
      walk_ends (B + rise) (next_layer t a l) (next_settled t ok a l) (next_small t ok a l B sm) (omega arith) (ap (λ (c : Centre). next_centre t a c) q) o
      (λ i k. (going_next a p B l s sm (omega arith) q i k (g i k)).1) in
      (r.0, walk_next t l a p u ∙ r.1)
