-- Laws of layers along a centre path: the walk's turns, what settling leaves true of every layer, and how prices go from layer to layer.
-- Assumes nothing.
use Rattle.std.proofs.Math.Path.{◌≡◌, refl}
use Rattle.std.proofs.Common.{◌∙◌, inl, inr, arith}
use Rattle.std.specs.Prelude.{◌⊎◌, Bool, ℕ, suc, ◌+◌, ◌*◌, ◌≤◌, ◌<◌, length}
use Rattle.std.proofs.Math.Bool.{true, false}
use mathlib.Core.List.{List, [], ◌∷◌, ◌++◌}
use Rattle.std.proofs.Math.ListN.{get_or}
use Rattle.loops.specs.Count.Laws.{and_in, all_in}
use Rattle.task.specs.declared.Task.{Task}
use Rattle.task.specs.Meaning.{initial, factor, condition, cost}
use Rattle.task.specs.Factors.{number, states, all_states, to}
use Rattle.task.specs.Centre.{centre, centre_meets}
use Rattle.task.specs.Valid.{dearest, Valid}
use Rattle.leaf.specs.Price.{mark}
use Rattle.layer.specs.Layer.{LeafWalk, start_leaf, pass_leaf, leaf_part, next_centre, applies_to}
use Rattle.layer.specs.Layer.Leaf.{leaf_below, leaf_closed, leaf_real, leaf_bound, start_leaf_length, start_leaf_cases, start_leaf_cap, start_leaf_at, pass_leaf_length, pass_leaf_cap, pass_leaf_hit, pass_leaf_from, passes_in}
use Rattle.layer.specs.Layer.Laws.{first_length, part_first, next_length, part_next}
use Rattle.price.specs.Path.{Layer, first_layer, next_layer, ends, stuck, walk}
use Rattle.price.specs.Ways.{centre_along, Step}

-- ---- walk

module _ (t : Task) where
  -- a walk that ends: its first action applies, and it ends behind that
  pub walk_on : (l : Layer) (a : ℕ) (p : List ℕ) {m : Layer} → walk t l (a ∷ p) ≡ ends m
      → (applies_to t l.spot l.prices a ≡ true) × (walk t (next_layer t a l) p ≡ ends m)
  unfolding walk
  walk_on l a p {m} e = go (applies_to t l.spot l.prices a) refl
    where
      go : (b : Bool) → applies_to t l.spot l.prices a ≡ b → (b ≡ true) × (walk t (next_layer t a l) p ≡ ends m)
      go true q = (refl, rw (q, walk) at e)
      go false q = let f : stuck ≡ ends m = rw (q, walk) at e in let z : ◌≡◌ {A = ℕ} 0 1 = cc in absurd (omega arith)

  -- an action that applies, and a walk behind it
  pub walk_next : (l : Layer) (a : ℕ) (p : List ℕ) → applies_to t l.spot l.prices a ≡ true → walk t l (a ∷ p) ≡ walk t (next_layer t a l) p
  unfolding walk
  walk_next l a p e = rw (e, walk)

  -- a walk along two paths
  pub walk_append : (p q : List ℕ) (l : Layer) {m : Layer} → walk t l p ≡ ends m → walk t l (p ++ q) ≡ walk t m q
  unfolding walk
  walk_append [] q l {m} e = let f : l ≡ m = cc in rw f
  walk_append (a ∷ p) q l e =
      let u = walk_on l a p e in
      walk_next l a (p ++ q) u.0 ∙ walk_append p q (next_layer t a l) u.1

  -- the centre state where it ends
  pub walk_spot : (p : List ℕ) (l : Layer) {m : Layer} → walk t l p ≡ ends m → m.spot ≡ centre_along t l.spot p
  unfolding walk centre_along next_layer
  walk_spot [] l {m} e = let f : l ≡ m = cc in rw f
  walk_spot (a ∷ p) l e = walk_spot p (next_layer t a l) (walk_on l a p e).1

-- ---- prices

-- the price of state x of the leaf behind i leaves in a layer
abbrev pub price : Task → Layer → ℕ → ℕ → ℕ
price t l i x = get_or (leaf_part t i l.prices) x mark

-- what settling leaves true of a layer: there is a price for every leaf state, and no enabled leaf action leads to a state at less than its price
pub record Settled (t : Task) (l : Layer) : Type 0 where
  pub full : length l.prices ≡ all_states t
  pub closed : (i : ℕ) → i < t.leaves → (a x y : ℕ) → x < states t (suc i) → Step t (suc i) l.spot a x y → price t l i y ≤ price t l i x + cost t a

-- no price below the mark is above B
abbrev pub Small : Task → ℕ → Layer → Type 0
Small t B l = (i : ℕ) → i < t.leaves → (x : ℕ) → price t l i x < mark → price t l i x ≤ B

-- by how much prices rise in a layer at most: 256 states in a leaf, and for each the dearest action
abbrev pub rise : ℕ
rise = 256 * dearest

-- where a price of the layer behind action a comes from: a state that the action takes through, and a walk
pub record Came (t : Task) (a : ℕ) (l : Layer) (i z : ℕ) : Type 0 where
  pub source : ℕ
  pub target : ℕ
  pub toll : ℕ
  pub takes : to t (suc i) a source ≡ suc target
  pub walked : LeafWalk t (suc i) (next_centre t a l.spot) target z toll
  pub total : price t l i source + toll ≡ price t (next_layer t a l) i z

module _ (t : Task) (ok : Valid t) where
  -- ---- the first layer

  -- it is settled
  pub first_settled : Settled t (first_layer t)
  first_settled =
      record {
        full = first_length t;
        closed = λ i l a x y h s. rw (part_first t i l)
            (leaf_closed t ok (suc i) (centre t (initial t)) (start_leaf t (suc i)) (start_leaf_length t (suc i)) (start_leaf_cap t (suc i)) x a y h s.known s.own s.enabled s.takes);
      }

  -- no price below the mark is above the first rise
  pub first_small : Small t rise (first_layer t)
  first_small i l x h =
      let e = part_first t i l in
      rw e (leaf_bound t ok i (centre t (initial t)) 0 (start_leaf t (suc i)) l (start_leaf_length t (suc i)) low x (rw e at h))
    where
      low : (u : ℕ) → get_or (start_leaf t (suc i)) u mark < mark → get_or (start_leaf t (suc i)) u mark ≤ 0
      low u g = go (start_leaf_cases t (suc i) u)
        where
          go : (get_or (start_leaf t (suc i)) u mark ≡ mark) ⊎ ((u ≡ number t (suc i) (initial t)) × (get_or (start_leaf t (suc i)) u mark ≡ 0)) → get_or (start_leaf t (suc i)) u mark ≤ 0
          go (inl e) = omega arith
          go (inr e) = omega arith

  -- a leaf's initial state has price 0
  pub first_at : (i : ℕ) → i < t.leaves → price t (first_layer t) i (number t (suc i) (initial t)) ≡ 0
  first_at i l = rw (part_first t i l) (omega (arith, leaf_below t (suc i) (centre t (initial t)) (start_leaf t (suc i)) (number t (suc i) (initial t)), start_leaf_at t (suc i) ok))

  -- a price of the first layer below the mark: a walk from the initial state at that cost
  pub first_real : (i : ℕ) → i < t.leaves → (y : ℕ) → price t (first_layer t) i y < mark
      → LeafWalk t (suc i) (centre t (initial t)) (number t (suc i) (initial t)) y (price t (first_layer t) i y)
  first_real i l y h =
      let e = part_first t i l in
      let (x, w, g, r, q) = leaf_real t (suc i) (centre t (initial t)) (start_leaf t (suc i)) y (rw e at h) in
      rw (e, ← q) (go x w g r (start_leaf_cases t (suc i) x))
    where
      go : (x w : ℕ) → get_or (start_leaf t (suc i)) x mark < mark → LeafWalk t (suc i) (centre t (initial t)) x y w
          → (get_or (start_leaf t (suc i)) x mark ≡ mark) ⊎ ((x ≡ number t (suc i) (initial t)) × (get_or (start_leaf t (suc i)) x mark ≡ 0))
          → LeafWalk t (suc i) (centre t (initial t)) (number t (suc i) (initial t)) y (get_or (start_leaf t (suc i)) x mark + w)
      go x w g r (inl e) = absurd (omega arith)
      go x w g r (inr (e, f)) = let k : get_or (start_leaf t (suc i)) x mark + w ≡ w = omega arith in rw (k, ← e) r

  -- ---- the next layer

  module _ (a : ℕ) (l : Layer) where
    -- it is settled
    pub next_settled : Settled t (next_layer t a l)
    unfolding next_layer
    next_settled =
        record {
          full = next_length t (next_centre t a l.spot) a l.prices;
          closed = λ i m b x y h s. rw (part_next t (next_centre t a l.spot) a l.prices i m)
              (leaf_closed t ok (suc i) (next_centre t a l.spot) (pass_leaf t (suc i) a (leaf_part t i l.prices)) (pass_leaf_length t (suc i) a _) (pass_leaf_cap t (suc i) a _) x b y h
              s.known s.own s.enabled s.takes);
        }

    -- its prices are a rise above those before it at most
    pub next_small : (B : ℕ) → Small t B l → Small t (B + rise) (next_layer t a l)
    unfolding next_layer
    next_small B b i m x h =
        let e = part_next t (next_centre t a l.spot) a l.prices i m in
        rw e (leaf_bound t ok i (next_centre t a l.spot) B (pass_leaf t (suc i) a (leaf_part t i l.prices)) m (pass_leaf_length t (suc i) a _) low x (rw e at h))
      where
        low : (u : ℕ) → get_or (pass_leaf t (suc i) a (leaf_part t i l.prices)) u mark < mark → get_or (pass_leaf t (suc i) a (leaf_part t i l.prices)) u mark ≤ B
        low u g =
            let (y, k, e, q) = pass_leaf_from t (suc i) a (leaf_part t i l.prices) u g in
            rw q (b i m y (rw q at g))

    -- what the action makes of a state has the state's price at most
    pub next_hit : (i : ℕ) → i < t.leaves → (x y : ℕ) → a < t.actions → x < states t (suc i) → to t (suc i) a x ≡ suc y → price t (next_layer t a l) i y ≤ price t l i x
    unfolding next_layer
    next_hit i m x y k h e =
        rw (part_next t (next_centre t a l.spot) a l.prices i m)
        (omega (arith, leaf_below t (suc i) (next_centre t a l.spot) (pass_leaf t (suc i) a (leaf_part t i l.prices)) y, pass_leaf_hit t (suc i) a (leaf_part t i l.prices) ok x y k h e))

    -- a price of the next layer below the mark comes from a state that the action takes through
    pub next_real : (i : ℕ) → i < t.leaves → (z : ℕ) → price t (next_layer t a l) i z < mark → Came t a l i z
    unfolding next_layer
    next_real i m z h =
        let e = part_next t (next_centre t a l.spot) a l.prices i m in
        let (y, w, g, r, q) = leaf_real t (suc i) (next_centre t a l.spot) (pass_leaf t (suc i) a (leaf_part t i l.prices)) z (rw e at h) in
        let (x, k, f, u) = pass_leaf_from t (suc i) a (leaf_part t i l.prices) y g in
        record { source = x; target = y; toll = w; takes = f; walked = r; total = rw (e, ← u) q }

  -- an action whose centre conditions hold, and that takes a priced state of each leaf somewhere, applies
  pub applies_priced : (l : Layer) (a : ℕ) → centre_meets (factor t) (condition t a) l.spot ≡ true
      → ((i : ℕ) → i < t.leaves → (x : ℕ) × (y : ℕ) × (x < states t (suc i)) × (price t l i x < mark) × (to t (suc i) a x ≡ suc y))
      → applies_to t l.spot l.prices a ≡ true
  unfolding applies_to
  applies_priced l a c w =
      and_in c (all_in t.leaves _ (λ i m. let (x, y, h, p, e) = w i m in passes_in t (suc i) a (leaf_part t i l.prices) x y h p e))
