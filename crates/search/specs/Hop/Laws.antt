-- Laws of hops: where one applies, the centre state behind it and behind two of them, and that prices pass it as they are. Assumes nothing.
use Rattle.std.specs.Prelude.{◌≡◌, ◌≢◌, ◌⊎◌, true, ◌||◌, List, ℕ, suc, ◌<◌, eqb, length, get_or}
use Rattle.std.proofs.Math.Path.{sym, ap, ap₂}
use Rattle.std.proofs.Common.{◌∙◌, inl, inr, add-one, arith, ext_get_or}
use Rattle.std.proofs.Math.Bool.{not, ◌&&◌, and-false}
use Rattle.std.proofs.Math.Decide.{ℕ_discrete}
use Rattle.std.proofs.Math.Dec.{ltb}
use borrow.Author.Tests.{eqb-true, eqb-false, ne_eqb, not-true}
use Rattle.loops.specs.Count.Laws.{or_out, and_out, all_out, all_ext, any_ext, list_length, list_at}
use Rattle.task.specs.declared.Task.{Task}
use Rattle.task.specs.declared.Centre.{Centre}
use Rattle.task.specs.Meaning.{free, factor, condition, met}
use Rattle.task.specs.Factors.{states, all_states, holds_in, to}
use Rattle.task.specs.Centre.{value_in, centre_after, centre_meets}
use Rattle.leaf.specs.Price.{mark}
use Rattle.leaf.specs.Settle.Walks.{Capped}
use Rattle.layer.specs.Layer.{settle_leaf, pass_leaf, passes, leaf_part, next_prices, applies_to, next_centre}
use Rattle.layer.specs.Layer.Leaf.{leaf_below, pass_leaf_cap}
use Rattle.layer.specs.Layer.Laws.{part_length, part_next}
use Rattle.layer.specs.Board.Laws.{joined_ext}
use Rattle.search.specs.Begin.{begin_prices, settled_prices, pass_still, parts_all}
use Rattle.search.specs.Hop.{Hop}

-- ---- centre states

-- two centre states of 32 values are the same where each value is
pub centre_ext : (c d : Centre) → length c.values ≡ 32 → length d.values ≡ 32 → ((w : ℕ) → w < 32 → value_in c w ≡ value_in d w) → c ≡ d
centre_ext c d p q h = ap {B = Centre} (λ xs. record { values = xs }) (ext_get_or 0 c.values d.values (p ∙ sym q) (λ w l. h w (omega arith)))

-- a centre state behind an action has 32 values
pub next_wide : (t : Task) (a : ℕ) (c : Centre) → length (next_centre t a c).values ≡ 32
unfolding centre_after
next_wide t a c = list_length 32 _

-- ---- prices

-- in each leaf no price is above the mark
abbrev pub Low : Task → List ℕ → Type 0
Low t P = (i : ℕ) → i < t.leaves → Capped mark (leaf_part t i P)

-- a layer behind an action is so
pub next_capped : (t : Task) (c : Centre) (a : ℕ) (P : List ℕ) → Low t (next_prices t c a P)
next_capped t c a P i l x =
    let Q = pass_leaf t (suc i) a (leaf_part t i P) in
    rw (part_next t c a P i l) (omega (arith, leaf_below t (suc i) c Q x, pass_leaf_cap t (suc i) a (leaf_part t i P) x))

-- ---- one hop

module _ (t : Task) (a v x z : ℕ) (h : Hop t a v x z) where
  -- where it applies, v is x
  pub hop_at : (c : Centre) (P : List ℕ) → applies_to t c P a ≡ true → value_in c v ≡ x
  unfolding applies_to centre_meets holds_in
  hop_at c P e = go (or_out (not (eqb (factor t v) 0)) _ (all_out 32 _ (and_out (centre_meets (factor t) (condition t a) c) _ e).0 v h.within))
    where
      here : (eqb (condition t a v) free ≡ true) ⊎ (eqb (condition t a v) (value_in c v) ≡ true) → value_in c v ≡ x
      here (inl q) = absurd (h.from_named (sym h.from ∙ eqb-true (condition t a v) free q))
      here (inr q) = sym (eqb-true (condition t a v) (value_in c v) q) ∙ h.from

      go : (not (eqb (factor t v) 0) ≡ true) ⊎ (met (condition t a v) (value_in c v) ≡ true) → value_in c v ≡ x
      go (inl q) = absurd (eqb-false (factor t v) 0 (not-true _ q) h.own)
      go (inr q) = here (or_out (eqb (condition t a v) free) _ q)

  -- behind it v is z
  pub hop_there : (c : Centre) → value_in (next_centre t a c) v ≡ z
  unfolding centre_after
  hop_there c = list_at 32 _ v h.within ∙ rw (h.own, h.into, ne_eqb z free h.into_named)

  -- and all other variables keep their values
  pub hop_else : (c : Centre) (w : ℕ) → w < 32 → w ≢ v → value_in (next_centre t a c) w ≡ value_in c w
  unfolding centre_after
  hop_else c w l n = list_at 32 _ w l ∙ rw (h.effects_free w l n, and-false (eqb (factor t w) 0))

  -- prices of a leaf pass it as they are
  hop_leaf : (i : ℕ) → i < t.leaves → (P : List ℕ) → length P ≡ states t (suc i) → Capped mark P → pass_leaf t (suc i) a P ≡ P
  unfolding pass_leaf
  hop_leaf i l P long cap = pass_still (states t (suc i)) (to t (suc i) a) P long cap (λ y k. h.stays i y l k ∙ sym (add-one y))

  -- so the layer behind it begins as the old one
  pub hop_begin : (P : List ℕ) → length P ≡ all_states t → Low t P → begin_prices t a P ≡ P
  unfolding begin_prices
  hop_begin P long low = joined_ext t.leaves _ _ (λ i l. hop_leaf i l (leaf_part t i P) (part_length t i P l long) (low i l)) ∙ parts_all t P long

  -- and is the old one, settled
  pub hop_prices : (c : Centre) (P : List ℕ) → length P ≡ all_states t → Low t P → next_prices t c a P ≡ settled_prices t c P
  unfolding next_prices settled_prices
  hop_prices c P long low =
      joined_ext t.leaves _ _ (λ i l. ap (settle_leaf t (suc i) c) (hop_leaf i l (leaf_part t i P) (part_length t i P l long) (low i l)))

-- ---- two hops from the same value

module _ (t : Task) (a d v x y z : ℕ) (h : Hop t a v x y) (k : Hop t d v x z) where
  -- they have the same conditions
  same_conditions : (w : ℕ) → w < 32 → condition t a w ≡ condition t d w
  same_conditions w l = go (ℕ_discrete w v)
    where
      go : Dec (w ≡ v) → condition t a w ≡ condition t d w
      go (yes e) = rw e (h.from ∙ sym k.from)
      go (no n) = h.conditions_free w l n ∙ sym (k.conditions_free w l n)

  -- so they hold in the same centre states
  pub hop_met : (c : Centre) → centre_meets (factor t) (condition t a) c ≡ centre_meets (factor t) (condition t d) c
  unfolding centre_meets holds_in
  hop_met c = all_ext 32 _ _ (λ w l. ap (λ p. not (eqb (factor t w) 0) || met p (value_in c w)) (same_conditions w l))

  -- the same states of a leaf pass
  hop_passes : (i : ℕ) → i < t.leaves → (P : List ℕ) → passes t (suc i) a P ≡ passes t (suc i) d P
  unfolding passes
  hop_passes i l P = any_ext (states t (suc i)) _ _ (λ s m. ap (λ r. ltb (get_or P s mark) mark && not (eqb r 0)) (h.stays i s l m ∙ sym (k.stays i s l m)))

  -- so they apply to the same nodes
  pub hop_applies : (c : Centre) (P : List ℕ) → applies_to t c P a ≡ applies_to t c P d
  unfolding applies_to
  hop_applies c P = ap₂ ◌&&◌ (hop_met c) (all_ext t.leaves _ _ (λ i l. hop_passes i l (leaf_part t i P)))

-- ---- a hop behind a hop

module _ (t : Task) (a b v x y w z : ℕ) (h : Hop t a v x y) (k : Hop t b v w z) (c : Centre) where
  -- it leads where one hop does
  pub hop_hop : (d : ℕ) → Hop t d v x z → next_centre t b (next_centre t a c) ≡ next_centre t d c
  hop_hop d m = centre_ext _ _ (next_wide t b (next_centre t a c)) (next_wide t d c) (λ u l. go u l (ℕ_discrete u v))
    where
      go : (u : ℕ) → u < 32 → Dec (u ≡ v) → value_in (next_centre t b (next_centre t a c)) u ≡ value_in (next_centre t d c) u
      go u l (yes e) = rw e (hop_there t b v w z k (next_centre t a c) ∙ sym (hop_there t d v x z m c))
      go u l (no n) = hop_else t b v w z k (next_centre t a c) u l n ∙ hop_else t a v x y h c u l n ∙ sym (hop_else t d v x z m c u l n)

  -- or back
  pub hop_back : length c.values ≡ 32 → value_in c v ≡ z → next_centre t b (next_centre t a c) ≡ c
  hop_back wide q = centre_ext _ _ (next_wide t b (next_centre t a c)) wide (λ u l. go u l (ℕ_discrete u v))
    where
      go : (u : ℕ) → u < 32 → Dec (u ≡ v) → value_in (next_centre t b (next_centre t a c)) u ≡ value_in c u
      go u l (yes e) = rw e (hop_there t b v w z k (next_centre t a c) ∙ sym q)
      go u l (no n) = hop_else t b v w z k (next_centre t a c) u l n ∙ hop_else t a v x y h c u l n
