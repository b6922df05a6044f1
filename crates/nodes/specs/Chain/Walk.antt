-- Laws of walks along the groups of a class, and of the node that they find. Assumes nothing.
use Rattle.std.specs.Prelude.{◌≡◌, refl, ◌⊎◌, Option, None, Some, is_some, not, List, ℕ, zero, suc, ◌+◌, ◌-◌, ◌*◌, ◌≤◌, ◌<◌, length}
use Rattle.std.proofs.Common.{sym, ap, ◌∙◌, inl, inr, true≢false, not-suc-le-zero, arith, eq-eqb}
use Rattle.std.proofs.Math.Bool.{true, false}
use Rattle.std.proofs.Math.Decide.{ℕ_discrete, dec_lt}
use Rattle.std.specs.Int.Bits.{bit_or}
use Rattle.loops.specs.Count.{any}
use Rattle.loops.specs.Count.Laws.{and_out, any_in, any_out, below_cases, test_cases}
use Rattle.search.specs.Node.{Node, dominates}
use Rattle.rows.specs.Row.{node_in}
use Rattle.rows.specs.Row.Laws.{row_in_lem, prices_length}
use Rattle.rows.specs.Sign.{sign_of, class_of}
use Rattle.rows.specs.Sign.Laws.{class_lt, other_class, other_sign}
use Rattle.nodes.specs.Chain.{link_at, head_at, groups_in, class_at, fill_at, shown_at, entry_at, lacking, all_lack, Grouped, Dominator, Missed, Walked}

-- a signature that lacks a bit of another is not their union
pub lacking_out : (s t : ℕ) → lacking s t ≡ true → bit_or s t ≡ t → ⊥
lacking_out s t e q = true≢false (sym e ∙ ap not (eq-eqb (bit_or s t) t q))

-- ---- walks along groups

module _ (S : ℕ) (T C : List ℕ) (n : ℕ) (m : Node) (r : Grouped S T C n) where
  -- no entry of a group of another class dominates
  other_group : (g : ℕ) → g < groups_in C → (class_at C g ≡ class_of m.spot → ⊥) → Missed S T C m g (fill_at C g)
  other_group g l d i b = other_class (node_in S T (entry_at C g i)) m (λ e. d (sym (r.entries g i l b).class ∙ e))

  -- a walk begins at the head of the class
  pub walk_start : Walked S T C m (head_at C (class_of m.spot))
  walk_start = record {
    low = r.heads (class_of m.spot) (class_lt m.spot);
    none = λ g a l. other_group g l (r.last (class_of m.spot) g (class_lt m.spot) a l);
    class = λ g e. r.headed (class_of m.spot) g (class_lt m.spot) e;
  }

  -- no entry of group g dominates: the walk goes on at its link
  pub walk_more : (g : ℕ) → Walked S T C m (suc g) → Missed S T C m g (fill_at C g) → Walked S T C m (link_at C g)
  walk_more g k d = record {
    low = omega (arith, k.low, r.links g k.low);
    none = λ f a b. passed f a b (dec_lt f g);
    class = λ f e. r.linked g f k.low e ∙ k.class g refl;
  }
    where
      later : (f : ℕ) → f < groups_in C → g ≤ f → Dec (f ≡ g) → Missed S T C m f (fill_at C f)
      later f b l (yes e) = rw e d
      later f b l (no q) = k.none f (omega arith) b

      passed : (f : ℕ) → link_at C g ≤ f → f < groups_in C → Dec (f < g) → Missed S T C m f (fill_at C f)
      passed f a b (yes l) = other_group f b (λ e. r.skips g f k.low a l (e ∙ sym (k.class g refl)))
      passed f a b (no q) = later f b (omega arith) (ℕ_discrete f g)

  -- the groups end: no node dominates
  pub walk_end : Walked S T C m 0 → any n (λ u. dominates (node_in S T u) m) ≡ false
  walk_end k = go (test_cases (any n (λ u. dominates (node_in S T u) m)))
    where
      missed : (w : ℕ) → w < n → dominates (node_in S T w) m ≡ false
      missed w l =
          let p = r.placed w l in
          ap (λ (u : ℕ). dominates (node_in S T u) m) (sym p.is) ∙ k.none p.group (omega arith) p.known p.place p.filled

      go : (any n (λ u. dominates (node_in S T u) m) ≡ true) ⊎ (any n (λ u. dominates (node_in S T u) m) ≡ false)
          → any n (λ u. dominates (node_in S T u) m) ≡ false
      go (inl e) = let w = any_out n (λ u. dominates (node_in S T u) m) e in absurd (true≢false (sym w.1.1 ∙ missed w.0 w.1.0))
      go (inr e) = e

  -- ---- one group

  -- no entry was tried yet
  pub missed_none : (g : ℕ) → Missed S T C m g 0
  missed_none g i l = absurd (not-suc-le-zero l)

  -- one more does not dominate
  pub missed_more : (g k : ℕ) → Missed S T C m g k → dominates (node_in S T (entry_at C g k)) m ≡ false → Missed S T C m g (k + 1)
  missed_more g k h d i l = go (below_cases (omega arith))
    where
      go : (i < k) ⊎ (i ≡ k) → dominates (node_in S T (entry_at C g i)) m ≡ false
      go (inl b) = h i b
      go (inr e) = rw e d

  -- signatures that lack a bit: their nodes do not dominate
  module _ (rows : n * (40 + S) ≤ length T) (wide : length m.prices ≡ S) where
    lack_missed : (g k : ℕ) → g < groups_in C → k < fill_at C g → lacking (sign_of m.prices) (shown_at C g k) ≡ true
        → dominates (node_in S T (entry_at C g k)) m ≡ false
    lack_missed g k l b e =
        let x = r.entries g k l b in
        let u = entry_at C g k in
        let room = row_in_lem S n u T x.inside rows in
        other_sign (node_in S T u) m (prices_length S u T room ∙ sym wide)
        (lacking_out (sign_of m.prices) (sign_of (node_in S T u).prices) (rw x.shown at e))

    pub lack_all : (g : ℕ) → g < groups_in C → all_lack C g (sign_of m.prices) ≡ true → Missed S T C m g (fill_at C g)
    unfolding all_lack
    lack_all g l e i b =
        let s = sign_of m.prices in
        let (abc, d) = and_out _ (lacking s (shown_at C g 3)) e in
        let (ab, c) = and_out _ (lacking s (shown_at C g 2)) abc in
        let (a, o) = and_out (lacking s (shown_at C g 0)) (lacking s (shown_at C g 1)) ab in
        go a o c d (ℕ_discrete i 0) (ℕ_discrete i 1) (ℕ_discrete i 2) (ℕ_discrete i 3)
      where
        is : (k : ℕ) → lacking (sign_of m.prices) (shown_at C g k) ≡ true → i ≡ k → dominates (node_in S T (entry_at C g i)) m ≡ false
        is k h q = lack_missed g i l b (rw q h)

        go : lacking (sign_of m.prices) (shown_at C g 0) ≡ true → lacking (sign_of m.prices) (shown_at C g 1) ≡ true
            → lacking (sign_of m.prices) (shown_at C g 2) ≡ true → lacking (sign_of m.prices) (shown_at C g 3) ≡ true
            → Dec (i ≡ 0) → Dec (i ≡ 1) → Dec (i ≡ 2) → Dec (i ≡ 3) → dominates (node_in S T (entry_at C g i)) m ≡ false
        go h0 h1 h2 h3 (yes q) d1 d2 d3 = is 0 h0 q
        go h0 h1 h2 h3 (no n0) (yes q) d2 d3 = is 1 h1 q
        go h0 h1 h2 h3 (no n0) (no n1) (yes q) d3 = is 2 h2 q
        go h0 h1 h2 h3 (no n0) (no n1) (no n2) (yes q) = is 3 h3 q
        go h0 h1 h2 h3 (no n0) (no n1) (no n2) (no n3) = absurd (omega (arith, r.fills g l))

-- ---- the node that dominates

-- whether there is one tells whether one does
pub dominator_tells : (S : ℕ) (T : List ℕ) (n : ℕ) (m : Node) (r : Option ℕ) → Dominator S T n m r → is_some r ≡ any n (λ u. dominates (node_in S T u) m)
dominator_tells S T n m None k = sym k
dominator_tells S T n m (Some u) k = sym (any_in n (λ u. dominates (node_in S T u) m) u k.inside k.dominates)
