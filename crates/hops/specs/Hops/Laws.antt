-- Laws of hops. Assumes nothing.
use Rattle.std.specs.Prelude.{◌≡◌, Bool, true, false, cond, not, ◌&&◌, List, ltb, eqb, set, replicate}
use Rattle.std.proofs.Math.Path.{refl}
use Rattle.std.proofs.Common.{◌∙◌, ⊎_elim, add-one, arith, length-set, get_or-set_same, get_or-set_other}
use Prim.Native.Nat.{ℕ, zero, suc, ◌+◌, ◌-◌, ◌*◌, ◌/◌, ◌%◌, ◌≤◌, ◌<◌}
use Rattle.std.proofs.Math.Decide.{dec_le, ℕ_discrete}
use Rattle.std.proofs.Math.ListN.{get_or}
use Rattle.std.proofs.lemmas.List.{length-replicate}
use borrow.Author.Tests.{not-true, eq-eqb, ne_eqb, eqb-true, eqb-false, ltb-true}
use Rattle.loops.specs.Count.Laws.{and_out, or_out, all_out}
use Rattle.layer.specs.Board.{Board, row_on}
use Rattle.layer.specs.First.{Firsts}
use Rattle.stills.specs.Still.{Still, Stays, padded, zeros_at, padded_length, padded_at, padded_behind}
use Rattle.hops.specs.Hops.{Pair, PairWord, HopWord, Hops, Ways, names_only, pair_word, hop_word, hops_by, ways_by}

-- ---- words

-- the word of a pair
pair_some : (conditions effects : List ℕ) (a v h : ℕ) → v < 32
    → Pair conditions effects a v (get_or conditions (a * 32 + v) 0) (get_or effects (a * 32 + v) 0)
    → h ≡ 1 + 256 * v + 16 * get_or conditions (a * 32 + v) 0 + get_or effects (a * 32 + v) 0 → PairWord conditions effects a v h
pair_some conditions effects a v h l p e =
    let x = get_or conditions (a * 32 + v) 0 in
    let z = get_or effects (a * 32 + v) 0 in
    let kx : x < 16 = p.from_value in
    let kz : z < 16 = p.into_value in
    let ex : (h - 1) / 16 % 16 ≡ x = omega (arith, kx, kz, e) in
    let ez : (h - 1) % 16 ≡ z = omega (arith, kx, kz, e) in
    record { few = omega (arith, kx, kz, e); variable = λ _. omega (arith, kx, kz, e); pair = λ _. rw (ex, ez) p }

-- the word of a hop
hop_some : (b : Board) (effects : List ℕ) (a v h : ℕ) → get_or b.kinds a 0 ≡ 0 → Stays b.leaves b.bases b.moves (a * row_on b)
    → v < 32 → get_or b.factors v 0 ≡ 0 → PairWord b.conditions effects a v h → HopWord b effects a h
hop_some b effects a v h central stays l own w =
    record {
      few = w.few;
      hop = λ d. let p = w.pair d in rw (w.variable d) record {
        central = central;
        stays = stays;
        within = l;
        own = own;
        from = p.from;
        from_value = p.from_value;
        into = p.into;
        into_value = p.into_value;
        conditions_free = p.conditions_free;
        effects_free = p.effects_free;
      };
    }

-- ---- words as they are counted

-- a row that names no other variable
only_free : (pairs : List ℕ) (at v : ℕ) → names_only pairs at v ≡ true → (w : ℕ) → w < 32 → (w ≡ v → ⊥) → get_or pairs (at + w) 0 ≡ 16
unfolding names_only
only_free pairs at v e w l d = ⊎_elim (λ p. absurd (d (eqb-true _ _ p))) (λ q. eqb-true _ _ q) (or_out _ _ (all_out 32 _ e w l))

-- the word of an action and a variable
pair_right : (conditions effects : List ℕ) (a v : ℕ) → v < 32 → PairWord conditions effects a v (pair_word conditions effects a v)
unfolding pair_word
pair_right conditions effects a v l = go _ refl
  where
    x : ℕ
    x = get_or conditions (a * 32 + v) 0

    z : ℕ
    z = get_or effects (a * 32 + v) 0

    go : (t : Bool) → (ltb x 16 && (ltb z 16 && (names_only conditions (a * 32) v && names_only effects (a * 32) v))) ≡ t
        → PairWord conditions effects a v (cond t (1 + 256 * v + 16 * x + z) 0)
    go true e =
        let (from, rest) = and_out _ _ e in
        let (into, free) = and_out _ _ rest in
        let (one, two) = and_out _ _ free in
        pair_some conditions effects a v _ l
        (record {
          from = refl;
          from_value = ltb-true _ _ from;
          into = refl;
          into_value = ltb-true _ _ into;
          conditions_free = only_free conditions (a * 32) v one;
          effects_free = only_free effects (a * 32) v two;
        })
        refl
    go false e = record { few = omega arith; variable = λ d. absurd (d refl); pair = λ d. absurd (d refl) }

module _ (b : Board) (effects firsts still : List ℕ) (stays : Still b.leaves b.actions b.bases b.moves still) (f : Firsts b firsts) where
  -- the word of an action
  hop_right : (a : ℕ) → a < b.actions → HopWord b effects a (hop_word b.kinds b.conditions effects firsts still a)
  unfolding hop_word
  hop_right a l = go _ refl
    where
      v : ℕ
      v = get_or firsts a 0

      go : (t : Bool) → (eqb (get_or b.kinds a 0) 0 && (not (eqb (get_or still a 0) 0) && ltb v 32)) ≡ t
          → HopWord b effects a (cond t (pair_word b.conditions effects a v) 0)
      go true e =
          let (central, rest) = and_out _ _ e in
          let (moved, named) = and_out _ _ rest in
          let inside : v < 32 = ltb-true _ _ named in
          hop_some b effects a v _ (eqb-true _ _ central) (stays.stays a l (eqb-false _ _ (not-true _ moved))) inside (f.named a l inside).0
          (pair_right b.conditions effects a v inside)
      go false e = record { few = omega arith; hop = λ d. absurd (d refl) }

  -- that of each action
  pub hops_right : b.actions ≤ 255 → Hops b.actions b effects (hops_by b.actions b.kinds b.conditions effects firsts still)
  unfolding hops_by
  hops_right few =
      record { long = padded_length 256 words b.actions (omega arith); few = λ k. low k (dec_le (suc k) b.actions); word = λ a l. rw (at a l) (hop_right a l) }
    where
      words : ℕ → ℕ
      words = hop_word b.kinds b.conditions effects firsts still

      at : (a : ℕ) → a < b.actions → get_or (padded 256 b.actions words) a 0 ≡ words a
      at a l = padded_at 256 words b.actions a l

      low : (k : ℕ) → Dec (k < b.actions) → get_or (padded 256 b.actions words) k 0 ≤ 8192
      low k (yes l) = rw (at k l) (hop_right k l).few
      low k (no d) = omega (arith, padded_behind 256 words b.actions k (omega (arith, d)))

-- ---- ways

-- of no action
ways_none : (hops : List ℕ) → Ways 0 hops (replicate 8192 0)
ways_none hops = record { long = length-replicate {A = ℕ} 8192 0; way = λ g l d. absurd (d (zeros_at 8192 g)) }

-- an action more, which has no word
ways_pass : (n : ℕ) (hops ways : List ℕ) → Ways n hops ways → Ways (n + 1) hops ways
ways_pass n hops ways s = record { long = s.long; way = λ g l d. let w = s.way g l d in (omega (arith, w.0), w.1) }

-- an action more, which has a word
ways_more : (n : ℕ) (hops ways : List ℕ) (f : ℕ) → (get_or hops n 0 ≡ 0 → ⊥) → get_or hops n 0 ≤ 8192 → f ≡ n + 1 → Ways n hops ways
    → Ways (n + 1) hops (set ways (get_or hops n 0 - 1) f)
ways_more n hops ways f d h e s =
    record { long = length-set ways (get_or hops n 0 - 1) f ∙ s.long; way = λ g l. go g l (ℕ_discrete g (get_or hops n 0 - 1)) }
  where
    go : (g : ℕ) → g < 8192 → Dec (g ≡ get_or hops n 0 - 1) → (get_or (set ways (get_or hops n 0 - 1) f) g 0 ≡ 0 → ⊥)
        → (get_or (set ways (get_or hops n 0 - 1) f) g 0 - 1 < n + 1) × (get_or hops (get_or (set ways (get_or hops n 0 - 1) f) g 0 - 1) 0 ≡ g + 1)
    go g l (yes q) z =
        let at : get_or (set ways (get_or hops n 0 - 1) f) g 0 - 1 ≡ n =
        rw (q, get_or-set_same ways (get_or hops n 0 - 1) f 0 (omega (arith, s.long, d))) (omega arith) in
        rw at (omega arith, omega (arith, d, q))
    go g l (no o) z =
        let same = get_or-set_other ways (get_or hops n 0 - 1) g f 0 o in
        let w = s.way g l (rw same at z) in
        rw same (omega (arith, w.0), w.1)

-- ---- ways as they are counted

module _ (hops : List ℕ) where
  -- an action more, which has no word
  pub way_pass : (n : ℕ) → get_or hops n 0 ≡ 0 → ways_by hops n ≡ ways_by hops (n + 1)
  unfolding ways_by
  way_pass n e = rw (add-one n, ways_by, eq-eqb _ _ e)

  -- an action more, which has a word
  pub way_more : (n : ℕ) → (get_or hops n 0 ≡ 0 → ⊥) → set (ways_by hops n) (get_or hops n 0 - 1) (n + 1) ≡ ways_by hops (n + 1)
  unfolding ways_by
  way_more n d = rw (add-one n, ways_by, ne_eqb _ _ d)

  -- they are those of hops
  pub ways_right : ((k : ℕ) → get_or hops k 0 ≤ 8192) → (n : ℕ) → Ways n hops (ways_by hops n)
  unfolding ways_by
  ways_right h zero = ways_none hops
  ways_right h (suc n) = rw (add-one n) at (go (ℕ_discrete (get_or hops n 0) 0) (ways_right h n))
    where
      go : Dec (get_or hops n 0 ≡ 0) → Ways n hops (ways_by hops n) → Ways (n + 1) hops (ways_by hops (n + 1))
      go (yes e) before = rw (← way_pass n e) (ways_pass n hops (ways_by hops n) before)
      go (no d) before = rw (← way_more n d) (ways_more n hops (ways_by hops n) (n + 1) d (h n) refl before)
