-- The states that prices P reach, as a list of their numbers. Most prices of many states are the mark, and where one is, no price of a row is higher:
-- so the prices of a row are compared along the list alone. Assumes nothing.
use Rattle.std.specs.Prelude.{◌≡◌, ◌⊎◌, List, ℕ, ◌+◌, ◌≤◌, ◌<◌, length, get_or, set, take}
use Rattle.std.proofs.Common.{sym, ◌∙◌, inl, inr, not-suc-le-zero, arith, length-take-le, get_or-take, get_or-set_same, get_or-set_other}
use Rattle.std.proofs.Math.Decide.{dec_le, dec_lt, ℕ_discrete}
use Rattle.std.specs.Int.Bits.{bit_and}
use Rattle.std.proofs.lemmas.Nat.{and_le_l, and_le_r}
use Rattle.loops.specs.Count.Laws.{below_cases}
use Rattle.leaf.specs.Price.{mark}
use Rattle.rows.specs.Row.{NotAbove}

-- the words of L are states below S, and a state below S that is none of them cannot be reached by P
pub record Reaches (S : ℕ) (P L : List ℕ) : Type 0 where
  pub inside : (j : ℕ) → j < length L → get_or L j 0 < S
  pub all : (x : ℕ) → x < S → ((j : ℕ) → j < length L → get_or L j 0 ≡ x → ⊥) → mark ≤ get_or P x 0

-- no price is higher than that of a state that is not reached, so that none at all is where none is at the states of the list
pub list_none : (S : ℕ) (row P L : List ℕ) → ((i : ℕ) → get_or row i 0 ≤ mark) → Reaches S P L
    → ((j : ℕ) → j < length L → get_or row (40 + get_or L j 0) 0 ≤ get_or P (get_or L j 0) 0) → NotAbove row P S
list_none S row P L capped h low i l = go (dec_le (get_or row (40 + i) 0) (get_or P i 0))
  where
    go : Dec (get_or row (40 + i) 0 ≤ get_or P i 0) → get_or row (40 + i) 0 ≤ get_or P i 0
    go (yes b) = b
    go (no d) = omega (arith, h.all i l (λ j b e. d (rw e at (low j b))), capped (40 + i))

-- ---- the front of a list

-- x is one of the first n words of L
pub record ListedIn (L : List ℕ) (n x : ℕ) : Type 0 where
  pub place : ℕ
  pub inside : place < n
  pub is : get_or L place 0 ≡ x

-- the first n words of L are the states below S that P reaches, by rising number
pub record ReachesIn (S : ℕ) (P L : List ℕ) (n : ℕ) : Type 0 where
  pub few : n ≤ S
  pub inside : (j : ℕ) → j < n → get_or L j 0 < S
  pub only : (j : ℕ) → j < n → get_or P (get_or L j 0) 0 < mark
  pub rise : (i j : ℕ) → i < j → j < n → get_or L i 0 < get_or L j 0
  pub all : (x : ℕ) → x < S → get_or P x 0 < mark → ListedIn L n x

-- these words as a list
pub reaches_front : (S : ℕ) (P L : List ℕ) (n : ℕ) → n ≤ length L → ReachesIn S P L n → Reaches S P (take n L)
reaches_front S P L n room r = record {
  inside = λ j l. omega (arith, word j (omega (arith, long)), r.inside j (omega (arith, long)));
  all = λ x l other. go x l other (dec_lt (get_or P x 0) mark);
}
  where
    long : length (take n L) ≡ n
    long = length-take-le n L room

    word : (j : ℕ) → j < n → get_or (take n L) j 0 ≡ get_or L j 0
    word j l = get_or-take n L j 0 l

    go : (x : ℕ) → x < S → ((j : ℕ) → j < length (take n L) → get_or (take n L) j 0 ≡ x → ⊥) → Dec (get_or P x 0 < mark) → mark ≤ get_or P x 0
    go x l other (yes low) =
        let k = r.all x l low in
        absurd (other k.place (omega (arith, long, k.inside)) (word k.place k.inside ∙ k.is))
    go x l other (no far) = omega arith

-- four words that share all bits of the mark are at least that
all_marks : {p q r s : ℕ} → bit_and (bit_and p q) (bit_and r s) ≡ mark → (mark ≤ p) × (mark ≤ q) × (mark ≤ r) × (mark ≤ s)
all_marks {p} {q} {r} {s} h =
    let l = and_le_l (bit_and p q) (bit_and r s) in
    let m = and_le_r (bit_and p q) (bit_and r s) in
    (omega (arith, h, l, and_le_l p q), omega (arith, h, l, and_le_r p q), omega (arith, h, m, and_le_l r s), omega (arith, h, m, and_le_r r s))

module _ (P L : List ℕ) where
  -- no state
  pub reaches_none : ReachesIn 0 P L 0
  reaches_none = record {
    few = omega arith;
    inside = λ j l. absurd (not-suc-le-zero l);
    only = λ j l. absurd (not-suc-le-zero l);
    rise = λ i j _ l. absurd (not-suc-le-zero l);
    all = λ x l. absurd (not-suc-le-zero l);
  }

  module _ (S n : ℕ) (r : ReachesIn S P L n) where
    -- states that are not reached need no word
    pub reaches_past : (T : ℕ) → S ≤ T → ((x : ℕ) → S ≤ x → x < T → mark ≤ get_or P x 0) → ReachesIn T P L n
    reaches_past T l far = record {
      few = omega (arith, r.few);
      inside = λ j b. omega (arith, r.inside j b);
      only = r.only;
      rise = r.rise;
      all = λ x b low. go x b low (dec_lt x S);
    }
      where
        go : (x : ℕ) → x < T → get_or P x 0 < mark → Dec (x < S) → ListedIn L n x
        go x b low (yes h) = r.all x h low
        go x b low (no h) = absurd (omega (arith, far x (omega arith) b))

    -- another word behind them
    pub reaches_set : (v : ℕ) → ReachesIn S P (set L n v) n
    reaches_set v = record {
      few = r.few;
      inside = λ j l. omega (arith, same j l, r.inside j l);
      only = λ j l. rw (same j l) (r.only j l);
      rise = λ i j h l. rw (same i (omega arith), same j l) (r.rise i j h l);
      all = λ x l low. let k = r.all x l low in record { place = k.place; inside = k.inside; is = same k.place k.inside ∙ k.is };
    }
      where
        same : (j : ℕ) → j < n → get_or (set L n v) j 0 ≡ get_or L j 0
        same j l = get_or-set_other L n j v 0 (λ e. omega arith)

    -- the word behind them is the next state, and it is counted where it is reached
    pub reaches_more : n < length L → get_or P S 0 < mark → ReachesIn (S + 1) P (set L n S) (n + 1)
    reaches_more room near = record {
      few = omega (arith, r.few);
      inside = λ j l. below j (below_cases (omega arith));
      only = λ j l. only j (below_cases (omega arith));
      rise = λ i j h l. rise i j h (below_cases (omega arith));
      all = λ x l low. go x low (below_cases (omega arith));
    }
      where
        own : get_or (set L n S) n 0 ≡ S
        own = get_or-set_same L n S 0 room

        below : (j : ℕ) → (j < n) ⊎ (j ≡ n) → get_or (set L n S) j 0 < S + 1
        below j (inl l) = omega (arith, (reaches_set S).inside j l)
        below j (inr e) = rw e (omega (arith, own))

        only : (j : ℕ) → (j < n) ⊎ (j ≡ n) → get_or P (get_or (set L n S) j 0) 0 < mark
        only j (inl l) = (reaches_set S).only j l
        only j (inr e) = rw (e, own) near

        rise : (i j : ℕ) → i < j → (j < n) ⊎ (j ≡ n) → get_or (set L n S) i 0 < get_or (set L n S) j 0
        rise i j h (inl l) = (reaches_set S).rise i j h l
        rise i j h (inr e) = rw (e, own) ((reaches_set S).inside i (omega arith))

        go : (x : ℕ) → get_or P x 0 < mark → (x < S) ⊎ (x ≡ S) → ListedIn (set L n S) (n + 1) x
        go x low (inl l) = let k = (reaches_set S).all x l low in record { place = k.place; inside = omega (arith, k.inside); is = k.is }
        go x low (inr e) = record { place = n; inside = omega arith; is = own ∙ sym e }

    -- it is not counted where it is not reached
    pub reaches_skip : (v : ℕ) → mark ≤ get_or P S 0 → ReachesIn (S + 1) P (set L n v) n
    reaches_skip v far = record {
      few = omega (arith, r.few);
      inside = λ j l. omega (arith, (reaches_set v).inside j l);
      only = (reaches_set v).only;
      rise = (reaches_set v).rise;
      all = λ x l low. go x low (below_cases (omega arith));
    }
      where
        go : (x : ℕ) → get_or P x 0 < mark → (x < S) ⊎ (x ≡ S) → ListedIn (set L n v) n x
        go x low (inl l) = (reaches_set v).all x l low
        go x low (inr e) = absurd (omega (arith, rw e at low))

    -- four states are not reached where the bits that their prices share are those of the mark
    pub reaches_four : bit_and (bit_and (get_or P S 0) (get_or P (S + 1) 0)) (bit_and (get_or P (S + 2) 0) (get_or P (S + 3) 0)) ≡ mark → ReachesIn (S + 4) P L n
    reaches_four e = reaches_past (S + 4) (omega arith) (λ x l b. go x l b (all_marks e) (ℕ_discrete x S) (ℕ_discrete x (S + 1)) (ℕ_discrete x (S + 2)))
      where
        go : (x : ℕ) → S ≤ x → x < S + 4 → (mark ≤ get_or P S 0) × (mark ≤ get_or P (S + 1) 0) × (mark ≤ get_or P (S + 2) 0) × (mark ≤ get_or P (S + 3) 0)
            → Dec (x ≡ S) → Dec (x ≡ S + 1) → Dec (x ≡ S + 2) → mark ≤ get_or P x 0
        go x l b h (yes q) f g = rw q h.0
        go x l b h (no n0) (yes q) g = rw q h.1
        go x l b h (no n0) (no n1) (yes q) = rw q h.2
        go x l b h (no n0) (no n1) (no n2) = let q : x ≡ S + 3 = omega arith in rw q h.3
