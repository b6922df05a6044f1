-- The bits of a signature, the lowest first. Where each state is looked at, a bit that is set is that of a state below 64, and one that is not set
-- says that its states cannot be reached, so that no price there is higher than theirs. Assumes nothing.
use Rattle.std.specs.Prelude.{◌≡◌, refl, ◌⊎◌, Option, MatchOption, cond, List, ℕ, zero, suc, ◌+◌, ◌-◌, ◌*◌, ◌/◌, ◌%◌, ◌^◌, ◌≤◌, ◌<◌, max, ltb, length, get_or, take}
use Rattle.std.proofs.Common.{sym, ap, ◌∙◌, inl, inr, not-suc-le-zero, div-one, mul-one, add-one, arith, lt-ltb, le-ltb, pow_pos, shr_lt, shr-shr, get_or-take, length-take-le}
use Rattle.std.proofs.Math.Nat.{div_self, zero-div, div-eq_of_lt}
use Rattle.std.proofs.Math.Decide.{dec_lt, ℕ_discrete}
use Rattle.std.specs.Int.Bits.{bit_and, bit_or, and_step, and_self}
use Rattle.std.proofs.lemmas.Nat.{and_shr, or_shr}
use Rattle.std.specs.Int.Count.{count_trailing_zeros, under}
use Rattle.std.proofs.Math.Pow.{pow-lt}
use Rattle.loops.specs.Count.Laws.{below_cases}
use Rattle.leaf.specs.Price.{mark}
use Rattle.leaf.specs.Settle.Turns.{at_any}
use Rattle.rows.specs.Row.{NotAbove, Higher}
use Rattle.rows.specs.Sign.{sign_to, stride_of, sign_of}
use Rattle.rows.specs.Sign.Laws.{or_odd}

-- bit b of s is not set
abbrev pub Clear : ℕ → ℕ → Type 0
Clear s b = s / 2 ^ b % 2 ≡ 0

-- no price of the row is higher at the bits below 64 that are set in s
abbrev pub NotAboveInBits : List ℕ → List ℕ → ℕ → Type 0
NotAboveInBits row P s = (i : ℕ) → i < 64 → (Clear s i → ⊥) → get_or row (40 + i) 0 ≤ get_or P i 0

-- r is a place below S where the row's price is higher than that of P; it is None only where there is none at the bits of s
abbrev pub AboveInBits : ℕ → List ℕ → List ℕ → ℕ → Option ℕ → Type 0
AboveInBits S row P s r = MatchOption r (NotAboveInBits row P s) (Higher S row P)

-- `rest` is what is left of the bits of s: where one is gone, no price of the row is higher
pub record Left (row P : List ℕ) (s rest : ℕ) : Type 0 where
  pub of_all : (i : ℕ) → Clear s i → Clear rest i
  pub gone : (i : ℕ) → i < 64 → (Clear s i → ⊥) → Clear rest i → get_or row (40 + i) 0 ≤ get_or P i 0

-- ---- bits of a union

-- a bit is set where it is in one or the other
or_bit : (a b k : ℕ) → bit_or a b / 2 ^ k % 2 ≡ max (a / 2 ^ k % 2) (b / 2 ^ k % 2)
or_bit a b k = ap (λ (x : ℕ). x % 2) (or_shr a b k) ∙ or_odd (a / 2 ^ k) (b / 2 ^ k)

-- so where it is not, it is in neither
clear_left : (a b k : ℕ) → Clear (bit_or a b) k → Clear a k
clear_left a b k e = omega (arith, or_bit a b k)

clear_right : (a b k : ℕ) → Clear (bit_or a b) k → Clear b k
clear_right a b k e = omega (arith, or_bit a b k)

-- and the other way round
clear_both : (a b k : ℕ) → Clear a k → Clear b k → Clear (bit_or a b) k
clear_both a b k e f = omega (arith, or_bit a b k)

-- a power of two has no bit above its own
bit_above : (k i : ℕ) → k < i → Clear (2 ^ k) i
bit_above k i l = ap (λ (x : ℕ). x % 2) (div-eq_of_lt (pow-lt l))

-- and has its own
bit_set : (k : ℕ) → Clear (2 ^ k) k → ⊥
bit_set k e = omega (arith, ap (λ (x : ℕ). x % 2) (div_self {n = 2 ^ k} (pow_pos k)))

-- ---- what a bit of a signature says

-- the state of a bit that is not set, where it was looked at, cannot be reached
sign_clear : (step : ℕ) (P : List ℕ) (n i : ℕ) → i < n → Clear (sign_to step P n) (i % 64) → mark ≤ get_or P (i * step) mark
unfolding sign_to
sign_clear step P zero i l e = absurd (not-suc-le-zero l)
sign_clear step P (suc n) i l e = go (dec_lt (get_or P (n * step) mark) mark) (below_cases l) (sign_clear step P n i) e
  where
    go : Dec (get_or P (n * step) mark < mark) → (i < n) ⊎ (i ≡ n)
        → (i < n → Clear (sign_to step P n) (i % 64) → mark ≤ get_or P (i * step) mark)
        → Clear (sign_to step P (suc n)) (i % 64) → mark ≤ get_or P (i * step) mark
    go (yes h) (inl k) ih c =
        ih k (clear_left (sign_to step P n) (2 ^ (n % 64)) (i % 64) (rw (sign_to, lt-ltb (get_or P (n * step) mark) mark h) at c))
    go (yes h) (inr q) ih c =
        absurd (bit_set (n % 64) (rw q at (clear_right (sign_to step P n) (2 ^ (n % 64)) (i % 64) (rw (sign_to, lt-ltb (get_or P (n * step) mark) mark h) at c))))
    go (no h) (inl k) ih c = ih k (rw (sign_to, le-ltb (get_or P (n * step) mark) mark (omega arith)) at c)
    go (no h) (inr q) ih c = rw q (omega arith)

-- each state is looked at where there are fewer than 128
stride_one : (n : ℕ) → n < 128 → stride_of n ≡ 1
unfolding stride_of
stride_one n l = go (dec_lt n 64)
  where
    go : Dec (n < 64) → cond (ltb n 64) 1 (n / 64) ≡ 1
    go (yes h) = rw (lt-ltb n 64 h)
    go (no h) = rw (le-ltb n 64 (omega arith)) (omega arith)

-- the same of all states, fewer than 128
unreached : (P : List ℕ) → length P < 128 → (i : ℕ) → i < length P → Clear (sign_of P) (i % 64) → mark ≤ get_or P i mark
unfolding sign_of
unreached P few i l e =
    let one = stride_one (length P) few in
    rw mul-one at (sign_clear 1 P (length P / 1) i (omega (arith, div-one (length P))) (rw one at e))

-- no bit is set above those of the states looked at
sign_above : (step : ℕ) (P : List ℕ) (n i : ℕ) → n ≤ i → i < 64 → Clear (sign_to step P n) i
unfolding sign_to
sign_above step P zero i l small = ap (λ (x : ℕ). x % 2) (zero-div (2 ^ i))
sign_above step P (suc n) i l small = go (dec_lt (get_or P (n * step) mark) mark) (sign_above step P n i (omega arith) small)
  where
    go : Dec (get_or P (n * step) mark < mark) → Clear (sign_to step P n) i → Clear (sign_to step P (suc n)) i
    go (yes h) c =
        let e : n % 64 ≡ n = omega arith in
        rw (sign_to, lt-ltb (get_or P (n * step) mark) mark h, e) (clear_both (sign_to step P n) (2 ^ n) i c (bit_above n i l))
    go (no h) c = rw (sign_to, le-ltb (get_or P (n * step) mark) mark (omega arith)) c

-- so none below 64 is set for which there is no state
no_state : (P : List ℕ) (i : ℕ) → length P ≤ i → i < 64 → Clear (sign_of P) i
unfolding sign_of
no_state P i l small =
    let one = stride_one (length P) (omega arith) in
    rw one (sign_above 1 P (length P / 1) i (omega (arith, div-one (length P))) small)

-- ---- the lowest set bit of a number

-- bit j of the half is bit j + 1
half_shr : (n j : ℕ) → n / 2 / 2 ^ j ≡ n / 2 ^ suc j
half_shr n j = let e : 1 + j ≡ suc j = omega arith in rw e at (shr-shr n 1 j)

clear_half : (n j : ℕ) → Clear n (suc j) → Clear (n / 2) j
clear_half n j e = ap (λ (x : ℕ). x % 2) (half_shr n j) ∙ e

half_clear : (n j : ℕ) → Clear (n / 2) j → Clear n (suc j)
half_clear n j e = ap (λ (x : ℕ). x % 2) (sym (half_shr n j)) ∙ e

-- a number of d bits has its lowest set bit among them
low_lt : (d n : ℕ) → 0 < n → n < 2 ^ d → count_trailing_zeros d n < d
unfolding count_trailing_zeros
low_lt zero n p h = absurd (omega arith)
low_lt (suc d) n p h = go (n % 2) refl (λ q. low_lt d (n / 2) q (shr_lt {n = n} d 1 (rw add-one h)))
  where
    go : (r : ℕ) → n % 2 ≡ r → (0 < n / 2 → count_trailing_zeros d (n / 2) < d) → under r (count_trailing_zeros d (n / 2)) < suc d
    go zero e ih = omega (arith, ih (omega arith))
    go (suc r) e ih = omega arith

-- it is set
low_set : (d n : ℕ) → 0 < n → n < 2 ^ d → Clear n (count_trailing_zeros d n) → ⊥
unfolding count_trailing_zeros
low_set zero n p h = absurd (omega arith)
low_set (suc d) n p h = go (n % 2) refl (λ q. low_set d (n / 2) q (shr_lt {n = n} d 1 (rw add-one h)))
  where
    go : (r : ℕ) → n % 2 ≡ r → (0 < n / 2 → Clear (n / 2) (count_trailing_zeros d (n / 2)) → ⊥) → Clear n (under r (count_trailing_zeros d (n / 2))) → ⊥
    go zero e ih c = ih (omega arith) (clear_half n (count_trailing_zeros d (n / 2)) c)
    go (suc r) e ih c = omega (arith, div-one n)

-- `n & (n - 1)` is n without its lowest set bit. Where that is the last bit, the others stay
less_odd : (n : ℕ) → n % 2 ≡ 1 → bit_and n (n - 1) / 2 ≡ n / 2
less_odd n e =
    let h : (n - 1) / 2 ≡ n / 2 = omega arith in
    omega (arith, rw h at (and_step n (n - 1)), and_self (n / 2))

-- and else they lose it
less_even : (n : ℕ) → 0 < n → n % 2 ≡ 0 → bit_and n (n - 1) / 2 ≡ bit_and (n / 2) (n / 2 - 1)
less_even n p e =
    let h : (n - 1) / 2 ≡ n / 2 - 1 = omega arith in
    omega (arith, rw h at (and_step n (n - 1)))

-- so every other bit stays
less_other : (d n i : ℕ) → 0 < n → i < d → (i ≡ count_trailing_zeros d n → ⊥) → Clear (bit_and n (n - 1)) i → Clear n i
unfolding count_trailing_zeros
less_other zero n i p l = absurd (not-suc-le-zero l)
less_other (suc d) n i p l = go (n % 2) refl i l (less_other d (n / 2))
  where
    go : (r : ℕ) → n % 2 ≡ r → (i : ℕ) → i < suc d
        → ((j : ℕ) → 0 < n / 2 → j < d → (j ≡ count_trailing_zeros d (n / 2) → ⊥) → Clear (bit_and (n / 2) (n / 2 - 1)) j → Clear (n / 2) j)
        → (i ≡ under r (count_trailing_zeros d (n / 2)) → ⊥) → Clear (bit_and n (n - 1)) i → Clear n i
    go zero e zero l ih other c = omega (arith, div-one n)
    go zero e (suc j) l ih other c =
        half_clear n j (ih j (omega arith) (omega arith) (λ q. other (ap suc q)) (rw (less_even n p e) at (clear_half (bit_and n (n - 1)) j c)))
    go (suc r) e zero l ih other c = absurd (other refl)
    go (suc r) e (suc j) l ih other c =
        let odd : n % 2 ≡ 1 = omega arith in
        half_clear n j (rw (less_odd n odd) at (clear_half (bit_and n (n - 1)) j c))

-- and none is set that was not
and_clear : (a b i : ℕ) → Clear a i → Clear (bit_and a b) i
and_clear a b i e = omega (arith, and_shr a b i, and_step (a / 2 ^ i) (b / 2 ^ i))

-- ---- walking the bits of a signature s

module _ (row P : List ℕ) (s : ℕ) where
  -- all are left
  pub left_all : Left row P s s
  left_all = record { of_all = λ i c. c; gone = λ i small set c. absurd (set c) }

  -- none is left
  pub left_none : Left row P s 0 → NotAboveInBits row P s
  left_none h i small set = h.gone i small set (ap (λ (x : ℕ). x % 2) (zero-div (2 ^ i)))

  module _ (rest : ℕ) (word : rest < 2 ^ 64) (some : 0 < rest) (h : Left row P s rest) where
    -- the lowest is that of a state
    pub left_state : (S : ℕ) → S ≤ length P → s ≡ sign_of (take S P) → count_trailing_zeros 64 rest < S
    left_state S long own = go (dec_lt (count_trailing_zeros 64 rest) S)
      where
        go : Dec (count_trailing_zeros 64 rest < S) → count_trailing_zeros 64 rest < S
        go (yes l) = l
        go (no l) =
            let c = no_state (take S P) (count_trailing_zeros 64 rest) (omega (arith, length-take-le S P long)) (low_lt 64 rest some word) in
            absurd (low_set 64 rest some word (h.of_all (count_trailing_zeros 64 rest) (rw own c)))

    -- it goes
    pub left_less : get_or row (40 + count_trailing_zeros 64 rest) 0 ≤ get_or P (count_trailing_zeros 64 rest) 0 → Left row P s (bit_and rest (rest - 1))
    left_less here = record {
      of_all = λ i c. and_clear rest (rest - 1) i (h.of_all i c);
      gone = λ i small set c. go i small set c (ℕ_discrete i (count_trailing_zeros 64 rest));
    }
      where
        go : (i : ℕ) → i < 64 → (Clear s i → ⊥) → Clear (bit_and rest (rest - 1)) i → Dec (i ≡ count_trailing_zeros 64 rest) → get_or row (40 + i) 0 ≤ get_or P i 0
        go i small set c (yes q) = rw q here
        go i small set c (no q) = h.gone i small set (less_other 64 rest i some small q c)

-- no price is higher than that of a state that cannot be reached, so that none below 64 is where none is at the bits
pub bits_none : (S : ℕ) (row P : List ℕ) (s : ℕ) → S < 128 → S ≤ length P → s ≡ sign_of (take S P) → ((i : ℕ) → get_or row i 0 ≤ mark)
    → NotAboveInBits row P s → (m : ℕ) → m ≤ S → m ≤ 64 → NotAbove row P m
bits_none S row P s few long own capped none m low small i l = go (ℕ_discrete (s / 2 ^ i % 2) 0)
  where
    go : Dec (Clear s i) → get_or row (40 + i) 0 ≤ get_or P i 0
    go (yes c) =
        let n = length-take-le S P long in
        let e : i % 64 ≡ i = omega arith in
        let far = unreached (take S P) (omega (arith, n)) i (omega (arith, n)) (rw (e, ← own) c) in
        let same : get_or (take S P) i mark ≡ get_or P i 0 = get_or-take S P i mark (omega arith) ∙ at_any P i mark 0 (omega arith) in
        omega (arith, far, same, capped (40 + i))
    go (no set) = none i (omega arith) set
