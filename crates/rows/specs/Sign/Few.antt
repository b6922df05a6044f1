-- The signature of prices of which at most 64 are looked at, as a sum: a bit for each state, the first the lowest. Assumes nothing.
use Rattle.std.specs.Prelude.{◌≡◌, refl, Bool, true, false, cond, List, ℕ, zero, suc, ◌+◌, ◌-◌, ◌*◌, ◌/◌, ◌%◌, ◌^◌, ◌≤◌, ◌<◌, ltb, length, get_or}
use Rattle.std.proofs.Common.{sym, ap, ◌∙◌, one-mul, mul_assoc, add-mul, mul-le-mul_right, le-mul_of_pos_right, div-one, pow-suc, mod-eq_of_lt, arith, lt-ltb, le-ltb, pow_pos, pow_mono}
use Rattle.std.proofs.Math.Nat.{pow-succ'}
use Rattle.std.proofs.Math.Decide.{dec_lt}
use mir.Val.{bool_byte}
use Rattle.std.specs.Int.Bits.{or_shifted_r}
use Rattle.leaf.specs.Price.{mark}
use Rattle.leaf.specs.Settle.Turns.{at_any}
use Rattle.rows.specs.Sign.{sign_to, stride_of, sign_of}

-- 1 where state k can be reached, else 0
unfoldable reach_at : List ℕ → ℕ → ℕ
reach_at P k = cond (ltb (get_or P k mark) mark) 1 0

-- as the comparison gives it
reach_byte : (P : List ℕ) (k : ℕ) → k < length P → bool_byte (ltb (get_or P k 0) mark) ≡ reach_at P k
unfolding reach_at
reach_byte P k l = rw (at_any P k 0 mark l) (byte (ltb (get_or P k mark) mark))
  where
    byte : (b : Bool) → bool_byte b ≡ cond b 1 0
    byte true = refl
    byte false = refl

-- a state more, where the bits so far are below its own
sign_sum : (P : List ℕ) (w k : ℕ) → k < 64 → sign_to w P k < 2 ^ k → sign_to w P (suc k) ≡ reach_at P (k * w) * 2 ^ k + sign_to w P k
unfolding sign_to reach_at
sign_sum P w k few low = go (dec_lt (get_or P (k * w) mark) mark)
  where
    go : Dec (get_or P (k * w) mark < mark) → sign_to w P (suc k) ≡ cond (ltb (get_or P (k * w) mark) mark) 1 0 * 2 ^ k + sign_to w P k
    go (yes h) =
        let bit : 2 ^ (k % 64) ≡ 1 * 2 ^ k = ap (λ (x : ℕ). 2 ^ x) (mod-eq_of_lt few) ∙ sym (one-mul (2 ^ k)) in
        rw (lt-ltb (get_or P (k * w) mark) mark h, bit) (or_shifted_r 1 k (sign_to w P k) low)
    go (no h) = rw (le-ltb (get_or P (k * w) mark) mark (omega arith)) (omega arith)

-- at most 1
reach_low : (P : List ℕ) (k : ℕ) → reach_at P k ≤ 1
unfolding reach_at
reach_low P k = go (dec_lt (get_or P k mark) mark)
  where
    go : Dec (get_or P k mark < mark) → cond (ltb (get_or P k mark) mark) 1 0 ≤ 1
    go (yes h) = rw (lt-ltb (get_or P k mark) mark h) (omega arith)
    go (no h) = rw (le-ltb (get_or P k mark) mark (omega arith)) (omega arith)

-- the signature of k states has k bits
sign_lt : (P : List ℕ) (w k : ℕ) → k ≤ 64 → sign_to w P k < 2 ^ k
unfolding sign_to
sign_lt P w zero few = omega arith
sign_lt P w (suc k) few =
    let low = sign_lt P w k (omega arith) in
    let top : reach_at P (k * w) * 2 ^ k ≤ 1 * 2 ^ k = mul-le-mul_right (2 ^ k) (reach_low P (k * w)) in
    omega (arith, low, top, one-mul (2 ^ k), sign_sum P w k (omega arith) low, pow-suc 2 k)

-- a state more
sign_more : (P : List ℕ) (w k : ℕ) → k < 64 → sign_to w P (suc k) ≡ reach_at P (k * w) * 2 ^ k + sign_to w P k
sign_more P w k few = sign_sum P w k few (sign_lt P w k (omega arith))

-- each of few states is looked at
pub sign_few : (P : List ℕ) → length P < 64 → sign_of P ≡ sign_to 1 P (length P)
unfolding sign_of stride_of
sign_few P few = rw (lt-ltb (length P) 64 few, div-one)

-- of more every so many, here 64
pub sign_even : (P : List ℕ) → 64 ≤ length P → length P / (length P / 64) ≡ 64 → sign_of P ≡ sign_to (length P / 64) P 64
unfolding sign_of stride_of
sign_even P many e = rw (le-ltb (length P) 64 many, e)

-- ---- from the last state looked at down: s holds the bits of a signature S from k on

-- a state looked at before the last is one of the prices
pub step_in : (w n k m : ℕ) → 0 < w → k < n → n * w ≤ m → k * w < m
step_in w n k m some l h = omega (arith, mul-le-mul_right {m = suc k} {n = n} w l, h)

-- S = s * 2 ^ k + the signature of the first k states
abbrev pub From : List ℕ → ℕ → ℕ → ℕ → ℕ → Type 0
From P w n k s = s * 2 ^ k + sign_to w P k ≡ sign_to w P n

-- s is a word
pub from_lt : (P : List ℕ) (w n k s : ℕ) → n ≤ 64 → From P w n k s → s < 2 ^ 64
from_lt P w n k s few is =
    omega (arith, le-mul_of_pos_right s (pow_pos k), sign_lt P w n few, pow_mono {i = n} {j = 64} few)

-- no state
pub from_none : (P : List ℕ) (w n : ℕ) → From P w n n 0
from_none P w n = omega arith

-- the state before
from_more : (P : List ℕ) (w n k s : ℕ) → k < 64 → From P w n (suc k) s → From P w n k (s * 2 + reach_at P (k * w))
from_more P w n k s few is =
    let high : s * 2 ^ suc k ≡ s * 2 * 2 ^ k = ap (λ (x : ℕ). s * x) (pow-succ' 2 k) ∙ sym (mul_assoc s 2 (2 ^ k)) in
    omega (arith, add-mul (s * 2) (reach_at P (k * w)) (2 ^ k), high, sign_more P w k few)

-- a turn of the loop
pub from_down : (P : List ℕ) (w n k s : ℕ) → 0 < k → k ≤ n → n ≤ 64 → 0 < w → n * w ≤ length P → From P w n k s
    → From P w n (k - 1) (s * 2 + bool_byte (ltb (get_or P ((k - 1) * w) 0) mark))
from_down P w n k s some inside few wide fits is =
    let own : k ≡ suc (k - 1) = omega arith in
    rw (reach_byte P ((k - 1) * w) (step_in w n (k - 1) (length P) wide (omega arith) fits)) (from_more P w n (k - 1) s (omega arith) (rw own at is))

-- all states
pub from_all : (P : List ℕ) (w n s : ℕ) → From P w n 0 s → s ≡ sign_to w P n
unfolding sign_to
from_all P w n s is = omega arith
