-- Laws of packs: what stands in a pack, and that the same packs are the same values. Assumes nothing.
use Rattle.std.specs.Prelude.{◌≡◌, refl, ◌⊎◌, true, false, List, eqb}
use Rattle.std.proofs.Common.{sym, ap₂, subst, ◌∙◌, inl, inr, not-suc-le-zero, add_comm, mul_assoc, pow-suc, eq-eqb, eqb-true, pow-add, pow_pos}
use Rattle.std.proofs.Math.Path.{ap}
use Prim.Native.Nat.{ℕ, zero, suc, ◌+◌, ◌-◌, ◌*◌, ◌/◌, ◌%◌, ◌^◌, ◌≤◌, ◌<◌}
use Rattle.std.proofs.Math.Nat.{pow-succ', add-mul-div_right}
use native.Mathlib.Omega.{arith}
use Rattle.std.proofs.Math.Decide.{dec_lt}
use Rattle.std.proofs.Math.Arith.{digits_lt, digits_div, digits_mod}
use Rattle.std.proofs.Math.ListN.{get_or}
use Rattle.loops.specs.Count.{all}
use Rattle.loops.specs.Count.Laws.{below_cases, all_in, all_out, test_cases}
use Rattle.rows.specs.Row.{pack_to}

-- the same values have the same pack
pub pack_same : (xs ys : List ℕ) (b n : ℕ) → ((v : ℕ) → v < b + n → get_or xs v 0 ≡ get_or ys v 0) → pack_to xs b n ≡ pack_to ys b n
unfolding pack_to
pack_same xs ys b zero h = refl
pack_same xs ys b (suc n) h =
    ap₂ (λ (p x : ℕ). p + x * 256 ^ n) (pack_same xs ys b n (λ v l. h v (omega arith))) (h (b + n) (omega arith))

-- the highest digit and the others, of two numbers that are the same
digit_same : (m p q x y : ℕ) → p < m → q < m → p + x * m ≡ q + y * m → (x ≡ y) × (p ≡ q)
digit_same m p q x y k l e =
    let f : x * m + p ≡ y * m + q = add_comm (x * m) p ∙ e ∙ add_comm q (y * m) in (
      sym (digits_div x k) ∙ ap (λ (i : ℕ). i / m) f ∙ digits_div y l,
      sym (digits_mod x k) ∙ ap (λ (i : ℕ). i % m) f ∙ digits_mod y l,
    )

-- a pack of n values below 256 is below 256 ^ n
pack_lt : (xs : List ℕ) → ((v : ℕ) → v < 32 → get_or xs v 0 < 256) → (b n : ℕ) → b + n ≤ 32 → pack_to xs b n < 256 ^ n
unfolding pack_to
pack_lt xs small b zero l = omega arith
pack_lt xs small b (suc n) l =
    omega (arith, digits_lt (small (b + n) (omega arith)) (pack_lt xs small b n (omega arith)), pow-succ' 256 n)

-- k bytes as bits
byte_pow : (k : ℕ) → 2 ^ (k * 8) ≡ 256 ^ k
byte_pow zero = refl
byte_pow (suc k) =
    let e : suc k * 8 ≡ k * 8 + 8 = omega arith in
    ap (λ (i : ℕ). 2 ^ i) e ∙ pow-add 2 (k * 8) 8 ∙ ap (λ (i : ℕ). i * 256) (byte_pow k) ∙ sym (pow-suc 256 k)

-- a digit above place k does not count in what stands at place k
above_place : (p x k j : ℕ) → (p + x * 256 ^ (suc j + k)) / 256 ^ k % 256 ≡ p / 256 ^ k % 256
above_place p x k j =
    let m = 256 ^ k in
    let z = x * 256 ^ j in
    let e : x * 256 ^ (suc j + k) ≡ z * 256 * m =
    ap (λ (i : ℕ). x * i) (pow-add 256 (suc j) k ∙ ap (λ (i : ℕ). i * m) (pow-suc 256 j))
    ∙ sym (mul_assoc x (256 ^ j * 256) m) ∙ ap (λ (i : ℕ). i * m) (sym (mul_assoc x (256 ^ j) 256)) in
    ap (λ (i : ℕ). (p + i) / m % 256) e ∙ ap (λ (i : ℕ). i % 256) (add-mul-div_right p (z * 256) (subst (λ (i : ℕ). 0 < i) (byte_pow k) (pow_pos (k * 8)))) ∙ omega arith

module _ (xs : List ℕ) (small : (v : ℕ) → v < 32 → get_or xs v 0 < 256) (b k : ℕ) where
  -- digit k of a pack of n values below 256 is value k of them
  digit_is : (n : ℕ) → b + n ≤ 32 → k < n → pack_to xs b n / 256 ^ k % 256 ≡ get_or xs (b + k) 0
  unfolding pack_to
  digit_is zero f h = absurd (not-suc-le-zero h)
  digit_is (suc n) f h = go (below_cases h) (digit_is n (omega arith))
    where
      go : (k < n) ⊎ (k ≡ n) → (k < n → pack_to xs b n / 256 ^ k % 256 ≡ get_or xs (b + k) 0)
          → (pack_to xs b n + get_or xs (b + n) 0 * 256 ^ n) / 256 ^ k % 256 ≡ get_or xs (b + k) 0
      go (inl l) r =
          let e : suc (n - k - 1) + k ≡ n = omega arith in (rw e at (above_place (pack_to xs b n) (get_or xs (b + n) 0) k (n - k - 1))) ∙ r l
      go (inr q) r =
          rw q
          (ap (λ (i : ℕ). i / 256 ^ n % 256) (add_comm (pack_to xs b n) (get_or xs (b + n) 0 * 256 ^ n))
          ∙ ap (λ (i : ℕ). i % 256) (digits_div (get_or xs (b + n) 0) (pack_lt xs small b n (omega arith)))
          ∙ omega (arith, small (b + n) (omega arith)))

  -- so is its byte k
  pub pack_byte : (n : ℕ) → b + n ≤ 32 → k < n → pack_to xs b n / 2 ^ (k * 8) % 256 ≡ get_or xs (b + k) 0
  pack_byte n f h = ap (λ (i : ℕ). pack_to xs b n / i % 256) (byte_pow k) ∙ digit_is n f h

module _ (xs ys : List ℕ) (small : (v : ℕ) → v < 32 → get_or xs v 0 < 256) (low : (v : ℕ) → v < 32 → get_or ys v 0 < 256) where
  -- the same pack is of the same values
  pack_out : (b n : ℕ) → b + n ≤ 32 → pack_to xs b n ≡ pack_to ys b n → (k : ℕ) → k < n → get_or xs (b + k) 0 ≡ get_or ys (b + k) 0
  unfolding pack_to
  pack_out b zero f e k l = absurd (not-suc-le-zero l)
  pack_out b (suc n) f e k l = go (below_cases l) (pack_out b n (omega arith) both.1 k)
    where
      both : (get_or xs (b + n) 0 ≡ get_or ys (b + n) 0) × (pack_to xs b n ≡ pack_to ys b n)
      both = digit_same (256 ^ n) (pack_to xs b n) (pack_to ys b n) _ _ (pack_lt xs small b n (omega arith)) (pack_lt ys low b n (omega arith)) e

      go : (k < n) ⊎ (k ≡ n) → (k < n → get_or xs (b + k) 0 ≡ get_or ys (b + k) 0) → get_or xs (b + k) 0 ≡ get_or ys (b + k) 0
      go (inl h) r = r h
      go (inr q) r = rw q both.0

  -- so of a quarter
  quarter : (b : ℕ) → b ≤ 24 → pack_to xs b 8 ≡ pack_to ys b 8 → (v : ℕ) → b ≤ v → v < b + 8 → get_or xs v 0 ≡ get_or ys v 0
  quarter b f e v l h = let s : b + (v - b) ≡ v = omega arith in rw s at (pack_out b 8 (omega arith) e (v - b) (omega arith))

  -- four packs that are the same: all values are
  pub packs_same : pack_to xs 0 8 ≡ pack_to ys 0 8 → pack_to xs 8 8 ≡ pack_to ys 8 8 → pack_to xs 16 8 ≡ pack_to ys 16 8 → pack_to xs 24 8 ≡ pack_to ys 24 8
      → all 32 (λ v. eqb (get_or xs v 0) (get_or ys v 0)) ≡ true
  packs_same p q r s =
      all_in 32 (λ v. eqb (get_or xs v 0) (get_or ys v 0)) (λ v l. eq-eqb _ _ (go v (dec_lt v 8) (dec_lt v 16) (dec_lt v 24) l))
    where
      go : (v : ℕ) → Dec (v < 8) → Dec (v < 16) → Dec (v < 24) → v < 32 → get_or xs v 0 ≡ get_or ys v 0
      go v (yes a) b c l = quarter 0 (omega arith) p v (omega arith) (omega arith)
      go v (no a) (yes b) c l = quarter 8 (omega arith) q v (omega arith) (omega arith)
      go v (no a) (no b) (yes c) l = quarter 16 (omega arith) r v (omega arith) (omega arith)
      go v (no a) (no b) (no c) l = quarter 24 (omega arith) s v (omega arith) (omega arith)

-- a pack that is not the same: some value is not
pub packs_other : (xs ys : List ℕ) (b : ℕ) → b ≤ 24 → (pack_to xs b 8 ≡ pack_to ys b 8 → ⊥) → all 32 (λ v. eqb (get_or xs v 0) (get_or ys v 0)) ≡ false
packs_other xs ys b l d = go (test_cases (all 32 (λ v. eqb (get_or xs v 0) (get_or ys v 0))))
  where
    go : (all 32 (λ v. eqb (get_or xs v 0) (get_or ys v 0)) ≡ true) ⊎ (all 32 (λ v. eqb (get_or xs v 0) (get_or ys v 0)) ≡ false)
        → all 32 (λ v. eqb (get_or xs v 0) (get_or ys v 0)) ≡ false
    go (inl e) = absurd (d (pack_same xs ys b 8 (λ v k. eqb-true _ _ (all_out 32 _ e v (omega arith)))))
    go (inr e) = e
