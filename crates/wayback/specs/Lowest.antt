-- More laws of the lowest number at which a test passes. Assumes nothing.
use Rattle.std.specs.Prelude.{◌≡◌, refl, Bool, true, not, cond, List, Option, Some, None, unwrap_or, ℕ, zero, suc, ◌<◌, ltb, length, get_or}
use Rattle.std.proofs.Common.{sym, ap, ◌∙◌, true≢false, arith, lt-ltb, le-ltb}
use Rattle.std.proofs.Math.Decide.{dec_lt}
use Rattle.std.specs.List.{zip, position_or_len}
use Rattle.std.proofs.lemmas.List.Sums.{prefix_len-le-length, fails_before_first, passes_at_first}
use Rattle.std.proofs.lemmas.Slice.Zip.{length-zip, get_or-zip}
use Rattle.search.specs.Plan.{lowest}
use Rattle.search.specs.Plan.Lowest.{Found, Fails, lowest_is, lowest_none}

-- the first number that passes is the lowest
pub lowest_first : (n : ℕ) (test : ℕ → Bool) (k : ℕ) → k < n → test k ≡ true → Fails k test → lowest n test ≡ k
lowest_first n test k h e f = go (lowest_is n test k h e) (dec_lt (lowest n test) k) (dec_lt k (lowest n test))
  where
    go : {r : ℕ} → Found n test r → Dec (r < k) → Dec (k < r) → r ≡ k
    go d (yes l) w = absurd (true≢false (sym d.passes ∙ f _ l))
    go d (no a) (yes l) = absurd (true≢false (sym e ∙ d.first k l))
    go d (no a) (no b) = omega arith

-- tests that agree below n have the same lowest number
pub lowest_ext : (n : ℕ) (p q : ℕ → Bool) → ((k : ℕ) → k < n → p k ≡ q k) → lowest n p ≡ lowest n q
unfolding lowest
lowest_ext zero p q h = refl
lowest_ext (suc n) p q h = rw (lowest_ext n p q (λ k l. h k (omega arith)), h n (omega arith))

-- of two lists of the same length, side by side, the first pair that passes has the lowest place
pub lowest_zip : (test : ℕ → Bool) (p : ℕ × ℕ → Bool) (xs ys : List ℕ) → length xs ≡ length ys
    → ((k : ℕ) → k < length ys → test k ≡ p (get_or xs k 0, get_or ys k 0)) → lowest (length ys) test ≡ position_or_len p (zip xs ys)
lowest_zip test p xs ys e same = go (dec_lt r (length ys))
  where
    r : ℕ
    r = position_or_len p (zip xs ys)

    long : length (zip xs ys) ≡ length ys
    long = omega (arith, length-zip xs ys)

    pair : (k : ℕ) → k < length ys → test k ≡ p (get_or (zip xs ys) k (0, 0))
    pair k h = same k h ∙ ap p (sym (get_or-zip xs ys k (0, 0) (omega arith) h))

    go : Dec (r < length ys) → lowest (length ys) test ≡ r
    go (yes l) =
        lowest_first (length ys) test r l (pair r l ∙ passes_at_first p (zip xs ys) (0, 0) (omega (arith, long)))
        (λ k h. pair k (omega arith) ∙ fails_before_first p (zip xs ys) k (0, 0) h)
    go (no n) =
        lowest_none (length ys) test (λ k h. pair k h ∙ fails_before_first p (zip xs ys) k (0, 0) (omega arith)) ∙ omega (arith, prefix_len-le-length (λ q. not (p q)) (zip xs ys), long)

-- so that is what looking for its place finds, or else the length
pub lowest_found : (test : ℕ → Bool) (p : ℕ × ℕ → Bool) (xs ys : List ℕ) → length xs ≡ length ys
    → ((k : ℕ) → k < length ys → test k ≡ p (get_or xs k 0, get_or ys k 0)) → (o : Option ℕ)
    → o ≡ cond (ltb (position_or_len p (zip xs ys)) (length (zip xs ys))) (Some (position_or_len p (zip xs ys))) None
    → unwrap_or o (length ys) ≡ lowest (length ys) test
lowest_found test p xs ys e same o found =
    ap (λ (q : Option ℕ). unwrap_or q (length ys)) found ∙ go (dec_lt r m) ∙ sym (lowest_zip test p xs ys e same)
  where
    r : ℕ
    r = position_or_len p (zip xs ys)

    m : ℕ
    m = length (zip xs ys)

    go : Dec (r < m) → unwrap_or (cond (ltb r m) (Some r) None) (length ys) ≡ r
    go (yes l) = rw (lt-ltb r m l)
    go (no n) = rw (le-ltb r m (omega arith)) (omega (arith, length-zip xs ys, prefix_len-le-length (λ q. not (p q)) (zip xs ys)))
