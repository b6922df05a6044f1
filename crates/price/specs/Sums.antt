-- Laws of sums over the numbers below a count: term by term, and with one term raised; and a choice at each number below a count. Assumes nothing.
use Rattle.std.specs.Prelude.{◌≡◌, refl, ◌≢◌, ◌⊎◌, Bool, true, false, cond, ℕ, zero, suc, ◌+◌, ◌≤◌, ◌<◌, eqb}
use Rattle.std.proofs.Common.{inl, inr, arith, eqb-true}
use Rattle.std.proofs.Math.Decide.{dec_lt}
use Rattle.std.proofs.lemmas.Bool.{eqb-false}
use Rattle.loops.specs.Count.{sum}

-- ---- term by term

-- no terms but 0
pub sum_zero : (n : ℕ) → sum n (λ i. 0) ≡ 0
unfolding sum
sum_zero zero = refl
sum_zero (suc n) = omega (arith, sum_zero n)

-- the sum of sums
pub sum_add : (n : ℕ) (f g : ℕ → ℕ) → sum n (λ i. f i + g i) ≡ sum n f + sum n g
unfolding sum
sum_add zero f g = omega arith
sum_add (suc n) f g = omega (arith, sum_add n f g)

-- no term greater, no sum greater
pub sum_le : (n : ℕ) (f g : ℕ → ℕ) → ((i : ℕ) → i < n → f i ≤ g i) → sum n f ≤ sum n g
unfolding sum
sum_le zero f g h = omega arith
sum_le (suc n) f g h = omega (arith, sum_le n f g (λ i l. h i (omega arith)), h n (omega arith))

-- ---- one term raised

-- f with c more at i
unfoldable pub bump : ℕ → ℕ → (ℕ → ℕ) → ℕ → ℕ
bump i c f j = cond (eqb j i) (c + f j) (f j)

-- at i, and elsewhere
pub bump_cases : (i c : ℕ) (f : ℕ → ℕ) (j : ℕ) → ((j ≡ i) × (bump i c f j ≡ c + f j)) ⊎ ((j ≢ i) × (bump i c f j ≡ f j))
unfolding bump
bump_cases i c f j = go (eqb j i) refl
  where
    go : (b : Bool) → eqb j i ≡ b → ((j ≡ i) × (cond b (c + f j) (f j) ≡ c + f j)) ⊎ ((j ≢ i) × (cond b (c + f j) (f j) ≡ f j))
    go true e = inl (eqb-true j i e, refl)
    go false e = inr (eqb-false j i e, refl)

-- a sum without the raised term
sum_bump_out : (i c : ℕ) (f : ℕ → ℕ) (n : ℕ) → n ≤ i → sum n (bump i c f) ≡ sum n f
unfolding sum
sum_bump_out i c f zero h = refl
sum_bump_out i c f (suc n) h = go (bump_cases i c f n) (sum_bump_out i c f n (omega arith))
  where
    go : ((n ≡ i) × (bump i c f n ≡ c + f n)) ⊎ ((n ≢ i) × (bump i c f n ≡ f n)) → sum n (bump i c f) ≡ sum n f → sum n (bump i c f) + bump i c f n ≡ sum n f + f n
    go (inl q) e = omega arith
    go (inr q) e = omega arith

-- a sum with c more at one of its terms
pub sum_bump : (i c : ℕ) (f : ℕ → ℕ) (n : ℕ) → i < n → sum n (bump i c f) ≡ c + sum n f
unfolding sum
sum_bump i c f zero h = omega arith
sum_bump i c f (suc n) h = go (bump_cases i c f n) (sum_bump i c f n)
  where
    go : ((n ≡ i) × (bump i c f n ≡ c + f n)) ⊎ ((n ≢ i) × (bump i c f n ≡ f n)) → (i < n → sum n (bump i c f) ≡ c + sum n f)
        → sum n (bump i c f) + bump i c f n ≡ c + (sum n f + f n)
    go (inl q) r = omega (arith, sum_bump_out i c f n (omega arith))
    go (inr q) r = omega (arith, r (omega arith))

-- ---- choices

-- what there is at each number below n, as a function
pub gather : {A : Type 0} (d : A) (n : ℕ) (P : ℕ → A → Type 0) → ((i : ℕ) → i < n → (x : A) × P i x) → (f : ℕ → A) × ((i : ℕ) → i < n → P i (f i))
gather {A} d n P h = (λ i. at i (dec_lt i n), λ i l. good i l (dec_lt i n))
  where
    at : (i : ℕ) → Dec (i < n) → A
    at i (yes l) = (h i l).0
    at i (no m) = d

    good : (i : ℕ) → i < n → (e : Dec (i < n)) → P i (at i e)
    good i l (yes l') = (h i l').1
    good i l (no m) = absurd (m l)
