-- Laws of the lowest number at which a test passes. Assumes nothing.
use Rattle.std.specs.Prelude.{◌≡◌, refl, ◌⊎◌, Bool, true, false, cond, ℕ, zero, suc, ◌<◌, ltb}
use Rattle.std.proofs.Common.{sym, ◌∙◌, inl, inr, true≢false, not-suc-le-zero, arith, lt-ltb, le-ltb}
use Rattle.leaf.specs.Settle.Steps.{below_suc}
use Rattle.search.specs.Plan.{lowest}

-- k is below n, passes, and no lower number does
pub record Found (n : ℕ) (test : ℕ → Bool) (k : ℕ) : Type 0 where
  pub inside : k < n
  pub passes : test k ≡ true
  pub first : (j : ℕ) → j < k → test j ≡ false

-- the test fails at every number below n
abbrev pub Fails : ℕ → (ℕ → Bool) → Type 0
Fails n test = (j : ℕ) → j < n → test j ≡ false

-- a turn more, where k is the lowest so far
lowest_turn : (n : ℕ) (test : ℕ → Bool) (k : ℕ) → Found n test k ⊎ ((k ≡ n) × Fails n test)
    → Found (suc n) test (cond (ltb k n) k (cond (test n) n (suc n))) ⊎ ((cond (ltb k n) k (cond (test n) n (suc n)) ≡ suc n) × Fails (suc n) test)
lowest_turn n test k (inl f) =
    rw (lt-ltb k n f.inside) (inl (record { inside = omega (arith, f.inside); passes = f.passes; first = f.first }))
lowest_turn n test k (inr (e, f)) = rw (le-ltb k n (omega arith)) (last (test n) refl)
  where
    last : (b : Bool) → test n ≡ b → Found (suc n) test (cond b n (suc n)) ⊎ ((cond b n (suc n) ≡ suc n) × Fails (suc n) test)
    last true q = inl (record { inside = omega arith; passes = q; first = f })
    last false q = inr (refl, below_suc (λ j. test j ≡ false) n f q)

-- the lowest number passes, or none does
pub lowest_cases : (n : ℕ) (test : ℕ → Bool) → Found n test (lowest n test) ⊎ ((lowest n test ≡ n) × Fails n test)
unfolding lowest
lowest_cases zero test = inr (refl, λ j h. absurd (not-suc-le-zero h))
lowest_cases (suc n) test = lowest_turn n test (lowest n test) (lowest_cases n test)

-- where some number passes, the lowest does, and no lower one
pub lowest_is : (n : ℕ) (test : ℕ → Bool) (k : ℕ) → k < n → test k ≡ true → Found n test (lowest n test)
lowest_is n test k h e = go (lowest_cases n test)
  where
    go : Found n test (lowest n test) ⊎ ((lowest n test ≡ n) × Fails n test) → Found n test (lowest n test)
    go (inl f) = f
    go (inr (q, f)) = absurd (true≢false (sym e ∙ f k h))

-- where none passes, it is n
pub lowest_none : (n : ℕ) (test : ℕ → Bool) → Fails n test → lowest n test ≡ n
lowest_none n test h = go (lowest_cases n test)
  where
    go : Found n test (lowest n test) ⊎ ((lowest n test ≡ n) × Fails n test) → lowest n test ≡ n
    go (inl f) = absurd (true≢false (sym f.passes ∙ h (lowest n test) f.inside))
    go (inr (q, f)) = q
