-- Laws of passing prices over a centre action: what comes out came through at its own price, the lowest that does. Assumes nothing.
use Rattle.std.specs.Prelude.{◌≡◌, ◌⊎◌, List, length}
use Rattle.std.proofs.Common.{◌∙◌, inl, inr, not-suc-le-zero}
use Prim.Native.Nat.{ℕ, zero, suc, ◌≤◌, ◌<◌}
use Rattle.std.proofs.Math.Decide.{dec_le}
use native.Mathlib.Omega.{arith}
use Rattle.std.proofs.Math.ListN.{get_or, length-replicate}
use Rattle.leaf.specs.Settle.Walks.{Capped, Below}
use Rattle.leaf.specs.Settle.Steps.{below_suc, replicate_at, lower_length, lower_from, lower_below, lower_hit}
use Rattle.leaf.specs.Pass.{pass}

-- ---- pass, of the states below i

module _ (M n : ℕ) (thr : ℕ → ℕ) (P : List ℕ) where
  -- there are n states behind the action
  pub pass_length : (i : ℕ) → length (pass M n thr P i) ≡ n
  unfolding pass
  pass_length zero = length-replicate n M
  pass_length (suc x) = lower_length M (pass M n thr P x) (thr x) (get_or P x M) ∙ pass_length x

  -- no price is above M
  pub pass_cap : (i : ℕ) → Capped M (pass M n thr P i)
  unfolding pass
  pass_cap zero y = omega (arith, replicate_at n M y)
  pass_cap (suc x) y = omega (arith, pass_cap x y, lower_below M (pass M n thr P x) (thr x) (get_or P x M) y)

  -- what the action makes of a state has the state's price at most
  pub pass_hit : (i x y : ℕ) → y < n → x < i → thr x ≡ suc y → get_or (pass M n thr P i) y M ≤ get_or P x M
  unfolding pass
  pass_hit zero x y h l e = absurd (not-suc-le-zero l)
  pass_hit (suc i) x y h l e =
      below_suc (λ z. thr z ≡ suc y → get_or (pass M n thr P (suc i)) y M ≤ get_or P z M) i
      (λ z g f. omega (arith, pass_hit i z y h g f, lower_below M (pass M n thr P i) (thr i) (get_or P i M) y))
      (λ f. rw f (lower_hit M _ y (get_or P i M) (rw (pass_length i) h))) x l e

  -- a price below M is that of a state which came through
  pub pass_from : (i y : ℕ) → get_or (pass M n thr P i) y M < M → (x : ℕ) × (x < i) × (thr x ≡ suc y) × (get_or (pass M n thr P i) y M ≡ get_or P x M)
  unfolding pass
  pass_from zero y l = absurd (omega (arith, replicate_at n M y))
  pass_from (suc i) y l = go (lower_from M (pass M n thr P i) (thr i) (get_or P i M) y) (pass_from i y) l
    where
      go : {p q : ℕ} → (q ≡ p) ⊎ ((thr i ≡ suc y) × (q ≡ get_or P i M) × (get_or P i M ≤ p))
          → (p < M → (x : ℕ) × (x < i) × (thr x ≡ suc y) × (p ≡ get_or P x M)) → q < M → (x : ℕ) × (x < suc i) × (thr x ≡ suc y) × (q ≡ get_or P x M)
      go (inl e) r l = let (x, b, t, f) = r (omega arith) in (x, omega arith, t, e ∙ f)
      go (inr (t, e, h)) r l = (i, omega arith, t, e)

-- ---- pass, of all states

-- lower prices pass at lower prices
pub pass_mono : (M n : ℕ) (thr : ℕ → ℕ) (P R : List ℕ) → ((x y : ℕ) → x < n → thr x ≡ suc y → y < n) → ((x : ℕ) → x < n → get_or P x M ≤ get_or R x M)
    → Below M (pass M n thr P n) (pass M n thr R n)
pass_mono M n thr P R ranged h y = go (dec_le M (get_or (pass M n thr R n) y M))
  where
    go : Dec (M ≤ get_or (pass M n thr R n) y M) → get_or (pass M n thr P n) y M ≤ get_or (pass M n thr R n) y M
    go (yes q) = omega (arith, pass_cap M n thr P n y)
    go (no q) =
        let (x, l, t, e) = pass_from M n thr R n y (omega arith) in
        omega (arith, h x l, pass_hit M n thr P n x y (ranged x y l t) l t)

-- where no price is below b, none that passes is
pub pass_floor : (M n : ℕ) (thr : ℕ → ℕ) (P : List ℕ) (b : ℕ) → b ≤ M → ((x : ℕ) → x < n → b ≤ get_or P x M) → (y : ℕ) → b ≤ get_or (pass M n thr P n) y M
pass_floor M n thr P b c h y = go (dec_le M (get_or (pass M n thr P n) y M))
  where
    go : Dec (M ≤ get_or (pass M n thr P n) y M) → b ≤ get_or (pass M n thr P n) y M
    go (yes q) = omega arith
    go (no q) = let (x, l, t, e) = pass_from M n thr P n y (omega arith) in omega (arith, h x l)
