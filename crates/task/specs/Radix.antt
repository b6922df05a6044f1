-- Laws of mixed-radix numbers: a factor's values give its number, and the number's digits are the values again.
-- Only the variables of the factor matter. Assumes nothing.
use Rattle.std.specs.Prelude.{◌≡◌, Bool}
use Rattle.std.proofs.Math.Path.{refl, ap}
use Rattle.std.proofs.Common.{◌∙◌, not-suc-le-zero, mul-zero, mod-lt, div-add-mod', div-lt_iff_lt-mul}
use Rattle.std.proofs.Math.Bool.{true, false}
use Prim.Native.Nat.{ℕ, zero, suc, ◌*◌, ◌/◌, ◌<◌}
use native.Mathlib.Omega.{arith}
use Rattle.std.proofs.Math.Arith.{digits_div, digits_mod, digits_lt}
use Rattle.std.proofs.Math.Dec.{eqb}
use borrow.Author.Tests.{eqb-true, eqb-false, eq-eqb, ne_eqb}
use Rattle.task.specs.Meaning.{State}
use Rattle.task.specs.Factors.{number_to, states_to, digit_to}

-- a product above some number has no factor 0
pub product_pos : {x : ℕ} (m c : ℕ) → x < m * c → 0 < c
product_pos m zero h = absurd (not-suc-le-zero (rw mul-zero at h))
product_pos m (suc c) h = omega arith

module _ (fac siz : ℕ → ℕ) (g : ℕ) where
  -- a number is below the count of states
  pub num_lt : (s : State) (n : ℕ) → ((v : ℕ) → v < n → fac v ≡ g → s v < siz v) → number_to fac siz g s n < states_to fac siz g n
  unfolding number_to states_to
  num_lt s zero h = omega arith
  num_lt s (suc n) h = go _ refl (num_lt s n (λ v l. h v (omega arith)))
    where
      go : (b : Bool) → eqb (fac n) g ≡ b → number_to fac siz g s n < states_to fac siz g n → number_to fac siz g s (suc n) < states_to fac siz g (suc n)
      go true e r = rw e (digits_lt r (h n (omega arith) (eqb-true _ _ e)))
      go false e r = rw e r

  -- a number depends on the factor's own values alone
  pub num_ext : (s r : State) (n : ℕ) → ((v : ℕ) → v < n → fac v ≡ g → s v ≡ r v) → number_to fac siz g s n ≡ number_to fac siz g r n
  unfolding number_to
  num_ext s r zero h = refl
  num_ext s r (suc n) h = go _ refl (num_ext s r n (λ v l. h v (omega arith)))
    where
      go : (b : Bool) → eqb (fac n) g ≡ b → number_to fac siz g s n ≡ number_to fac siz g r n
          → number_to fac siz g s (suc n) ≡ number_to fac siz g r (suc n)
      go true e q = rw (e, q, h n (omega arith) (eqb-true _ _ e))
      go false e q = rw e q

  -- a digit of the number is the value
  pub dig_num : (s : State) (v n : ℕ) → v < n → fac v ≡ g → ((w : ℕ) → w < n → fac w ≡ g → s w < siz w)
      → digit_to fac siz g (number_to fac siz g s n) v n ≡ s v
  unfolding number_to digit_to
  dig_num s v zero l f h = absurd (not-suc-le-zero l)
  dig_num s v (suc n) l f h = go _ refl _ refl (λ l'. dig_num s v n l' f (λ w m. h w (omega arith)))
    where
      go : (b : Bool) → eqb (fac n) g ≡ b → (c : Bool) → eqb n v ≡ c → (v < n → digit_to fac siz g (number_to fac siz g s n) v n ≡ s v)
          → digit_to fac siz g (number_to fac siz g s (suc n)) v (suc n) ≡ s v
      go true e true d r = rw (e, d) (digits_mod (number_to fac siz g s n) (h n (omega arith) (eqb-true _ _ e)) ∙ ap s (eqb-true n v d))
      go true e false d r = rw (e, d, digits_div (number_to fac siz g s n) (h n (omega arith) (eqb-true _ _ e))) (r (omega (arith, eqb-false n v d)))
      go false e true d r = absurd (eqb-false (fac n) g e (ap fac (eqb-true n v d) ∙ f))
      go false e false d r = rw e (r (omega (arith, eqb-false n v d)))

  -- a digit is inside the size
  pub dig_lt : (x v n : ℕ) → v < n → fac v ≡ g → 0 < siz v → digit_to fac siz g x v n < siz v
  unfolding digit_to
  dig_lt x v zero l f z = absurd (not-suc-le-zero l)
  dig_lt x v (suc n) l f z = go _ refl _ refl (λ y l'. dig_lt y v n l' f z)
    where
      go : (b : Bool) → eqb (fac n) g ≡ b → (c : Bool) → eqb n v ≡ c → ((y : ℕ) → v < n → digit_to fac siz g y v n < siz v)
          → digit_to fac siz g x v (suc n) < siz v
      go true e true d r = rw (e, d, eqb-true n v d) (mod-lt x z)
      go true e false d r = rw (e, d) (r (x / siz n) (omega (arith, eqb-false n v d)))
      go false e true d r = absurd (eqb-false (fac n) g e (ap fac (eqb-true n v d) ∙ f))
      go false e false d r = rw e (r x (omega (arith, eqb-false n v d)))

  -- the number of the digits is the number
  pub num_dig : (x n : ℕ) → x < states_to fac siz g n → number_to fac siz g (λ v. digit_to fac siz g x v n) n ≡ x
  unfolding number_to states_to digit_to
  num_dig x zero h = omega arith
  num_dig x (suc n) h = go _ refl h (λ y. num_dig y n)
    where
      -- below n, the digits of x are those of x / siz n, or of x
      low : eqb (fac n) g ≡ true → (v : ℕ) → v < n → digit_to fac siz g x v (suc n) ≡ digit_to fac siz g (x / siz n) v n
      low e v l = rw (e, ne_eqb n v (λ q. omega arith))

      same : eqb (fac n) g ≡ false → (v : ℕ) → v < n → digit_to fac siz g x v (suc n) ≡ digit_to fac siz g x v n
      same e v l = rw e

      go : (b : Bool) → eqb (fac n) g ≡ b → x < states_to fac siz g (suc n)
          → ((y : ℕ) → y < states_to fac siz g n → number_to fac siz g (λ v. digit_to fac siz g y v n) n ≡ y)
          → number_to fac siz g (λ v. digit_to fac siz g x v (suc n)) (suc n) ≡ x
      go true e l r =
          let l' : x < states_to fac siz g n * siz n = rw e at l in
          let q = num_ext _ _ n (λ v m _. low e v m) ∙ r (x / siz n) ((div-lt_iff_lt-mul (product_pos _ (siz n) l')).1 l') in
          rw (q, e, eq-eqb n n refl) (div-add-mod' x (siz n))
      go false e l r = let q = num_ext _ _ n (λ v m _. same e v m) ∙ r x (rw e at l) in rw (q, e)
