-- Laws of moves: what an action makes of a leaf state goes by the leaf's variables, a digit more for each. Assumes nothing.
use Rattle.std.specs.Prelude.{◌≡◌, Bool, true, false, ℕ, zero, suc, ◌+◌, ◌-◌, ◌*◌, ◌/◌, ◌%◌, ◌≤◌, ◌<◌, eqb}
use Rattle.std.proofs.Math.Path.{refl, ap₂}
use Rattle.std.proofs.Common.{◌∙◌, inl, inr, mul-le-mul_left, mul-one, suc-mul, add-one, arith}
use Rattle.std.proofs.Math.Bool.{◌&&◌, and-true}
use Rattle.std.proofs.Math.Decide.{ℕ_discrete}
use borrow.Author.Tests.{eqb-false, eq-eqb, ne_eqb}
use Rattle.loops.specs.Count.{all}
use Rattle.task.specs.declared.Task.{Task}
use Rattle.task.specs.Meaning.{State, Partial, free, size, factor, condition, effect, met, put}
use Rattle.task.specs.Factors.{number_to, states_to, digit_to, holds_in, gate, number, values_of, meets_in, to}
use Rattle.task.specs.Valid.{PairIn}
use Rattle.task.specs.Pairs.{holds_ext}
use Rattle.task.specs.Radix.{num_lt, num_ext, dig_lt}
use Rattle.digits.specs.Moves.{to_with, value_after, digit_move, Small}

-- ---- the definition on a task

pub to_with_lem : (t : Task) (l a x : ℕ) → to t l a x ≡ to_with t.variables (factor t) (size t) (condition t a) (effect t a) l x
unfolding to meets_in number values_of to_with
to_with_lem t l a x = refl

-- ---- digits

-- the values of leaf l's n variables in its state x
abbrev values : (ℕ → ℕ) → (ℕ → ℕ) → ℕ → ℕ → ℕ → State
values fac siz l x n v = digit_to fac siz l x v n

module _ (fac siz : ℕ → ℕ) (l x n : ℕ) where
  -- below a variable of the leaf stand the digits of the quotient
  low : eqb (fac n) l ≡ true → (v : ℕ) → v < n → values fac siz l x (suc n) v ≡ values fac siz l (x / siz n) n v
  unfolding digit_to
  low e v m = rw (e, ne_eqb n v (λ q. omega arith))

  -- its own digit is the remainder
  last : eqb (fac n) l ≡ true → values fac siz l x (suc n) n ≡ x % siz n
  unfolding digit_to
  last e = rw (e, eq-eqb n n refl)

  -- any other variable takes no digit
  same : eqb (fac n) l ≡ false → (v : ℕ) → values fac siz l x (suc n) v ≡ values fac siz l x n v
  unfolding digit_to
  same e v = rw e

  -- a variable more: conditions
  holds_leaf : (con : Partial) → eqb (fac n) l ≡ true
      → holds_in (suc n) fac l con (values fac siz l x (suc n)) ≡ (holds_in n fac l con (values fac siz l (x / siz n) n) && met (con n) (x % siz n))
  unfolding holds_in all
  holds_leaf con e = ap₂ ◌&&◌ (holds_ext n fac l con _ _ (λ v m f. low e v m)) (rw (e, last e))

  holds_other : (con : Partial) → eqb (fac n) l ≡ false → holds_in (suc n) fac l con (values fac siz l x (suc n)) ≡ holds_in n fac l con (values fac siz l x n)
  unfolding holds_in all
  holds_other con e = ap₂ ◌&&◌ (holds_ext n fac l con _ _ (λ v m f. same e v)) (rw e) ∙ and-true _

  -- a variable more: the number behind the effects
  number_leaf : (eff : Partial) → eqb (fac n) l ≡ true
      → number_to fac siz l (put eff (values fac siz l x (suc n))) (suc n)
      ≡ number_to fac siz l (put eff (values fac siz l (x / siz n) n)) n * siz n + value_after (eff n) (x % siz n)
  unfolding number_to
  number_leaf eff e =
      let q = num_ext fac siz l (put eff (values fac siz l x (suc n))) (put eff (values fac siz l (x / siz n) n)) n (λ v m f. rw (low e v m)) in
      rw (e, q, last e)

  number_other : (eff : Partial) → eqb (fac n) l ≡ false
      → number_to fac siz l (put eff (values fac siz l x (suc n))) (suc n) ≡ number_to fac siz l (put eff (values fac siz l x n)) n
  unfolding number_to
  number_other eff e = rw e (num_ext fac siz l _ _ n (λ v m f. rw (same e v)))

-- ---- what an action makes of a state

-- where a digit more, d of size z, is tested too: its condition is p and its effect q
gate_more : (b t : Bool) (y z p q d : ℕ) → met p d ≡ t → gate (b && t) (y * z + value_after q d) ≡ digit_move (gate b y) z p q d
unfolding digit_move
gate_more true true y z p q d e = let k : suc y - 1 ≡ y = omega arith in rw (e, ne_eqb (suc y) 0 (λ h. omega arith), k) (omega arith)
gate_more true false y z p q d e = rw (e, ne_eqb (suc y) 0 (λ h. omega arith))
gate_more false t y z p q d e = refl

module _ (fac siz : ℕ → ℕ) (con eff : Partial) (l : ℕ) where
  -- without variables there is one state, and it stays
  pub to_none : (x : ℕ) → to_with 0 fac siz con eff l x ≡ 1
  unfolding to_with holds_in all number_to
  to_none x = refl

  -- a variable of the leaf: a digit more
  pub to_leaf : (n x : ℕ) → eqb (fac n) l ≡ true
      → to_with (n + 1) fac siz con eff l x ≡ digit_move (to_with n fac siz con eff l (x / siz n)) (siz n) (con n) (eff n) (x % siz n)
  unfolding to_with
  to_leaf n x e =
      rw (add-one, holds_leaf fac siz l x n con e, number_leaf fac siz l x n eff e)
      (gate_more (holds_in n fac l con (values fac siz l (x / siz n) n)) _ _ (siz n) (con n) (eff n) (x % siz n) refl)

  -- any other variable
  pub to_other : (n x : ℕ) → eqb (fac n) l ≡ false → to_with (n + 1) fac siz con eff l x ≡ to_with n fac siz con eff l x
  unfolding to_with
  to_other n x e = rw (add-one, holds_other fac siz l x n con e, number_other fac siz l x n eff e)

-- ---- numbers that fit

-- the leaf of fewer variables has fewer states
pub states_less : (fac siz : ℕ → ℕ) (l v n : ℕ) → v ≤ n → ((k : ℕ) → k < n → 1 ≤ siz k) → states_to fac siz l v ≤ states_to fac siz l n
unfolding states_to
states_less fac siz l v zero m h = let e : v ≡ 0 = omega arith in rw e (omega arith)
states_less fac siz l v (suc n) m h = go (ℕ_discrete v (suc n)) (λ m'. states_less fac siz l v n m' (λ k o. h k (omega arith)))
  where
    one_more : (b : Bool) → eqb (fac n) l ≡ b → states_to fac siz l n ≤ states_to fac siz l (suc n)
    one_more true e = rw e (omega (arith, mul-one (states_to fac siz l n), mul-le-mul_left (states_to fac siz l n) (h n (omega arith))))
    one_more false e = rw e (omega arith)

    go : Dec (v ≡ suc n) → (v ≤ n → states_to fac siz l v ≤ states_to fac siz l n) → states_to fac siz l v ≤ states_to fac siz l (suc n)
    go (yes e) r = rw e (omega arith)
    go (no d) r = omega (arith, r (omega arith), one_more _ refl)

-- the next value of a variable is one of its values
pub value_in : (z x d : ℕ) → d < z → PairIn z x → value_after x d < z
value_in z x d h k = go k _ refl
  where
    go : PairIn z x → (b : Bool) → eqb x free ≡ b → value_after x d < z
    go k true e = rw e h
    go (inl q) false e = absurd (eqb-false x free e q)
    go (inr m) false e = rw e m

-- the number with a digit more is small
pub digit_fits : (k z q d : ℕ) → 1 ≤ k → k * z ≤ 256 → d < z → PairIn z q → (k - 1) * z + value_after q d < 256
digit_fits zero z q d h few l i = absurd (omega arith)
digit_fits (suc k) z q d h few l i = let e : suc k - 1 ≡ k = omega arith in rw e (omega (arith, suc-mul k z, value_in z q d l i))

module _ (fac siz : ℕ → ℕ) (con eff : Partial) (l n : ℕ) (small : Small n fac siz eff l) where
  -- a leaf has a state
  pub some_states : 1 ≤ states_to fac siz l n
  unfolding states_to
  some_states = states_less fac siz l 0 n (omega arith) small.sized

  -- what the action makes of a state is at most the count of states
  pub to_few : (v x : ℕ) → v ≤ n → to_with v fac siz con eff l x ≤ states_to fac siz l v
  unfolding to_with
  to_few v x m = go (holds_in v fac l con (values fac siz l x v))
    where
      below : number_to fac siz l (put eff (values fac siz l x v)) v < states_to fac siz l v
      below = num_lt fac siz l _ v (λ u h f. value_in (siz u) (eff u) _ (dig_lt fac siz l x u v h f (small.sized u (omega arith))) (small.inside u (omega arith)))

      go : (b : Bool) → gate b (number_to fac siz l (put eff (values fac siz l x v)) v) ≤ states_to fac siz l v
      go true = below
      go false = omega arith
