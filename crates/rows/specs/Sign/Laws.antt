-- Laws of classes and signatures: a node of another class, or whose signature lacks a bit, does not dominate. Assumes nothing.
use Rattle.std.specs.Prelude.{◌≡◌, refl, ◌⊎◌, true, false, cond, List, ℕ, zero, suc, ◌+◌, ◌*◌, ◌/◌, ◌%◌, ◌^◌, ◌≤◌, ◌<◌, max, ltb, leb, length, get_or}
use Rattle.std.proofs.Common.{sym, ap, ap₂, ◌∙◌, inl, inr, one-mul, lt_of_lt_of_le, mul-lt-mul_of_pos_right, div-mul-le_self, add-one, arith, lit<, shl_exact}
use Rattle.std.proofs.Math.Decide.{dec_lt}
use borrow.Author.Tests.{lt-ltb, le-ltb, leb-true, eqb-true}
use Rattle.std.proofs.Math.Arith.{bin_ind}
use Rattle.std.specs.Int.Bits.{bit_or, or_step, or_self}
use Rattle.std.proofs.lemmas.Nat.{or_comm}
use Rattle.std.proofs.Math.Dec.{eqb}
use Rattle.loops.specs.Count.{all}
use Rattle.loops.specs.Count.Laws.{and_out, all_out, test_cases}
use Rattle.task.specs.declared.Centre.{Centre}
use Rattle.task.specs.Centre.{value_in}
use Rattle.leaf.specs.Price.{mark}
use Rattle.search.specs.Node.{Node, dominates}
use Rattle.rows.specs.Row.{pack_of}
use Rattle.rows.specs.Row.Packs.{pack_same}
use Rattle.rows.specs.Sign.{mix_of, class_of, sign_to, stride_of, sign_of}

-- ---- bits

-- all digits of the union but the last
or_half : (a b : ℕ) → bit_or a b / 2 ≡ bit_or (a / 2) (b / 2)
or_half a b = omega (arith, or_step a b)

-- the last digit of the union
pub or_odd : (a b : ℕ) → bit_or a b % 2 ≡ max (a % 2) (b % 2)
or_odd a b = omega (arith, or_step a b)

-- three sets of bits, joined in either order
pub or_assoc : (a b c : ℕ) → bit_or (bit_or a b) c ≡ bit_or a (bit_or b c)
or_assoc a =
    bin_ind (λ (n : ℕ). (b c : ℕ) → bit_or (bit_or n b) c ≡ bit_or n (bit_or b c)) (λ b c. refl)
    (λ n ih b c.
    or_step (bit_or n b) c
    ∙ ap₂ (λ (x y : ℕ). x * 2 + y)
    (ap (λ (x : ℕ). bit_or x (c / 2)) (or_half n b) ∙ ih (b / 2) (c / 2) ∙ ap (bit_or (n / 2)) (sym (or_half b c)))
    (omega (arith, or_odd n b, or_odd b c))
    ∙ sym (or_step n (bit_or b c))) a

-- bits within a set stay within it when it grows
or_more : (a b x : ℕ) → bit_or a b ≡ b → bit_or a (bit_or b x) ≡ bit_or b x
or_more a b x e = sym (or_assoc a b x) ∙ ap (λ (y : ℕ). bit_or y x) e

-- and also when both grow
or_both : (a b x : ℕ) → bit_or a b ≡ b → bit_or (bit_or a x) (bit_or b x) ≡ bit_or b x
or_both a b x e =
    or_assoc a x (bit_or b x)
    ∙ ap (bit_or a) (ap (bit_or x) (or_comm b x) ∙ sym (or_assoc x x b) ∙ ap (λ (y : ℕ). bit_or y b) (or_self x) ∙ or_comm x b)
    ∙ or_more a b x e

-- one bit, as a word that is shifted
pub one_bit : (k : ℕ) → (1 * 2 ^ (k % 64)) % 2 ^ 64 ≡ 2 ^ (k % 64)
one_bit k = shl_exact {a = 1} 1 (k % 64) 64 (lit< tt) (omega arith) ∙ one-mul (2 ^ (k % 64))

-- ---- signatures

-- the stride is not 0
pub stride_some : (n : ℕ) → 1 ≤ stride_of n
unfolding stride_of
stride_some n = go (dec_lt n 64)
  where
    go : Dec (n < 64) → 1 ≤ cond (ltb n 64) 1 (n / 64)
    go (yes l) = rw (lt-ltb n 64 l) (omega arith)
    go (no l) = rw (le-ltb n 64 (omega arith)) (omega arith)

-- the stride of 64 states or more
pub stride_many : (n : ℕ) → 64 ≤ n → n / 64 ≡ stride_of n
unfolding stride_of
stride_many n h = rw (le-ltb n 64 h)

-- the states looked at are among all
pub look_in : (n step k : ℕ) → 1 ≤ step → k < n / step → k * step < n
look_in n step k h l = lt_of_lt_of_le (mul-lt-mul_of_pos_right l h) (div-mul-le_self n step)

-- a turn of the loop: the next state is reachable
pub sign_here : (step : ℕ) (P : List ℕ) (k : ℕ) → get_or P (k * step) mark < mark → sign_to step P (k + 1) ≡ bit_or (sign_to step P k) (2 ^ (k % 64))
unfolding sign_to
sign_here step P k h = rw (add-one, sign_to, lt-ltb (get_or P (k * step) mark) mark h)

-- it is not
pub sign_kept : (step : ℕ) (P : List ℕ) (k : ℕ) → mark ≤ get_or P (k * step) mark → sign_to step P (k + 1) ≡ sign_to step P k
unfolding sign_to
sign_kept step P k h = rw (add-one, sign_to, le-ltb (get_or P (k * step) mark) mark h)

-- where no price of P is higher than that of Q, the signature of P has every bit of that of Q
sign_below : (step : ℕ) (P Q : List ℕ) (n : ℕ) → ((k : ℕ) → k < n → get_or P (k * step) mark ≤ get_or Q (k * step) mark)
    → bit_or (sign_to step Q n) (sign_to step P n) ≡ sign_to step P n
unfolding sign_to
sign_below step P Q zero h = refl
sign_below step P Q (suc n) h =
    go (dec_lt (get_or Q (n * step) mark) mark) (dec_lt (get_or P (n * step) mark) mark) (h n (omega arith)) (sign_below step P Q n (λ k l. h k (omega arith)))
  where
    go : Dec (get_or Q (n * step) mark < mark) → Dec (get_or P (n * step) mark < mark) → get_or P (n * step) mark ≤ get_or Q (n * step) mark
        → bit_or (sign_to step Q n) (sign_to step P n) ≡ sign_to step P n
        → bit_or (sign_to step Q (suc n)) (sign_to step P (suc n)) ≡ sign_to step P (suc n)
    go (yes q) (yes p) l e =
        rw (lt-ltb (get_or Q (n * step) mark) mark q, lt-ltb (get_or P (n * step) mark) mark p) (or_both (sign_to step Q n) (sign_to step P n) (2 ^ (n % 64)) e)
    go (yes q) (no p) l e = absurd (omega arith)
    go (no q) (yes p) l e =
        rw (le-ltb (get_or Q (n * step) mark) mark (omega arith), lt-ltb (get_or P (n * step) mark) mark p) (or_more (sign_to step Q n) (sign_to step P n) (2 ^ (n % 64)) e)
    go (no q) (no p) l e = rw (le-ltb (get_or Q (n * step) mark) mark (omega arith), le-ltb (get_or P (n * step) mark) mark (omega arith)) e

-- the same of two lists of one length
pub sign_within : (P Q : List ℕ) → length P ≡ length Q → ((k : ℕ) → k < length Q → get_or P k mark ≤ get_or Q k mark)
    → bit_or (sign_of Q) (sign_of P) ≡ sign_of P
unfolding sign_of
sign_within P Q e h =
    let step = stride_of (length Q) in
    rw e (sign_below step P Q (length Q / step) (λ k l. h (k * step) (look_in (length Q) step k (stride_some (length Q)) l)))

-- ---- classes

-- a class is below 1,024
pub class_lt : (c : Centre) → class_of c < 1024
unfolding class_of
class_lt c = omega arith

-- the same values have the same class
class_alike : (c d : Centre) → ((v : ℕ) → v < 32 → value_in c v ≡ value_in d v) → class_of c ≡ class_of d
unfolding class_of mix_of
class_alike c d h =
    let same : (b : ℕ) → b ≤ 24 → pack_of c b ≡ pack_of d b =
    λ b l. pack_same c.values d.values b 8 (λ v k. h v (omega arith)) in
    rw (same 0 (omega arith), same 8 (omega arith), same 16 (omega arith), same 24 (omega arith))

-- ---- dominance

module _ (m n : Node) (e : dominates m n ≡ true) where
  -- a node that dominates has the same class
  pub dominates_class : class_of m.spot ≡ class_of n.spot
  unfolding dominates
  dominates_class =
      let (p, _) = and_out (all 32 (λ v. eqb (value_in m.spot v) (value_in n.spot v))) _ e in
      class_alike m.spot n.spot (λ v l. eqb-true _ _ (all_out 32 _ p v l))

  -- no price of it is higher
  pub dominates_low : (k : ℕ) → k < length n.prices → get_or m.prices k mark ≤ get_or n.prices k mark
  unfolding dominates
  dominates_low k l =
      let (_, q) = and_out (all 32 (λ v. eqb (value_in m.spot v) (value_in n.spot v))) _ e in
      let (_, r) = and_out (leb m.paid n.paid) _ q in
      leb-true _ _ (all_out (length n.prices) _ r k l)

-- a node of another class does not dominate
pub other_class : (m n : Node) → (class_of m.spot ≡ class_of n.spot → ⊥) → dominates m n ≡ false
other_class m n d = go (test_cases (dominates m n))
  where
    go : (dominates m n ≡ true) ⊎ (dominates m n ≡ false) → dominates m n ≡ false
    go (inl e) = absurd (d (dominates_class m n e))
    go (inr e) = e

-- a node whose signature lacks a bit does not dominate
pub other_sign : (m n : Node) → length m.prices ≡ length n.prices
    → (bit_or (sign_of n.prices) (sign_of m.prices) ≡ sign_of m.prices → ⊥) → dominates m n ≡ false
other_sign m n l d = go (test_cases (dominates m n))
  where
    go : (dominates m n ≡ true) ⊎ (dominates m n ≡ false) → dominates m n ≡ false
    go (inl e) = absurd (d (sign_within m.prices n.prices l (dominates_low m n e)))
    go (inr e) = e
