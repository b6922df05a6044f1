-- Laws of the tables: a turn of each loop that fills one, and numbers that fit. Each is about lists and functions, no task. Assumes nothing.
use Rattle.std.specs.Prelude.{◌≡◌, refl, true, false, List, ◌++◌, ℕ, ◌+◌, ◌*◌, ◌≤◌, ◌<◌, eqb, length, get_or, set, take, drop, replicate}
use Rattle.std.proofs.Math.Logic.{inl, inr}
use Rattle.std.proofs.Common.{sym, subst, ◌∙◌, add-one, arith, length-append, length-take, length-drop, get_or-set_same, get_or-set_other}
use Rattle.std.proofs.lemmas.List.{length-replicate, length-take-le, get_or-take}
use Rattle.std.proofs.Math.ListN.{get_or-append}
use Rattle.std.proofs.Math.Decide.{ℕ_discrete}
use Rattle.task.specs.Meaning.{State, Partial}
use Rattle.task.specs.Factors.{touches, leaf_pairs, number_to, states_to}
use Rattle.task.specs.Radix.{num_lt}
use Rattle.digits.specs.Moves.Laws.{states_less}
use Rattle.whole.specs.Whole.Ext.{Agree, touches_ext, leaf_pairs_ext}
use Rattle.digits.specs.Digits.{entries, Each, Filled}
use Rattle.tables.specs.Tables.{KindIs}

-- ---- lists

-- a turn of a loop that stores one entry after the other
pub each_more : (P : ℕ → ℕ → Type 0) (n : ℕ) (xs : List ℕ) {y : ℕ} → n < length xs → Each n P xs → P n y → Each (n + 1) P (set xs n y)
each_more P n xs {y} l h p k m = go (ℕ_discrete k n)
  where
    go : Dec (k ≡ n) → P k (get_or (set xs n y) k 0)
    go (yes e) = rw (e, get_or-set_same) p
    go (no d) = rw (get_or-set_other xs n k y 0 d) (h k (omega arith))

pub filled_more : (f : ℕ → ℕ) (n : ℕ) (xs : List ℕ) {y : ℕ} → n < length xs → Filled n f xs → y ≡ f n → Filled (n + 1) f (set xs n y)
filled_more f = each_more (λ k x. x ≡ f k)

-- ---- numbers that fit

module _ (fac siz : ℕ → ℕ) (l : ℕ) (s : State) where
  -- a turn of the loop that makes a number, at a variable of the leaf
  pub number_on : (v : ℕ) {x : ℕ} → eqb (fac v) l ≡ true → x ≡ number_to fac siz l s v → x * siz v + s v ≡ number_to fac siz l s (v + 1)
  unfolding number_to
  number_on v e p = rw (add-one, e, p)

  -- and at any other
  pub number_by : (v : ℕ) → eqb (fac v) l ≡ false → number_to fac siz l s v ≡ number_to fac siz l s (v + 1)
  unfolding number_to
  number_by v e = rw (add-one, e)

-- a number on the way is small
number_few : (fac siz : ℕ → ℕ) (l : ℕ) (s : State) (v n : ℕ) → v ≤ n → ((k : ℕ) → k < n → s k < siz k) → states_to fac siz l n ≤ 256
    → number_to fac siz l s v < 256
number_few fac siz l s v n m h few =
    omega (arith, num_lt fac siz l s v (λ k o _. h k (omega arith)), states_less fac siz l v n m (λ k o. omega (arith, h k o)))

-- and so is the next one
pub number_fits : (fac siz : ℕ → ℕ) (l : ℕ) (s : State) (v n : ℕ) {x : ℕ} → v < n → ((k : ℕ) → k < n → s k < siz k) → states_to fac siz l n ≤ 256
    → eqb (fac v) l ≡ true → x ≡ number_to fac siz l s v → x * siz v + s v < 256
number_fits fac siz l s v n m h few e p = rw (number_on fac siz l s v e p) (number_few fac siz l s (v + 1) n (omega arith) h few)

-- ---- kinds

-- the tests of the entries of the variables alone say the same of the whole lists
module _ (n : ℕ) (factors : List ℕ) (l : n ≤ length factors) where
  front : (xs : List ℕ) → Agree n (entries (take n xs)) (entries xs)
  front xs v m = get_or-take n xs v 0 m

  pub touches_front : (es : List ℕ) → touches (length (take n factors)) (entries (take n factors)) 0 (entries (take n es)) ≡ touches n (entries factors) 0 (entries es)
  touches_front es = rw (length-take-le n factors l) (touches_ext n _ _ (front factors) 0 _ _ (front es))

  pub leaf_pairs_front : (cs es : List ℕ) (leaf : ℕ)
      → leaf_pairs (length (take n factors)) (entries (take n factors)) (entries (take n cs)) (entries (take n es)) leaf ≡ leaf_pairs n (entries factors) (entries cs) (entries es) leaf
  leaf_pairs_front cs es leaf = rw (length-take-le n factors l) (leaf_pairs_ext n _ _ (front factors) _ _ _ _ leaf (front cs) (front es))

module _ (n : ℕ) (fac : ℕ → ℕ) (leaves : ℕ) (p q : Partial) where
  pub kind_centre : touches n fac 0 q ≡ true → KindIs n fac leaves p q 0
  unfolding KindIs
  kind_centre e = inl (refl, e)

  pub kind_leaf : (i : ℕ) → i < leaves → leaf_pairs n fac p q (i + 1) ≡ true → KindIs n fac leaves p q (i + 1)
  unfolding KindIs
  kind_leaf i l e = inr (i, (l, (refl, e)))

-- a front of a table that has what it should, with zeros behind it
pub each_front : (m n a : ℕ) (P : ℕ → ℕ → Type 0) (ys : List ℕ) → n ≤ m → Each a P ys → length ys ≡ length (take n (replicate {A = ℕ} m 0))
    → length (take n (replicate {A = ℕ} m 0)) ≤ a → (length (ys ++ drop n (replicate m 0)) ≡ m) × Each n P (ys ++ drop n (replicate m 0))
each_front m n a P ys few each long all =
    let front : length ys ≡ n = long ∙ simp (length-take, length-replicate) (omega arith) in
    (simp (length-append, length-drop, length-replicate) (omega arith), λ k l. subst (P k) (sym (get_or-append ys (drop n (replicate m 0)) 0 k (omega arith))) (each k (omega arith)))
