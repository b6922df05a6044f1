-- Laws of the rows of moves: a turn of each loop that fills them, and numbers that fit. Each is about lists and functions, no task. Assumes nothing.
use Rattle.std.specs.Prelude.{◌≡◌, refl, true, false, ◌⊎◌, List, eqb, length, get_or, set}
use Rattle.std.proofs.Math.Path.{sym}
use Rattle.std.proofs.Common.{◌∙◌, inl, inr, mul-le-mul_left, mul-le-mul_right, mul-one, suc-mul, not-suc-le-zero, mod-lt, div-add-mod', div-lt_iff_lt-mul, add-one, get_or-set_other}
use Prim.Native.Nat.{ℕ, zero, suc, ◌+◌, ◌*◌, ◌/◌, ◌%◌, ◌≤◌, ◌<◌, min}
use native.Mathlib.Omega.{arith}
use Rattle.std.proofs.Math.Decide.{ℕ_discrete}
use Rattle.std.proofs.Math.Seq.{get_or-set_same}
use Rattle.loops.specs.Count.{sum}
use Rattle.loops.specs.Count.Laws.{below_cases, sum_more}
use Rattle.task.specs.Meaning.{Partial}
use Rattle.task.specs.Factors.{states_to}
use Rattle.digits.specs.Moves.{Small, to_with, digit_move}
use Rattle.digits.specs.Moves.Laws.{to_none, to_leaf, to_other, to_few, states_less}
use Rattle.digits.specs.Digits.{Placed, Same, Spread, Growing, start_of, Partly, Row, Rows}

-- ---- lists

-- an entry between the two is stored
pub same_set : (from end : ℕ) (xs ys : List ℕ) (j y : ℕ) → from ≤ j → j < end → Same from end xs ys → Same from end xs (set ys j y)
same_set from end xs ys j y l m h k o = rw (get_or-set_other ys j k y 0 (apart o)) (h k o)
  where
    apart : (k < from) ⊎ (end ≤ k) → k ≡ j → ⊥
    apart (inl w) q = omega arith
    apart (inr w) q = omega arith

-- what lies outside a part lies outside a part of it
pub outside : {k from end a b : ℕ} → from ≤ a → b ≤ end → (k < from) ⊎ (end ≤ k) → (k < a) ⊎ (b ≤ k)
outside l m (inl w) = inl (omega arith)
outside l m (inr w) = inr (omega arith)

-- what agrees outside one part and then outside the next, agrees outside both
pub same_more : (from mid end : ℕ) (xs ys zs : List ℕ) → from ≤ mid → mid ≤ end → Same from mid xs ys → Same mid end ys zs → Same from end xs zs
same_more from mid end xs ys zs l m h g k o = g k (outside l (omega arith) o) ∙ h k (outside (omega arith) m o)

-- ---- where the leaves' states begin

module _ (n : ℕ) (fac siz : ℕ → ℕ) where
  -- one leaf more
  pub start_more : (i : ℕ) → start_of n fac siz (i + 1) ≡ start_of n fac siz i + states_to fac siz (suc i) n
  unfolding start_of
  start_more i = sum_more i _

  -- the same of a count that was capped, where the leaf has few states
  pub start_capped : (i x y : ℕ) → states_to fac siz (suc i) n ≤ 256 → x ≡ start_of n fac siz i → y ≡ min (states_to fac siz (i + 1) n) 257
      → x + y ≡ start_of n fac siz (i + 1)
  start_capped i x y few p q =
      let q' : y ≡ min (states_to fac siz (suc i) n) 257 = rw add-one at q in
      omega (arith, start_more i)

  -- a leaf's states end where those of the leaves behind it begin, or before
  pub start_before : (i j : ℕ) → i < j → start_of n fac siz i + states_to fac siz (suc i) n ≤ start_of n fac siz j
  unfolding start_of sum
  start_before i zero l = absurd (not-suc-le-zero l)
  start_before i (suc j) l = go (below_cases l) (start_before i j)
    where
      go : (i < j) ⊎ (i ≡ j) → (i < j → start_of n fac siz i + states_to fac siz (suc i) n ≤ start_of n fac siz j)
          → start_of n fac siz i + states_to fac siz (suc i) n ≤ start_of n fac siz (suc j)
      go (inl m) r = omega (arith, r m)
      go (inr q) r = rw q (omega arith)

  -- the sum stays small while each leaf has few states
  pub start_few : (i : ℕ) → ((j : ℕ) → j < i → states_to fac siz (suc j) n ≤ 256) → start_of n fac siz i ≤ 256 * i
  unfolding start_of sum
  start_few zero h = omega arith
  start_few (suc i) h = omega (arith, start_few i (λ j l. h j (omega arith)), h i (omega arith))

-- ---- moves

-- a row more is inside the rows
pub row_inside : (a m s : ℕ) → a < m → a * s + s ≤ m * s
row_inside a m s l = omega (arith, suc-mul a s, mul-le-mul_right s l)

-- with a digit more of size z, state u of s has room behind the states below it
pub digit_room : (u s z : ℕ) → u < s → 1 ≤ z → (u ≤ u * z) × (u * z + z ≤ s * z) × (s ≤ s * z)
digit_room u s z l h = (omega (arith, mul-one u, mul-le-mul_left u h), row_inside u s z l, omega (arith, mul-one s, mul-le-mul_left s h))

module _ (from s z p q : ℕ) (xs : List ℕ) where
  -- one state more
  pub growing_more : (u x : ℕ) (ys zs : List ℕ) → x ≡ u + 1 → 1 ≤ z → Growing from s z p q xs x ys
      → Placed (from + u * z) z (digit_move (get_or ys (from + u) 0) z p q) zs → Same (from + u * z) (from + u * z + z) ys zs → Growing from s z p q xs u zs
  growing_more u x ys zs e h w f g =
      record {
        waits = λ k l. g (from + k) (inl (omega (arith, mul-one u, mul-le-mul_left u h))) ∙ w.waits k (omega arith);
        grown = λ k d l m o. go k d l m o (ℕ_discrete k u);
      }
    where
      go : (k d : ℕ) → u ≤ k → k < s → d < z → Dec (k ≡ u) → get_or zs (from + (k * z + d)) 0 ≡ digit_move (get_or xs (from + k) 0) z p q d
      go k d l m o (yes i) =
          let at : from + (k * z + d) ≡ (from + u * z) + d = rw i (omega arith) in
          rw (at, f d o, w.waits u (omega arith), i)
      go k d l m o (no i) =
          let above = row_inside u k z (omega arith) in
          g (from + (k * z + d)) (inr (omega arith)) ∙ w.grown k d (omega arith) m o

module _ (fac siz : ℕ → ℕ) (con eff : Partial) (l from : ℕ) where
  -- without variables
  pub partly_none : (xs : List ℕ) → from < length xs → Partly fac siz con eff l from 0 1 (set xs from 1)
  unfolding states_to
  partly_none xs h = record { count = refl; placed = λ k m. let e : from + k ≡ from = omega arith in rw (e, get_or-set_same, to_none) }

  -- a variable of the leaf: each state so far has a digit more
  pub partly_leaf : (v s : ℕ) (xs ys : List ℕ) → eqb (fac v) l ≡ true → 1 ≤ siz v → Partly fac siz con eff l from v s xs
      → Spread from 0 s (siz v) (con v) (eff v) xs ys → Partly fac siz con eff l from (v + 1) (s * siz v) ys
  unfolding states_to
  partly_leaf v s xs ys e z h g =
      record {
        count = rw (add-one, states_to, e, h.count);
        placed = λ k m.
            let q = (div-lt_iff_lt-mul z).1 m in
            let own = g (k / siz v) (k % siz v) (omega arith) q (mod-lt k z) in
            rw (to_leaf fac siz con eff l v k e, ← h.placed (k / siz v) q) (rw (div-add-mod' k (siz v)) at own);
      }

  -- any other variable
  pub partly_other : (v s : ℕ) (xs : List ℕ) → eqb (fac v) l ≡ false → Partly fac siz con eff l from v s xs → Partly fac siz con eff l from (v + 1) s xs
  unfolding states_to
  partly_other v s xs e h =
      record { count = rw (add-one, states_to, e) h.count; placed = λ k m. h.placed k m ∙ sym (to_other fac siz con eff l v k e) }

  -- the states by one variable more have room, and what the action makes of each so far is small
  pub partly_room : (n v s : ℕ) (xs : List ℕ) → Small n fac siz eff l → v < n → eqb (fac v) l ≡ true → Partly fac siz con eff l from v s xs
      → (s * siz v ≤ states_to fac siz l n) × ((k : ℕ) → k < s → get_or xs (from + k) 0 ≤ s)
  unfolding states_to
  partly_room n v s xs small m e h =
      let more : states_to fac siz l (suc v) ≡ s * siz v = rw (states_to, e, h.count) in (
        omega (arith, more, states_less fac siz l (suc v) n m small.sized),
        λ k g. rw (h.placed k g, h.count) (to_few fac siz con eff l n small v k (omega arith)),
      )

module _ (n : ℕ) (fac siz : ℕ → ℕ) where
  -- one leaf more of an action's row
  pub row_more : (con eff : Partial) (from i : ℕ) (xs ys : List ℕ) {b s : ℕ} → b ≡ start_of n fac siz i → s ≡ states_to fac siz (suc i) n
      → Row n fac siz con eff from i xs → Placed (from + b) s (to_with n fac siz con eff (i + 1)) ys → Same (from + b) (from + b + s) xs ys
      → Row n fac siz con eff from (i + 1) ys
  row_more con eff from i xs ys {b} {s} p q h f g j x l m = go (ℕ_discrete j i)
    where
      go : Dec (j ≡ i) → get_or ys (from + (start_of n fac siz j + x)) 0 ≡ to_with n fac siz con eff (suc j) x
      go (yes e) =
          let m' : x < s = rw (q, ← e) m in
          let at : from + (start_of n fac siz j + x) ≡ (from + b) + x = rw (e, p) (omega arith) in
          rw (at, e, ← add-one) (f x m')
      go (no d) =
          let before = start_before n fac siz j i (omega arith) in
          g (from + (start_of n fac siz j + x)) (inl (omega arith)) ∙ h j x (omega arith) m

  -- and all else stays as it was
  pub row_same : (from i : ℕ) (xs ys zs : List ℕ) {b s : ℕ} → b ≡ start_of n fac siz i → s ≡ states_to fac siz (suc i) n
      → Same from (from + start_of n fac siz i) xs ys → Same (from + b) (from + b + s) ys zs → Same from (from + start_of n fac siz (i + 1)) xs zs
  row_same from i xs ys zs {b} {s} p q h g =
      let e : from + start_of n fac siz (i + 1) ≡ from + b + s = omega (arith, start_more n fac siz i) in
      let h' : Same from (from + b) xs ys = rw p h in
      rw e (same_more from (from + b) (from + b + s) xs ys zs (omega arith) (omega arith) h' g)

  -- one action's row more
  pub rows_more : (con eff : ℕ → Partial) (leaves a : ℕ) (xs ys : List ℕ) {from : ℕ} → from ≡ a * start_of n fac siz leaves
      → Rows n fac siz con eff leaves a xs → Row n fac siz (con a) (eff a) from leaves ys → Same from (from + start_of n fac siz leaves) xs ys
      → Rows n fac siz con eff leaves (a + 1) ys
  rows_more con eff leaves a xs ys {from} p h f g d l = go (ℕ_discrete d a)
    where
      go : Dec (d ≡ a) → Row n fac siz (con d) (eff d) (d * start_of n fac siz leaves) leaves ys
      go (yes e) = rw (e, ← p) f
      go (no apart) =
          λ i x m o.
          let before = start_before n fac siz i leaves m in
          let rows = row_inside d a (start_of n fac siz leaves) (omega arith) in
          g (d * start_of n fac siz leaves + (start_of n fac siz i + x)) (inl (omega arith)) ∙ h d (omega arith) i x m o

-- where the next row begins
pub row_next : (a s : ℕ) {from row : ℕ} → from ≡ a * s → row ≡ s → from + row ≡ (a + 1) * s
row_next a s p q = rw (p, q, add-one) (sym (suc-mul a s))

-- all else stays as it was
pub rows_same : (a s : ℕ) (xs ys zs : List ℕ) {from : ℕ} → from ≡ a * s → Same 0 (a * s) xs ys → Same from (from + s) ys zs → Same 0 ((a + 1) * s) xs zs
rows_same a s xs ys zs {from} p h g =
    let h' : Same 0 from xs ys = rw p h in
    rw (← row_next a s p refl) (same_more 0 from (from + s) xs ys zs (omega arith) (omega arith) h' g)
