-- Tests of a slice's entries, or of the pairs that two slices have at one place, as tests over the numbers below a count. Assumes nothing.
use Rattle.std.specs.Prelude.{◌≡◌, Bool, true, false, List, ℕ, ◌+◌, ◌-◌, ◌<◌, ◌≤◌, length, get_or, take, drop, slice_range}
use Rattle.std.specs.List.{list_any, list_all, zip, range_with_len}
use Rattle.std.proofs.Common.{refl, sym, ap, ◌∙◌, true≢false, arith}
use Rattle.std.proofs.lemmas.List.{get_or-take, get_or-drop}
use Rattle.std.proofs.lemmas.List.FromFn.{length-range_with_len, get_or-range_with_len}
use Rattle.std.proofs.lemmas.List.Recursion.{or_is, and_is}
use Rattle.std.proofs.lemmas.Slice.Zip.{length-zip, get_or-zip}
use Rattle.loops.specs.Count.{all, any}
use Rattle.loops.specs.Count.Laws.{all_out, all_fails, all_ext, any_in, any_out, any_ext}

-- no number passes
any_fails : (n : ℕ) (p : ℕ → Bool) → any n p ≡ false → (k : ℕ) → k < n → p k ≡ false
any_fails n p e k l = go (p k) refl
  where
    go : (b : Bool) → p k ≡ b → b ≡ false
    go true q = absurd (true≢false (sym (any_in n p k l q) ∙ e))
    go false q = refl

-- ---- the entries of one list

pub any_entry : (p : ℕ → Bool) (xs : List ℕ) → any (length xs) (λ k. p (get_or xs k 0)) ≡ list_any p xs
any_entry p xs = or_is (list_any p) p refl (λ _ _. refl) xs 0 _ some none
  where
    test : ℕ → Bool
    test k = p (get_or xs k 0)

    some : any (length xs) test ≡ true → (k : ℕ) × (k < length xs) × (test k ≡ true)
    some e = let w = any_out (length xs) test e in (w.0, w.1.0, w.1.1)

    none : any (length xs) test ≡ false → (k : ℕ) → k < length xs → test k ≡ false
    none e = any_fails (length xs) test e

pub all_entries : (p : ℕ → Bool) (xs : List ℕ) → all (length xs) (λ k. p (get_or xs k 0)) ≡ list_all p xs
all_entries p xs = and_is (list_all p) p refl (λ _ _. refl) xs 0 _ each some
  where
    test : ℕ → Bool
    test k = p (get_or xs k 0)

    each : all (length xs) test ≡ true → (k : ℕ) → k < length xs → test k ≡ true
    each e = all_out (length xs) test e

    some : all (length xs) test ≡ false → (k : ℕ) × (k < length xs) × (test k ≡ false)
    some e = let w = all_fails (length xs) test e in (w.0, w.1.0, w.1.1)

-- ---- the numbers from 0 on

number_at : (n k : ℕ) → k < n → get_or (range_with_len 0 n) k 0 ≡ k
number_at n k l = let e = get_or-range_with_len 0 n k 0 l in omega (arith, e)

pub any_number : (p : ℕ → Bool) (n : ℕ) → any n p ≡ list_any p (range_with_len 0 n)
any_number p n =
    let xs = range_with_len 0 n in
    let long = length-range_with_len 0 n in
    any_ext n p (λ k. p (get_or xs k 0)) (λ k l. ap p (sym (number_at n k l)))
    ∙ ap (λ (m : ℕ). any m (λ k. p (get_or xs k 0))) (sym long)
    ∙ any_entry p xs

pub all_numbers : (p : ℕ → Bool) (n : ℕ) → all n p ≡ list_all p (range_with_len 0 n)
all_numbers p n =
    let xs = range_with_len 0 n in
    let long = length-range_with_len 0 n in
    all_ext n p (λ k. p (get_or xs k 0)) (λ k l. ap p (sym (number_at n k l)))
    ∙ ap (λ (m : ℕ). all m (λ k. p (get_or xs k 0))) (sym long)
    ∙ all_entries p xs

-- ---- the pairs of two lists of one length

module _ (p : ℕ × ℕ → Bool) (xs ys : List ℕ) (same : length ys ≡ length xs) where
  abbrev pair : ℕ → ℕ × ℕ
  pair k = (get_or xs k 0, get_or ys k 0)

  abbrev pairs : List (ℕ × ℕ)
  pairs = zip xs ys

  pairs_long : length pairs ≡ length xs
  pairs_long = omega (arith, length-zip xs ys)

  pair_at : (k : ℕ) → k < length xs → get_or pairs k (0, 0) ≡ pair k
  pair_at k l = get_or-zip xs ys k (0, 0) l (omega arith)

  pub any_pair : any (length xs) (λ k. p (get_or xs k 0, get_or ys k 0)) ≡ list_any p (zip xs ys)
  any_pair = or_is (list_any p) p refl (λ _ _. refl) pairs (0, 0) _ some none
    where
      test : ℕ → Bool
      test k = p (pair k)

      some : any (length xs) test ≡ true → (k : ℕ) × (k < length pairs) × (p (get_or pairs k (0, 0)) ≡ true)
      some e = let w = any_out (length xs) test e in (w.0, omega (arith, w.1.0, pairs_long), ap p (pair_at w.0 w.1.0) ∙ w.1.1)

      none : any (length xs) test ≡ false → (k : ℕ) → k < length pairs → p (get_or pairs k (0, 0)) ≡ false
      none e k l = let h : k < length xs = omega (arith, pairs_long) in ap p (pair_at k h) ∙ any_fails (length xs) test e k h

  pub all_pairs : all (length xs) (λ k. p (get_or xs k 0, get_or ys k 0)) ≡ list_all p (zip xs ys)
  all_pairs = and_is (list_all p) p refl (λ _ _. refl) pairs (0, 0) _ each some
    where
      test : ℕ → Bool
      test k = p (pair k)

      each : all (length xs) test ≡ true → (k : ℕ) → k < length pairs → p (get_or pairs k (0, 0)) ≡ true
      each e k l = let h : k < length xs = omega (arith, pairs_long) in ap p (pair_at k h) ∙ all_out (length xs) test e k h

      some : all (length xs) test ≡ false → (k : ℕ) × (k < length pairs) × (p (get_or pairs k (0, 0)) ≡ false)
      some e = let w = all_fails (length xs) test e in (w.0, omega (arith, w.1.0, pairs_long), ap p (pair_at w.0 w.1.0) ∙ w.1.1)

-- ---- a part of a slice

-- an entry of the part from a to b
pub slice_at : (xs : List ℕ) (a b k : ℕ) → k < b - a → get_or (slice_range xs a b) k 0 ≡ get_or xs (a + k) 0
slice_at xs a b k l = get_or-take (b - a) (drop a xs) k 0 l ∙ get_or-drop a xs k 0
