-- What a chain of iterators tells of a list's elements, as a test over the numbers below the list's length. Assumes nothing.
use Rattle.std.specs.Prelude.{◌≡◌, refl, Bool, true, false, cond, not, ◌&&◌, ◌||◌, List, [], ◌∷◌, ℕ, zero, suc, ◌+◌, ◌-◌, ◌<◌, ◌≤◌, length, get_or, take, drop}
use mir.Val.{bool_byte}
use Rattle.std.specs.List.{list_all, list_any, zip, enumerate_from}
use Rattle.std.proofs.Common.{sym, ap, ap₂, ◌∙◌, arith, length-take, length-drop, get_or-take, get_or-drop}
use Rattle.std.proofs.Math.Bool.{and-true, or-false}
use Rattle.std.proofs.lemmas.Slice.Zip.{length-zip, get_or-zip}
use Rattle.std.proofs.lemmas.List.FromFn.{length-enumerate_from, get_or-enumerate_from}
use Rattle.loops.specs.Count.{all, any}

and_join : (a b c : Bool) → ((a && b) && c) ≡ (a && (b && c))
and_join true b c = refl
and_join false b c = refl

or_join : (a b c : Bool) → ((a || b) || c) ≡ (a || (b || c))
or_join true b c = refl
or_join false b c = refl

not_or : (a b : Bool) → not (a || b) ≡ (not a && not b)
not_or true b = refl
not_or false b = refl

-- the first number before the others
pub all_first : (n : ℕ) (p : ℕ → Bool) → all (suc n) p ≡ (p 0 && all n (λ k. p (suc k)))
unfolding all
all_first zero p = sym (and-true (p 0))
all_first (suc n) p = ap (λ b. b && p (suc n)) (all_first n p) ∙ and_join (p 0) (all n (λ k. p (suc k))) (p (suc n))

pub any_first : (n : ℕ) (p : ℕ → Bool) → any (suc n) p ≡ (p 0 || any n (λ k. p (suc k)))
unfolding any
any_first zero p = sym (or-false (p 0))
any_first (suc n) p = ap (λ b. b || p (suc n)) (any_first n p) ∙ or_join (p 0) (any n (λ k. p (suc k))) (p (suc n))

-- what `all` and `any` tell of a list; d is what stands for an element past the end
pub all_of : {X : Type 0} (p : X → Bool) (xs : List X) (q : ℕ → Bool) (d : X) → ((k : ℕ) → k < length xs → p (get_or xs k d) ≡ q k)
    → list_all p xs ≡ all (length xs) q
unfolding all
all_of p [] q d h = refl
all_of p (x ∷ xs) q d h =
    ap₂ ◌&&◌ (h 0 (omega arith)) (all_of p xs (λ k. q (suc k)) d (λ k l. h (suc k) (omega arith))) ∙ sym (all_first (length xs) q)

pub any_of : {X : Type 0} (p : X → Bool) (xs : List X) (q : ℕ → Bool) (d : X) → ((k : ℕ) → k < length xs → p (get_or xs k d) ≡ q k)
    → list_any p xs ≡ any (length xs) q
unfolding any
any_of p [] q d h = refl
any_of p (x ∷ xs) q d h =
    ap₂ ◌||◌ (h 0 (omega arith)) (any_of p xs (λ k. q (suc k)) d (λ k l. h (suc k) (omega arith))) ∙ sym (any_first (length xs) q)

-- of two lists side by side, the first of which is no longer
pub all_zip : {X Y : Type 0} (p : X × Y → Bool) (xs : List X) (ys : List Y) (q : ℕ → Bool) (d : X) (e : Y) → length xs ≤ length ys
    → ((k : ℕ) → k < length xs → p (get_or xs k d, get_or ys k e) ≡ q k) → list_all p (zip xs ys) ≡ all (length xs) q
all_zip p xs ys q d e l h =
    let long : length (zip xs ys) ≡ length xs = omega (arith, length-zip xs ys) in
    all_of p (zip xs ys) q (d, e) (λ k m. ap p (get_or-zip xs ys k (d, e) (omega arith) (omega arith)) ∙ h k (omega arith)) ∙ ap (λ n. all n q) long

pub any_zip : {X Y : Type 0} (p : X × Y → Bool) (xs : List X) (ys : List Y) (q : ℕ → Bool) (d : X) (e : Y) → length xs ≤ length ys
    → ((k : ℕ) → k < length xs → p (get_or xs k d, get_or ys k e) ≡ q k) → list_any p (zip xs ys) ≡ any (length xs) q
any_zip p xs ys q d e l h =
    let long : length (zip xs ys) ≡ length xs = omega (arith, length-zip xs ys) in
    any_of p (zip xs ys) q (d, e) (λ k m. ap p (get_or-zip xs ys k (d, e) (omega arith) (omega arith)) ∙ h k (omega arith)) ∙ ap (λ n. any n q) long

-- of the elements with their places
pub all_placed : {X : Type 0} (p : ℕ × X → Bool) (xs : List X) (q : ℕ → Bool) (d : X) → ((k : ℕ) → k < length xs → p (k, get_or xs k d) ≡ q k)
    → list_all p (enumerate_from 0 xs) ≡ all (length xs) q
all_placed p xs q d h =
    let long : length (enumerate_from 0 xs) ≡ length xs = length-enumerate_from 0 xs in
    all_of p (enumerate_from 0 xs) q (0, d)
    (λ k m. let l : k < length xs = omega arith in ap p (get_or-enumerate_from 0 xs k (0, d) l ∙ (let e : 0 + k ≡ k = omega arith in ap (λ j. (j, get_or xs k d)) e)) ∙ h k l)
    ∙ ap (λ n. all n q) long

-- none of a list's elements passes
pub none_of : {X : Type 0} (p : X → Bool) (xs : List X) (q : ℕ → Bool) (d : X) → ((k : ℕ) → k < length xs → not (p (get_or xs k d)) ≡ q k)
    → not (list_any p xs) ≡ all (length xs) q
unfolding all
none_of p [] q d h = refl
none_of p (x ∷ xs) q d h =
    not_or (p x) (list_any p xs)
    ∙ ap₂ ◌&&◌ (h 0 (omega arith)) (none_of p xs (λ k. q (suc k)) d (λ k l. h (suc k) (omega arith)))
    ∙ sym (all_first (length xs) q)

-- ---- a part of a list, n elements from `at` on

pub part_length : {X : Type 0} (xs : List X) (at n : ℕ) → at + n ≤ length xs → length (take (at + n - at) (drop at xs)) ≡ n
part_length xs at n l = simp (length-take, length-drop) (omega arith)

pub part_at : {X : Type 0} (xs : List X) (at n k : ℕ) (d : X) → k < n → get_or (take (at + n - at) (drop at xs)) k d ≡ get_or xs (at + k) d
part_at xs at n k d l = get_or-take (at + n - at) (drop at xs) k d (omega arith) ∙ get_or-drop at xs k d

-- ---- a test as a number

-- 1 where it holds, else 0
pub byte_of : (t : Bool) → bool_byte t ≡ cond t 1 0
byte_of true = refl
byte_of false = refl
