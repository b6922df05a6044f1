-- A list written into a lent buffer from its front on, action by action. Assumes nothing.
use Rattle.std.specs.Prelude.{◌≡◌, refl, cond, List, [], ◌∷◌, ◌++◌, reverse, ℕ, suc, ◌+◌, ◌≤◌, ◌<◌, ltb, length, set, take, drop}
use Rattle.std.proofs.Common.{sym, ap, ◌∙◌, append_assoc, arith, length-set, take-append-drop, take-suc-set, drop-set-lt, lt-ltb, le-ltb}
use Rattle.std.proofs.lemmas.List.{reverse-append}

-- the action at place p of a buffer of which `total` places may be written; behind them nothing is
unfoldable pub put : ℕ → ℕ → ℕ → List ℕ → List ℕ
put total p x plan = cond (ltb p total) (set plan p x) plan

-- the actions one by one, the first of them at place p
unfoldable pub laid : ℕ → ℕ → List ℕ → List ℕ → List ℕ
laid total p [] plan = plan
laid total p (x ∷ xs) plan = laid total (p + 1) xs (put total p x plan)

-- ---- one action

-- inside
pub put_in : (total p x : ℕ) (plan : List ℕ) → p < total → put total p x plan ≡ set plan p x
unfolding put
put_in total p x plan h = rw (lt-ltb p total h)

-- behind
pub put_out : (total p x : ℕ) (plan : List ℕ) → total ≤ p → put total p x plan ≡ plan
unfolding put
put_out total p x plan h = rw (le-ltb p total h)

-- ---- a list of actions

-- where no place may be written nothing is
pub laid_none : (p : ℕ) (xs plan : List ℕ) → laid 0 p xs plan ≡ plan
unfolding laid
laid_none p [] plan = refl
laid_none p (x ∷ xs) plan = rw (put_out 0 p x plan (omega arith)) (laid_none (p + 1) xs plan)

-- one list behind the other
pub laid_append : (total p : ℕ) (xs ys plan : List ℕ) → laid total p (xs ++ ys) plan ≡ laid total (p + length xs) ys (laid total p xs plan)
unfolding laid
laid_append total p [] ys plan = let e : p ≡ p + 0 = omega arith in ap (λ (k : ℕ). laid total k ys plan) e
laid_append total p (x ∷ xs) ys plan =
    let e : p + 1 + length xs ≡ p + suc (length xs) = omega arith in
    laid_append total (p + 1) xs ys (put total p x plan) ∙ ap (λ (k : ℕ). laid total k ys (laid total (p + 1) xs (put total p x plan))) e

-- a list that there is room for, from place p on
laid_from : (total p : ℕ) (xs plan : List ℕ) → p + length xs ≤ total → total ≤ length plan
    → laid total p xs plan ≡ take p plan ++ (xs ++ drop (p + length xs) plan)
unfolding laid
laid_from total p [] plan e h = let q : p + 0 ≡ p = omega arith in rw q (sym (take-append-drop p plan))
laid_from total p (x ∷ xs) plan e h =
    let one : p + 1 ≡ suc p = omega arith in
    let many : p + 1 + length xs ≡ p + suc (length xs) = omega arith in
    let rest = laid_from total (p + 1) xs (set plan p x) (omega arith) (rw length-set h) in
    let front = (rw (← one) at (take-suc-set plan p x (omega arith))) in
    let back = drop-set-lt (p + 1 + length xs) plan p x (omega arith) in
    rw (put_in total p x plan (omega arith)) (rest ∙ rw (front, back, many, append_assoc))

-- a whole list
pub laid_all : (total : ℕ) (xs plan : List ℕ) → length xs ≤ total → total ≤ length plan → laid total 0 xs plan ≡ xs ++ drop (length xs) plan
laid_all total xs plan e h = let z : 0 + length xs ≡ length xs = omega arith in laid_from total 0 xs plan (omega arith) h ∙ rw z

-- ---- from the end

-- the last action is the first
pub reverse_snoc : (xs : List ℕ) (a : ℕ) → reverse (xs ++ (a ∷ [])) ≡ a ∷ reverse xs
reverse_snoc xs a = reverse-append xs (a ∷ [])
