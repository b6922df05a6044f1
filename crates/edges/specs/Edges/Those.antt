-- Laws of the numbers below n that pass a test, and of the entries of a list that do. Assumes nothing.
use Rattle.std.specs.Prelude.{◌≡◌, ◌⊎◌, Bool, cond, ◌&&◌, get_or, set}
use Rattle.std.proofs.Math.Path.{refl, sym, ap}
use Rattle.std.proofs.Common.{◌∙◌, inl, inr, true≢false, not-suc-le-zero, add-one}
use Rattle.std.proofs.Math.Bool.{true, false}
use mathlib.Core.List.{List, [], ◌∷◌, ◌++◌}
use Prim.Native.Nat.{ℕ, zero, suc, ◌+◌, ◌≤◌, ◌<◌}
use native.Mathlib.Omega.{arith}
use Rattle.std.proofs.Math.ListN.{length, length-append, get_or-append}
use Rattle.std.proofs.Math.Seq.{get_or_at}
use Rattle.loops.specs.Count.Laws.{below_cases}
use Rattle.layer.specs.Lent.{Front}
use Rattle.layer.specs.Board.Turns.{push_more}
use Rattle.edges.specs.Edges.{those, picked}

-- where a number stands in a list
pub record Placed (xs : List ℕ) (a : ℕ) : Type 0 where
  pub at : ℕ
  pub inside : at < length xs
  pub is : get_or xs at 0 ≡ a

-- a number that stands in a list stands in a longer one too
placed_more : {xs : List ℕ} {a : ℕ} (ys : List ℕ) → Placed xs a → Placed (xs ++ ys) a
placed_more {xs} ys p =
    record { at = p.at; inside = simp length-append (omega (arith, p.inside)); is = get_or-append xs ys 0 p.at p.inside ∙ p.is }

module _ (p : ℕ → Bool) where
  -- there are no more of them than numbers
  pub those_few : (n : ℕ) → length (those p n) ≤ n
  unfolding those
  those_few zero = omega arith
  those_few (suc a) = go (p a) (those_few a)
    where
      go : (t : Bool) → length (those p a) ≤ a → length (cond t (those p a ++ (a ∷ [])) (those p a)) ≤ suc a
      go true h = simp length-append (omega arith)
      go false h = omega arith

  -- each of them is below n and passes
  pub those_at : (n j : ℕ) → j < length (those p n) → (get_or (those p n) j 0 < n) × (p (get_or (those p n) j 0) ≡ true)
  unfolding those
  those_at zero j h = absurd (not-suc-le-zero h)
  those_at (suc a) j h = go (p a) refl h (those_at a j)
    where
      E : List ℕ
      E = those p a

      one : p a ≡ true → (j < length E) ⊎ (j ≡ length E) → (j < length E → (get_or E j 0 < a) × (p (get_or E j 0) ≡ true))
          → (get_or (E ++ (a ∷ [])) j 0 < suc a) × (p (get_or (E ++ (a ∷ [])) j 0) ≡ true)
      one t (inl l) r = rw (get_or-append E (a ∷ []) 0 j l) (omega (arith, (r l).0), (r l).1)
      one t (inr e) r = rw (get_or_at E a [] 0 j (sym e)) (omega arith, t)

      go : (t : Bool) → p a ≡ t → j < length (cond t (E ++ (a ∷ [])) E) → (j < length E → (get_or E j 0 < a) × (p (get_or E j 0) ≡ true))
          → (get_or (cond t (E ++ (a ∷ [])) E) j 0 < suc a) × (p (get_or (cond t (E ++ (a ∷ [])) E) j 0) ≡ true)
      go true e l r = one e (below_cases (omega (arith, simp length-append at l))) r
      go false e l r = (omega (arith, (r l).0), (r l).1)

  -- each number below n that passes is one of them
  pub those_has : (n a : ℕ) → a < n → p a ≡ true → Placed (those p n) a
  unfolding those
  those_has zero a h e = absurd (not-suc-le-zero h)
  those_has (suc n) a h e = go (p n) refl (below_cases h) (λ l. those_has n a l e)
    where
      go : (t : Bool) → p n ≡ t → (a < n) ⊎ (a ≡ n) → (a < n → Placed (those p n) a) → Placed (cond t (those p n ++ (n ∷ [])) (those p n)) a
      go true f (inl l) r = placed_more (n ∷ []) (r l)
      go true f (inr q) r = record { at = length (those p n); inside = simp length-append (omega arith); is = get_or_at (those p n) n [] 0 _ refl ∙ sym q }
      go false f (inl l) r = r l
      go false f (inr q) r = absurd (true≢false (sym e ∙ ap p q ∙ f))

-- ---- picking from a list

module _ (p : ℕ → Bool) where
  -- what stands behind the first n entries does not count
  picked_front : (xs ys : List ℕ) (n : ℕ) → n ≤ length xs → picked p (xs ++ ys) n ≡ picked p xs n
  unfolding picked
  picked_front xs ys zero h = refl
  picked_front xs ys (suc j) h = rw (get_or-append xs ys 0 j h, picked_front xs ys j (omega arith))

  -- picking from the numbers that pass another test: those that pass both
  pub picked_those : (q : ℕ → Bool) (n : ℕ) → picked p (those q n) (length (those q n)) ≡ those (λ a. q a && p a) n
  unfolding those picked
  picked_those q zero = refl
  picked_those q (suc a) = go (q a) (picked_those q a)
    where
      E : List ℕ
      E = those q a

      R : List ℕ
      R = those (λ k. q k && p k) a

      go : (t : Bool) → picked p E (length E) ≡ R
          → picked p (cond t (E ++ (a ∷ [])) E) (length (cond t (E ++ (a ∷ [])) E)) ≡ cond (t && p a) (R ++ (a ∷ [])) R
      go true r =
          let many : length (E ++ (a ∷ [])) ≡ suc (length E) = simp length-append (omega arith) in
          rw (many, picked, get_or_at E a [] 0 (length E) refl, picked_front E (a ∷ []) (length E) (omega arith), r)
      go false r = r

-- ---- a list written at the front of another

-- before the first entry
pub front_none : (xs : List ℕ) → Front [] xs 0 xs
front_none xs = record { many = refl; written = refl }

-- one more entry is written
pub front_more : {E xs acts : List ℕ} {n : ℕ} (a : ℕ) → n < length xs → Front E xs n acts → Front (E ++ (a ∷ [])) xs (n + 1) (set acts n a)
front_more {E} {xs} {acts} {n} a h f =
    record { many = simp length-append (omega (arith, f.many)); written = rw f.written (push_more E xs n a f.many h) }

-- one more entry is written where it passes
front_turn : {E xs acts acts' : List ℕ} {n n' : ℕ} (t : Bool) (a : ℕ) → n < length xs → Front E xs n acts
    → (t ≡ true → (acts' ≡ set acts n a) × (n' ≡ n + 1)) → (t ≡ false → (acts' ≡ acts) × (n' ≡ n)) → Front (cond t (E ++ (a ∷ [])) E) xs n' acts'
front_turn true a h f here not = let e = here refl in rw (e.0, e.1) (front_more a h f)
front_turn false a h f here not = let e = not refl in rw (e.0, e.1) f

-- one more number that passes or does not
pub those_turn : (p : ℕ → Bool) (a : ℕ) (xs acts acts' : List ℕ) (n n' : ℕ) → n < length xs → Front (those p a) xs n acts
    → (p a ≡ true → (acts' ≡ set acts n a) × (n' ≡ n + 1)) → (p a ≡ false → (acts' ≡ acts) × (n' ≡ n)) → Front (those p (a + 1)) xs n' acts'
unfolding those
those_turn p a xs acts acts' n n' h f here not = rw add-one (front_turn (p a) a h f here not)

-- one more entry of a list
pub picked_turn : (p : ℕ → Bool) (own : List ℕ) (j : ℕ) (xs acts acts' : List ℕ) (n n' : ℕ) → n < length xs → Front (picked p own j) xs n acts
    → (p (get_or own j 0) ≡ true → (acts' ≡ set acts n (get_or own j 0)) × (n' ≡ n + 1)) → (p (get_or own j 0) ≡ false → (acts' ≡ acts) × (n' ≡ n))
    → Front (picked p own (j + 1)) xs n' acts'
unfolding picked
picked_turn p own j xs acts acts' n n' h f here not = rw add-one (front_turn (p (get_or own j 0)) (get_or own j 0) h f here not)
