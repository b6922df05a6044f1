-- Numbers for which a test holds, listed by rising number. Nobody but the code and its proof looks at these. Assumes nothing.
use Rattle.std.specs.Prelude.{◌≡◌, refl, ◌⊎◌, Bool, true, false, cond, List, length, get_or, take}
use Rattle.std.proofs.Common.{sym, ◌∙◌, inl, inr, true≢false, add-one, length-take-le, get_or-take}
use Prim.Native.Nat.{ℕ, zero, suc, ◌+◌, ◌≤◌, ◌<◌}
use Rattle.std.proofs.Math.Decide.{dec_le, ℕ_discrete}
use native.Mathlib.Omega.{arith}
use Rattle.loops.specs.Count.Laws.{below_cases}

-- the first m numbers of f are those below n for which p holds, by rising number
pub record Listed (p : ℕ → Bool) (n m : ℕ) (f : ℕ → ℕ) : Type 0 where
  pub few : m ≤ n
  pub inside : (j : ℕ) → j < m → f j < n
  pub holds : (j : ℕ) → j < m → p (f j) ≡ true
  pub rise : (i j : ℕ) → i < j → j < m → f i < f j
  pub every : (a : ℕ) → a < n → p a ≡ true → (j : ℕ) × ((j < m) × (f j ≡ a))

-- none of the first 0
pub listed_none : (p : ℕ → Bool) (f : ℕ → ℕ) → Listed p 0 0 f
listed_none p f =
    record {
      few = omega arith;
      inside = λ j l. absurd (omega (arith, l));
      holds = λ j l. absurd (omega (arith, l));
      rise = λ i j _ l. absurd (omega (arith, l));
      every = λ a l. absurd (omega (arith, l));
    }

-- the same numbers, and the same test
pub listed_ext : (p q : ℕ → Bool) (n m : ℕ) (f g : ℕ → ℕ) → ((a : ℕ) → a < n → p a ≡ q a) → ((j : ℕ) → j < m → f j ≡ g j)
    → Listed p n m f → Listed q n m g
listed_ext p q n m f g tests same s =
    record {
      few = s.few;
      inside = λ j l. rw (← same j l) (s.inside j l);
      holds = λ j l. rw (← same j l) (sym (tests (f j) (s.inside j l)) ∙ s.holds j l);
      rise = λ i j h l. rw (← same i (omega arith), ← same j l) (s.rise i j h l);
      every = λ a l e. let w = s.every a l (tests a l ∙ e) in (w.0, (w.1.0, sym (same w.0 w.1.0) ∙ w.1.1));
    }

-- a number more, written behind the others, which counts where the test holds for it
module _ (p : ℕ → Bool) (n m : ℕ) (f : ℕ → ℕ) (s : Listed p n m f) (last : f m ≡ n) where
  more_met : p n ≡ true → Listed p (n + 1) (m + 1) f
  more_met met =
      record {
        few = omega (arith, s.few);
        inside = λ j l. inside j (below_cases (omega arith));
        holds = λ j l. holds j (below_cases (omega arith));
        rise = λ i j h l. rise i j h (below_cases (omega arith));
        every = λ a l e. every a (below_cases (omega arith)) e;
      }
    where
      inside : (j : ℕ) → (j < m) ⊎ (j ≡ m) → f j < n + 1
      inside j (inl l) = omega (arith, s.inside j l)
      inside j (inr e) = rw (e, last) (omega arith)

      holds : (j : ℕ) → (j < m) ⊎ (j ≡ m) → p (f j) ≡ true
      holds j (inl l) = s.holds j l
      holds j (inr e) = rw (e, last) met

      rise : (i j : ℕ) → i < j → (j < m) ⊎ (j ≡ m) → f i < f j
      rise i j h (inl l) = s.rise i j h l
      rise i j h (inr e) = rw (e, last) (s.inside i (omega arith))

      every : (a : ℕ) → (a < n) ⊎ (a ≡ n) → p a ≡ true → (j : ℕ) × ((j < m + 1) × (f j ≡ a))
      every a (inl l) e = let w = s.every a l e in (w.0, (omega (arith, w.1.0), w.1.1))
      every a (inr q) e = (m, (omega arith, last ∙ sym q))

  more_unmet : p n ≡ false → Listed p (n + 1) m f
  more_unmet unmet =
      record {
        few = omega (arith, s.few);
        inside = λ j l. omega (arith, s.inside j l);
        holds = s.holds;
        rise = s.rise;
        every = λ a l e. every a (below_cases (omega arith)) e;
      }
    where
      every : (a : ℕ) → (a < n) ⊎ (a ≡ n) → p a ≡ true → (j : ℕ) × ((j < m) × (f j ≡ a))
      every a (inl l) e = s.every a l e
      every a (inr q) e = absurd (true≢false (sym e ∙ rw q unmet))

  pub listed_more : (k : ℕ) → k ≡ cond (p n) 1 0 → Listed p (n + 1) (m + k) f
  listed_more k e = go (p n) e more_met more_unmet
    where
      go : (t : Bool) → k ≡ cond t 1 0 → (t ≡ true → Listed p (n + 1) (m + 1) f) → (t ≡ false → Listed p (n + 1) m f) → Listed p (n + 1) (m + k) f
      go true q one none = rw q (one refl)
      go false q one none = let z : m + k ≡ m = omega arith in rw z (none refl)

-- ---- going over the list

-- the first number behind the first j that are listed
unfoldable pub past : (ℕ → ℕ) → ℕ → ℕ
past f zero = 0
past f (suc j) = f j + 1

pub past_more : (f : ℕ → ℕ) (j : ℕ) → past f (j + 1) ≡ f j + 1
unfolding past
past_more f j = rw (add-one j)

module _ (p : ℕ → Bool) (n m : ℕ) (f : ℕ → ℕ) (s : Listed p n m f) where
  -- the next one is not before it
  pub past_next : (j : ℕ) → j < m → past f j ≤ f j
  unfolding past
  past_next zero l = omega arith
  past_next (suc j) l = omega (arith, s.rise j (suc j) (omega arith) l)

  -- nor the end
  pub past_end : (j : ℕ) → j ≤ m → past f j ≤ n
  unfolding past
  past_end zero l = omega arith
  past_end (suc j) l = omega (arith, s.inside j (omega arith))

  -- no number falls
  up : (i j : ℕ) → i ≤ j → j < m → f i ≤ f j
  up i j h l = go (ℕ_discrete i j)
    where
      go : Dec (i ≡ j) → f i ≤ f j
      go (yes e) = rw e (omega arith)
      go (no d) = omega (arith, s.rise i j (omega (arith, d)) l)

  -- a listed number is not behind those before the j-th and before it
  apart : (j k a : ℕ) → j ≤ m → past f j ≤ a → (j < m → a < f j) → k < m → f k ≡ a → Dec (k + 1 ≤ j) → ⊥
  unfolding past
  apart zero k a g low high h e (yes q) = omega arith
  apart (suc j) k a g low high h e (yes q) = omega (arith, up k j (omega arith) (omega arith))
  apart j k a g low high h e (no d) = omega (arith, up j k (omega (arith, d)) h, high (omega (arith, d)))

  -- between two that are listed, and behind the last, the test holds for none
  pub listed_gap : (j a : ℕ) → j ≤ m → a < n → past f j ≤ a → (j < m → a < f j) → p a ≡ false
  listed_gap j a g l low high = go (p a) refl
    where
      go : (t : Bool) → p a ≡ t → p a ≡ false
      go false e = e
      go true e = let w = s.every a l e in absurd (apart j w.0 a g low high w.1.0 w.1.1 (dec_le (w.0 + 1) j))

-- the numbers at the front of a list
pub listed_front : (p : ℕ → Bool) (n m : ℕ) (xs : List ℕ) → m ≤ length xs → Listed p n m (λ j. get_or xs j 0)
    → Listed p n (length (take m xs)) (λ j. get_or (take m xs) j 0)
listed_front p n m xs h s = rw (length-take-le m xs h) (listed_ext p p n m _ _ (λ a _. refl) (λ j l. sym (get_or-take m xs j 0 l)) s)
