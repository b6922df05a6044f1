-- Laws of actions inside a layer and of staged ways: one more action, and one more layer. Assumes nothing.
use Rattle.std.specs.Prelude.{◌≡◌, true, ℕ, suc, ◌+◌, ◌<◌, ◌≤◌, length, get_or}
use Rattle.std.proofs.Math.Path.{refl}
use mathlib.Core.List.{List, [], ◌∷◌, ◌++◌}
use Rattle.std.proofs.Common.{arith}
use Rattle.std.proofs.Math.ListN.{get_or-append}
use Rattle.std.proofs.lemmas.List.{get_or_at}
use Rattle.task.specs.declared.Task.{Task}
use Rattle.task.specs.declared.Centre.{Centre}
use Rattle.task.specs.Meaning.{cost_of, factor, condition}
use Rattle.task.specs.Factors.{to, centre_action}
use Rattle.task.specs.Centre.{centre_meets}
use Rattle.layer.specs.Layer.{next_centre}
use Rattle.price.specs.Ways.{centre_along, Open, stop, next, Step, Steps, none, then, Staged, last, over, staged_cost}

module _ (t : Task) (l : ℕ) where
  -- one more action inside a layer
  pub steps_snoc : {c : Centre} {x y z : ℕ} {acts : List ℕ} (a : ℕ) → Steps t l c x acts y → Step t l c a y z → Steps t l c x (acts ++ (a ∷ [])) z
  steps_snoc a none e = then a e none
  steps_snoc a (then b d r) e = then b d (steps_snoc a r e)

  -- one more layer: g has the stages of f, and the new one behind them
  pub staged_snoc : {c : Centre} {x y u z : ℕ} {p : List ℕ} {f : ℕ → List ℕ} (a : ℕ) (g : ℕ → List ℕ) → Staged t l c x p f y → a < t.actions → to t l a y ≡ suc u
      → Steps t l (next_centre t a (centre_along t c p)) u (g (suc (length p))) z → ((k : ℕ) → k ≤ length p → g k ≡ f k)
      → Staged t l c x (p ++ (a ∷ [])) g z
  unfolding centre_along
  staged_snoc a g (last r) m e w h = over a (rw (← h 0 (omega arith)) at r) m e (last w)
  staged_snoc a g (over b r n q d) m e w h =
      over b (rw (← h 0 (omega arith)) at r) n q (staged_snoc a (λ k. g (suc k)) d m e w (λ k i. h (suc k) (omega arith)))

-- and its cost more
pub staged_cost_snoc : (t : Task) (a : ℕ) (f g : ℕ → List ℕ) (p : List ℕ) → ((k : ℕ) → k ≤ length p → g k ≡ f k)
    → staged_cost t g (p ++ (a ∷ [])) ≡ staged_cost t f p + cost_of t (g (suc (length p)))
unfolding staged_cost
staged_cost_snoc t a f g [] h = rw (h 0 (omega arith))
staged_cost_snoc t a f g (b ∷ p) h =
    rw (h 0 (omega arith)) (omega (arith, staged_cost_snoc t a (λ k. f (suc k)) (λ k. g (suc k)) p (λ k i. h (suc k) (omega arith))))

-- a list of stages with one more: the others are as before
pub stages_before : (xs : List (List ℕ)) (ys : List ℕ) (n k : ℕ) → length xs ≡ suc n → k ≤ n → get_or (xs ++ (ys ∷ [])) k [] ≡ get_or xs k []
stages_before xs ys n k e h = get_or-append xs (ys ∷ []) [] k (omega arith)

-- and the last is the new one
pub stages_last : (xs : List (List ℕ)) (ys : List ℕ) (n : ℕ) → length xs ≡ suc n → get_or (xs ++ (ys ∷ [])) (suc n) [] ≡ ys
stages_last xs ys n e = get_or_at xs ys [] [] (suc n) e

-- ---- a path with one more action

module _ (t : Task) where
  -- its centre state
  pub along_snoc : (c : Centre) (p : List ℕ) (a : ℕ) → centre_along t c (p ++ (a ∷ [])) ≡ next_centre t a (centre_along t c p)
  unfolding centre_along
  along_snoc c [] a = refl
  along_snoc c (b ∷ p) a = along_snoc (next_centre t b c) p a

  -- its centre conditions hold, where they do before it and those of the action do behind the path
  pub open_snoc : {c : Centre} {p : List ℕ} (a : ℕ) → Open t c p → a < t.actions → centre_action t a ≡ true
      → centre_meets (factor t) (condition t a) (centre_along t c p) ≡ true → Open t c (p ++ (a ∷ []))
  unfolding centre_along
  open_snoc a stop m b e = next a m b e stop
  open_snoc a (next d n q r o) m b e = next d n q r (open_snoc a o m b e)
