-- Laws of the prices of all leaves, one leaf's behind the other: where each leaf's are, and what they are in the first layer and in the next.
-- Assumes nothing.
use Rattle.std.specs.Prelude.{◌≡◌, refl, ◌⊎◌, List, ◌++◌, ℕ, zero, suc, ◌+◌, ◌≤◌, ◌<◌, length, take, drop}
use Rattle.std.proofs.Common.{◌∙◌, inl, inr, not-suc-le-zero, arith, length-append, length-take, length-drop, take_all, drop_at}
use Rattle.std.proofs.lemmas.List.{take-append-le, drop-append-le}
use Rattle.loops.specs.Count.{sum}
use Rattle.loops.specs.Count.Laws.{below_cases}
use Rattle.task.specs.declared.Task.{Task}
use Rattle.task.specs.declared.Centre.{Centre}
use Rattle.task.specs.Meaning.{initial}
use Rattle.task.specs.Factors.{states, all_states}
use Rattle.task.specs.Centre.{centre}
use Rattle.leaf.specs.Settle.Steps.{below_suc}
use Rattle.layer.specs.Layer.{settle_leaf, start_leaf, pass_leaf, base, leaf_part, joined, first_prices, next_prices}
use Rattle.layer.specs.Layer.Leaf.{leaf_length, start_leaf_length, pass_leaf_length}

-- ---- base and leaf_part

-- a term and those before it are no more than the sum
pub sum_part : (n i : ℕ) (g : ℕ → ℕ) → i < n → sum i g + g i ≤ sum n g
unfolding sum
sum_part zero i g l = absurd (not-suc-le-zero l)
sum_part (suc n) i g l = below_suc (λ i. sum i g + g i ≤ sum (suc n) g) n (λ i h. omega (arith, sum_part n i g h)) (omega arith) i l

-- the prices of a leaf lie inside those of all
pub base_fits : (t : Task) (i : ℕ) → i < t.leaves → base t i + states t (suc i) ≤ all_states t
unfolding base all_states
base_fits t i l = sum_part t.leaves i _ l

-- a leaf's part has as many prices as the leaf has states
pub part_length : (t : Task) (i : ℕ) (P : List ℕ) → i < t.leaves → length P ≡ all_states t → length (leaf_part t i P) ≡ states t (suc i)
unfolding leaf_part
part_length t i P l h = simp (length-take, length-drop) (omega (arith, base_fits t i l))

-- ---- joined

-- the length is the sum of the lengths
pub joined_sum : (n : ℕ) (f : ℕ → List ℕ) (g : ℕ → ℕ) → ((j : ℕ) → j < n → length (f j) ≡ g j) → length (joined n f) ≡ sum n g
unfolding joined sum
joined_sum zero f g h = refl
joined_sum (suc n) f g h = simp length-append (omega (arith, joined_sum n f g (λ j l. h j (omega arith)), h n (omega arith)))

-- the list behind i others, found by their lengths
pub joined_part : (n i : ℕ) (f : ℕ → List ℕ) (g : ℕ → ℕ) → ((j : ℕ) → j < n → length (f j) ≡ g j) → i < n → take (g i) (drop (sum i g) (joined n f)) ≡ f i
unfolding joined
joined_part zero i f g h l = absurd (not-suc-le-zero l)
joined_part (suc n) i f g h l = of (below_cases l) (joined_part n i f g (λ j k. h j (omega arith)))
  where
    len : length (joined n f) ≡ sum n g
    len = joined_sum n f g (λ j k. h j (omega arith))

    of : (i < n) ⊎ (i ≡ n) → (i < n → take (g i) (drop (sum i g) (joined n f)) ≡ f i) → take (g i) (drop (sum i g) (joined n f ++ f n)) ≡ f i
    of (inl k) r =
        let fits = sum_part n i g k in
        rw (
          drop-append-le (sum i g) (joined n f) (f n) (omega (arith, len)),
          take-append-le (g i) (drop (sum i g) (joined n f)) (f n) (simp length-drop (omega (arith, len))),
        ) (r k)
    of (inr q) r = rw (q, drop_at (joined n f) (f n) (sum n g) len) (take_all (g n) (f n) (omega (arith, h n (omega arith))))

module _ (t : Task) (f : ℕ → List ℕ) (fits : (j : ℕ) → j < t.leaves → length (f j) ≡ states t (suc j)) where
  -- lists as long as the leaves have states: all states, one behind the other
  pub joined_length : length (joined t.leaves f) ≡ all_states t
  unfolding all_states
  joined_length = joined_sum t.leaves f _ fits

  -- a leaf's part is its own list
  pub part_joined : (i : ℕ) → i < t.leaves → leaf_part t i (joined t.leaves f) ≡ f i
  unfolding leaf_part base
  part_joined i l = joined_part t.leaves i f _ fits l

-- ---- first_prices

module _ (t : Task) where
  -- each leaf's list is as long as the leaf has states
  first_fits : (i : ℕ) → i < t.leaves → length (settle_leaf t (suc i) (centre t (initial t)) (start_leaf t (suc i))) ≡ states t (suc i)
  first_fits i l = leaf_length t (suc i) (centre t (initial t)) (start_leaf t (suc i)) ∙ start_leaf_length t (suc i)

  -- there is a price for every state of every leaf
  pub first_length : length (first_prices t) ≡ all_states t
  unfolding first_prices
  first_length = joined_length t _ first_fits

  -- a leaf's part is its own start, settled
  pub part_first : (i : ℕ) → i < t.leaves → leaf_part t i (first_prices t) ≡ settle_leaf t (suc i) (centre t (initial t)) (start_leaf t (suc i))
  unfolding first_prices
  part_first = part_joined t _ first_fits

-- ---- next_prices

module _ (t : Task) (c : Centre) (a : ℕ) (P : List ℕ) where
  -- each leaf's list is as long as the leaf has states
  next_fits : (i : ℕ) → i < t.leaves → length (settle_leaf t (suc i) c (pass_leaf t (suc i) a (leaf_part t i P))) ≡ states t (suc i)
  next_fits i l = leaf_length t (suc i) c (pass_leaf t (suc i) a (leaf_part t i P)) ∙ pass_leaf_length t (suc i) a (leaf_part t i P)

  -- there is a price for every state of every leaf
  pub next_length : length (next_prices t c a P) ≡ all_states t
  unfolding next_prices
  next_length = joined_length t _ next_fits

  -- a leaf's part is what came through, settled
  pub part_next : (i : ℕ) → i < t.leaves → leaf_part t i (next_prices t c a P) ≡ settle_leaf t (suc i) c (pass_leaf t (suc i) a (leaf_part t i P))
  unfolding next_prices
  part_next = part_joined t _ next_fits
