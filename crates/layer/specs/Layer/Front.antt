-- Prices with words behind them: what a layer makes of them depends on the first S words alone; and tables read by their entries. Assumes nothing.
use Rattle.std.specs.Prelude.{◌≡◌, refl, Bool, true, false, cond, not, ◌&&◌, List, [], ◌∷◌, ℕ, zero, suc, ◌+◌, ◌≤◌, ◌<◌, get_or, take, drop}
use Rattle.std.proofs.Math.Path.{ap}
use Rattle.std.proofs.Common.{arith, take-take}
use Rattle.loops.specs.Count.Laws.{all_ext, list_ext}
use Rattle.task.specs.declared.Task.{Task}
use Rattle.task.specs.declared.Centre.{Centre}
use Rattle.task.specs.Meaning.{Partial, factor, condition}
use Rattle.task.specs.Factors.{states, all_states}
use Rattle.task.specs.Centre.{centre_after, centre_meets}
use Rattle.layer.specs.Layer.{base, leaf_part, next_prices, applies_to}
use Rattle.layer.specs.Layer.Laws.{base_fits}
use Rattle.layer.specs.Board.Laws.{joined_ext}

-- ---- the front of a list

-- a part within the front of a list
pub part_take : (n m k : ℕ) (l : List ℕ) → m + n ≤ k → take n (drop m (take k l)) ≡ take n (drop m l)
part_take n zero k l h = take-take n k l (omega arith)
part_take n (suc m) zero l h = absurd (omega arith)
part_take n (suc m) (suc k) [] h = refl
part_take n (suc m) (suc k) (x ∷ l) h = part_take n m k l (omega arith)

module _ (t : Task) (P : List ℕ) where
  -- a leaf's prices
  pub part_front : (i : ℕ) → i < t.leaves → leaf_part t i (take (all_states t) P) ≡ leaf_part t i P
  unfolding leaf_part
  part_front i l = part_take (states t (suc i)) (base t i) (all_states t) P (base_fits t i l)

  -- the next layer
  pub next_front : (c : Centre) (a : ℕ) → next_prices t c a (take (all_states t) P) ≡ next_prices t c a P
  unfolding next_prices
  next_front c a = joined_ext t.leaves _ _ (λ i l. rw (part_front i l))

  -- whether an action applies
  pub applies_front : (c : Centre) (a : ℕ) → applies_to t c (take (all_states t) P) a ≡ applies_to t c P a
  unfolding applies_to
  applies_front c a = ap (λ b. centre_meets (factor t) (condition t a) c && b) (all_ext t.leaves _ _ (λ i l. rw (part_front i l)))

-- ---- entries

-- the centre state behind effects that are listed
pub after_list : (fac : ℕ → ℕ) (q : Partial) (c : Centre)
    (qs : List ℕ) → ((v : ℕ) → v < 32 → get_or qs v 0 ≡ q v) → centre_after fac (λ v. get_or qs v 0) c ≡ centre_after fac q c
unfolding centre_after
after_list fac q c qs h = ap {B = Centre} (λ xs. record { values = xs }) (list_ext 32 _ _ (λ v l. rw (h v l)))

-- a test turned round
pub cond_not : (b : Bool) (x y : ℕ) → cond (not b) x y ≡ cond b y x
cond_not true x y = refl
cond_not false x y = refl
