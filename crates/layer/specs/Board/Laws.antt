-- The layers by tables that fit a task (Fits) are the task's layers. Assumes nothing.
use Rattle.std.specs.Prelude.{◌≡◌, List, length, get_or, replicate}
use Rattle.std.proofs.Math.Path.{refl, ap, ap₂}
use Rattle.std.proofs.Common.{◌∙◌, arith}
use Rattle.std.proofs.Math.Bool.{◌&&◌}
use Prim.Native.Nat.{ℕ, zero, suc, ◌+◌, ◌≤◌, ◌<◌}
use Rattle.std.proofs.Math.ListN.{set}
use Rattle.loops.specs.Count.{all}
use Rattle.loops.specs.Count.Laws.{all_ext, any_ext, sum_more}
use Rattle.task.specs.declared.Task.{Task}
use Rattle.task.specs.declared.Centre.{Centre}
use Rattle.task.specs.Meaning.{initial, factor, condition}
use Rattle.task.specs.Factors.{number, states, all_states}
use Rattle.task.specs.Centre.{centre, centre_meets}
use Rattle.leaf.specs.Price.{mark}
use Rattle.leaf.specs.Settle.Ext.{settled_ext}
use Rattle.leaf.specs.Pass.{pass}
use Rattle.layer.specs.Layer.{base, enabled_to, enabled, settle_leaf, start_leaf, pass_leaf, passes, leaf_part, joined, first_prices, next_prices, applies_to}
use Rattle.layer.specs.Layer.Leaf.{enabled_at, start_leaf_length, pass_leaf_length}
use Rattle.layer.specs.Board.{Board, Fits, row_on, states_on, met_on, enabled_on, settle_by, settle_on, pass_on, passes_on, part_on, first_on, next_on, applies_on}

-- ---- of any functions

-- passing depends on what becomes of the states below i
pub pass_ext : (M n : ℕ) (thr thr' : ℕ → ℕ) (P : List ℕ) (i : ℕ) → ((x : ℕ) → x < i → thr x ≡ thr' x) → pass M n thr P i ≡ pass M n thr' P i
unfolding pass
pass_ext M n thr thr' P zero h = refl
pass_ext M n thr thr' P (suc i) h = rw (h i (omega arith), pass_ext M n thr thr' P i (λ x l. h x (omega arith)))

-- joining depends on the lists below n
pub joined_ext : (n : ℕ) (f g : ℕ → List ℕ) → ((i : ℕ) → i < n → f i ≡ g i) → joined n f ≡ joined n g
unfolding joined
joined_ext zero f g h = refl
joined_ext (suc n) f g h = rw (h n (omega arith), joined_ext n f g (λ i l. h i (omega arith)))

-- ---- of a task's tables

module _ (t : Task) (b : Board) (f : Fits t b) where
  -- the states of each leaf
  pub states_on_lem : (i : ℕ) → i < t.leaves → states_on b i ≡ states t (suc i)
  unfolding base
  states_on_lem i l = omega (arith, f.bases_is i (omega arith), f.bases_is (i + 1) (omega arith), sum_more i (λ j. states t (suc j)))

  -- the states of all leaves
  pub row_on_lem : row_on b ≡ all_states t
  unfolding base all_states
  row_on_lem = rw f.leaves_is (f.bases_is t.leaves (omega arith))

  -- the prices of a leaf
  pub part_on_lem : (i : ℕ) (P : List ℕ) → i < t.leaves → part_on b i P ≡ leaf_part t i P
  unfolding leaf_part
  part_on_lem i P l = rw (states_on_lem i l, f.bases_is i (omega arith))

  -- the centre conditions of an action
  pub met_on_lem : (c : Centre) (a : ℕ) → met_on b c a ≡ centre_meets (factor t) (condition t a) c
  met_on_lem c a = rw (f.factors_is, f.conditions_is)

  -- the enabled leaf actions among those below n
  pub enabled_on_lem : (i : ℕ) (c : Centre) (n : ℕ) → i < t.leaves → n ≤ t.actions → enabled_on b i c n ≡ enabled_to t (suc i) c n
  unfolding enabled_on enabled_to
  enabled_on_lem i c zero l h = refl
  enabled_on_lem i c (suc a) l h = rw (f.kinds_is i a l h, met_on_lem c a, enabled_on_lem i c a l (omega arith))

  -- a leaf's settled prices
  pub settle_on_lem : (i : ℕ) (c : Centre) (P : List ℕ) → i < t.leaves → length P ≡ states t (suc i) → settle_on b i c P ≡ settle_leaf t (suc i) c P
  unfolding settle_by settle_leaf
  settle_on_lem i c P l h =
      let acts = ap (enabled_on b i c) f.actions_is ∙ enabled_on_lem i c t.actions l (omega arith) in
      ap (λ xs. settle_by b i xs P) acts
      ∙ settled_ext mark (length (enabled t (suc i) c)) (states t (suc i)) _ _ _ _
      (λ j k. f.costs_is _ (enabled_at t (suc i) c j k).0)
      (λ j x k m. f.moves_is i _ x l (enabled_at t (suc i) c j k).0 m) P h

  -- a leaf's prices behind a centre action
  pub pass_on_lem : (i a : ℕ) (P : List ℕ) → i < t.leaves → a < t.actions → pass_on b i a P ≡ pass_leaf t (suc i) a P
  unfolding pass_on pass_leaf
  pass_on_lem i a P l h = rw (states_on_lem i l) (pass_ext mark (states t (suc i)) _ _ P (states t (suc i)) (λ x m. f.moves_is i a x l h m))

  -- whether a reachable state of the leaf passes
  pub passes_on_lem : (i a : ℕ) (P : List ℕ) → i < t.leaves → a < t.actions → passes_on b i a P ≡ passes t (suc i) a P
  unfolding passes_on passes
  passes_on_lem i a P l h = rw (states_on_lem i l) (any_ext (states t (suc i)) _ _ (λ x m. rw (f.moves_is i a x l h m)))

  -- lists of all leaves, one behind the other
  pub joined_on : (g h : ℕ → List ℕ) → ((i : ℕ) → i < t.leaves → g i ≡ h i) → joined b.leaves g ≡ joined t.leaves h
  joined_on g h e = rw f.leaves_is (joined_ext t.leaves g h e)

  -- the first layer, from the initial state of each leaf
  pub first_on_lem : (starts : List ℕ) → ((i : ℕ) → i < t.leaves → get_or starts i 0 ≡ number t (suc i) (initial t))
      → first_on b starts (centre t (initial t)) ≡ first_prices t
  unfolding first_on first_prices
  first_on_lem starts h = joined_on _ _ each
    where
      start : (i : ℕ) → i < t.leaves → set (replicate (states_on b i) mark) (get_or starts i 0) 0 ≡ start_leaf t (suc i)
      start i l = unfold start_leaf in rw (states_on_lem i l, h i l)

      each : (i : ℕ) → i < t.leaves
          → settle_on b i (centre t (initial t)) (set (replicate (states_on b i) mark) (get_or starts i 0) 0)
          ≡ settle_leaf t (suc i) (centre t (initial t)) (start_leaf t (suc i))
      each i l = rw (start i l) (settle_on_lem i (centre t (initial t)) (start_leaf t (suc i)) l (start_leaf_length t (suc i)))

  -- the layer behind a centre action
  pub next_on_lem : (c : Centre) (a : ℕ) (P : List ℕ) → a < t.actions → next_on b c a P ≡ next_prices t c a P
  unfolding next_on next_prices
  next_on_lem c a P h = joined_on _ _ each
    where
      each : (i : ℕ) → i < t.leaves → settle_on b i c (pass_on b i a (part_on b i P)) ≡ settle_leaf t (suc i) c (pass_leaf t (suc i) a (leaf_part t i P))
      each i l =
          let same = settle_on_lem i c (pass_leaf t (suc i) a (leaf_part t i P)) l (pass_leaf_length t (suc i) a (leaf_part t i P)) in
          rw (part_on_lem i P l, pass_on_lem i a (leaf_part t i P) l h) same

  -- whether a centre action applies
  pub applies_on_lem : (c : Centre) (P : List ℕ) (a : ℕ) → a < t.actions → applies_on b c P a ≡ applies_to t c P a
  unfolding applies_on applies_to
  applies_on_lem c P a h =
      ap₂ ◌&&◌ (met_on_lem c a)
      (ap (λ n. all n (λ i. passes_on b i a (part_on b i P))) f.leaves_is ∙ all_ext t.leaves _ _ (λ i l. ap (passes_on b i a) (part_on_lem i P l) ∙ passes_on_lem i a (leaf_part t i P) l h))
