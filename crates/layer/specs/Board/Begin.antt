-- A layer in two steps: its begin, and settling leaf by leaf. The begin, settled, is the layer. Assumes nothing.
use Rattle.std.specs.Prelude.{◌≡◌, List, ◌++◌, length, take, drop}
use Rattle.std.proofs.Math.Path.{sym, ap}
use Rattle.std.proofs.Common.{◌∙◌, arith, length-drop, drop_at}
use Prim.Native.Nat.{ℕ, zero, suc, ◌+◌, ◌≤◌, ◌<◌}
use Rattle.std.proofs.Math.Numerals.{add-one}
use Rattle.std.proofs.lemmas.List.{take-append-le, drop-append-le}
use Rattle.loops.specs.Count.{sum}
use Rattle.task.specs.declared.Centre.{Centre}
use Rattle.leaf.specs.Price.{mark}
use Rattle.leaf.specs.Pass.Laws.{pass_length}
use Rattle.layer.specs.Layer.{joined}
use Rattle.layer.specs.Layer.Laws.{sum_part, joined_sum, joined_part}
use Rattle.layer.specs.Board.{Board, Sound, base_on, row_on, states_on, to_on, settle_on, pass_on, part_on, next_on, begin_on, settled_on}
use Rattle.layer.specs.Board.Laws.{joined_ext}

module _ (b : Board) (sound : Sound b) where
  -- where a leaf's states begin: as many as the leaves before it have
  base_sum : (i : ℕ) → i ≤ b.leaves → base_on b i ≡ sum i (states_on b)
  unfolding sum
  base_sum zero l = sound.bases_first
  base_sum (suc i) l =
      let e : base_on b (suc i) ≡ base_on b (i + 1) = rw add-one in
      omega (arith, e, base_sum i (omega arith), sound.bases_rise i (omega arith))

  -- of lists as long as the leaves have states, one behind the other, a leaf's part is its own
  part_laid : (f : ℕ → List ℕ) (rest : List ℕ) → ((j : ℕ) → j < b.leaves → length (f j) ≡ states_on b j) → (i : ℕ) → i < b.leaves
      → part_on b i (joined b.leaves f ++ rest) ≡ f i
  part_laid f rest h i l =
      let J = joined b.leaves f in
      let k = sum i (states_on b) in
      let fits = sum_part b.leaves i (states_on b) l in
      let many = joined_sum b.leaves f (states_on b) h in
      ap (λ (n : ℕ). take (states_on b i) (drop n (J ++ rest))) (base_sum i (omega arith))
      ∙ rw (drop-append-le k J rest (omega arith), take-append-le (states_on b i) (drop k J) rest (simp length-drop (omega arith)))
      (joined_part b.leaves i f (states_on b) h l)

  module _ (a : ℕ) (P : List ℕ) where
    -- what comes through has a price for each of the leaf's states
    pass_long : (i : ℕ) → i < b.leaves → length (pass_on b i a (part_on b i P)) ≡ states_on b i
    unfolding pass_on
    pass_long i l = pass_length mark (states_on b i) (to_on b i a) (part_on b i P) (states_on b i)

    -- a begin has a price for each state of each leaf
    pub begin_long : length (begin_on b a P) ≡ row_on b
    unfolding begin_on
    begin_long = joined_sum b.leaves _ (states_on b) pass_long ∙ sym (base_sum b.leaves (omega arith))

    -- the begin, settled, is the next layer
    pub begin_settled : (c : Centre) (rest : List ℕ) → settled_on b c (begin_on b a P ++ rest) ≡ next_on b c a P
    unfolding begin_on settled_on next_on
    begin_settled c rest = joined_ext b.leaves _ _ (λ i l. ap (settle_on b i c) (part_laid _ rest pass_long i l))

    -- and so it is where both stand at the front of a longer list
    pub begin_next : (c : Centre) (xs : List ℕ)
        → settled_on b c (begin_on b a P ++ drop (row_on b) xs) ++ drop (row_on b) (begin_on b a P ++ drop (row_on b) xs) ≡ next_on b c a P ++ drop (row_on b) xs
    begin_next c xs = rw (begin_settled c (drop (row_on b) xs), drop_at (begin_on b a P) (drop (row_on b) xs) (row_on b) begin_long)
