-- The begin of a layer behind an action: the old layer where the action leaves each state of each leaf as it is. The key behind an action, known before a
-- layer is made. And actions that are stuck. Assumes nothing.
use Rattle.std.specs.Prelude.{◌≡◌, refl, Bool, true, false, not, ◌&&◌, ltb, eqb, length, drop}
use Rattle.std.proofs.Common.{sym, ◌∙◌, arith, length-take, length-drop, take_at, drop_at, take-add, get_or-take}
use Rattle.std.proofs.Math.Path.{ap}
use Rattle.std.proofs.Math.Bool.{and-false}
use mathlib.Core.List.{List, ◌++◌}
use Prim.Native.Nat.{ℕ, zero, suc, ◌+◌, ◌*◌, ◌≤◌, ◌<◌, min}
use Rattle.std.proofs.Math.Numerals.{add-one}
use Rattle.std.proofs.Math.Decide.{dec_le}
use Rattle.std.proofs.Math.ListN.{get_or, take, get_or-eq_default}
use Rattle.std.proofs.Math.Seq.{get_or-drop}
use Rattle.std.proofs.lemmas.Bool.{not-true}
use Rattle.loops.specs.Count.{any, sum}
use Rattle.loops.specs.Count.Laws.{and_out, all_not, any_out, sum_more, sum_ext}
use Rattle.task.specs.declared.Centre.{Centre}
use Rattle.task.specs.declared.Task.{Task}
use Rattle.task.specs.Meaning.{cost}
use Rattle.leaf.specs.Price.{mark}
use Rattle.leaf.specs.Settle.Turns.{at_any}
use Rattle.leaf.specs.Settle.Walks.{Capped}
use Rattle.leaf.specs.Pass.{pass}
use Rattle.leaf.specs.Pass.Laws.{pass_length, pass_floor}
use Rattle.layer.specs.Layer.{leaf_part, pass_leaf, joined}
use Rattle.layer.specs.Layer.Laws.{joined_part}
use Rattle.layer.specs.Layer.Front.{part_take}
use Rattle.layer.specs.Board.{Board, Sound, base_on, row_on, states_on, to_on, met_on, pass_on, passes_on, part_on, begin_on, applies_on}
use Rattle.layer.specs.Board.Laws.{joined_ext}
use Rattle.layer.specs.Board.Turns.{base_in, leaf_passes}
use Rattle.price.specs.Sums.{sum_le}
use Rattle.search.specs.Node.{Node, next_node, least_of, key}
use Rattle.search.specs.Node.Laws.{least_of_le, least_of_cap, least_of_ge}
use Rattle.search.specs.Begin.{pass_still, begin_node, part_begin, key_begin}
use Rattle.stills.specs.Still.{Stays}
use Rattle.keys.specs.Scan.{part_by, key_by}
use Rattle.rows.specs.Sign.{sign_of}

-- ---- keys that rise

-- over the first i leaves the least prices f rise to g, and the key from `low` to `key`: by as much as they do together, up to the mark
pub record Risen (f g : ℕ → ℕ) (i low key : ℕ) : Type 0 where
  pub rise : ℕ
  pub sums : sum i f + rise ≡ sum i g
  pub capped : key ≡ min (low + rise) mark

-- over no leaf
pub risen_none : (f g : ℕ → ℕ) (low : ℕ) → low ≤ mark → Risen f g 0 low low
unfolding sum
risen_none f g low h = record { rise = 0; sums = refl; capped = omega arith }

-- over a leaf more
pub risen_more : (f g : ℕ → ℕ) (i low key r more : ℕ) → Risen f g i low key → f i + r ≡ g i → more ≡ min (key + r) mark → Risen f g (i + 1) low more
risen_more f g i low key r more s e q =
    record {
      rise = s.rise + r;
      sums = omega (arith, sum_more i f, sum_more i g, s.sums, e);
      capped = omega (arith, s.capped, q);
    }

-- the least prices of the leaves, by the bases
abbrev pub leasts : List ℕ → List ℕ → ℕ → ℕ
leasts bases P i = least_of (part_by bases i P)

-- where `low` is the key with the old prices, the key that has risen is that with the new ones
pub risen_key : (leaves : ℕ) (bases P Q : List ℕ) (low key spent : ℕ) → Risen (leasts bases P) (leasts bases Q) leaves low key
    → low ≡ key_by leaves bases spent P → key ≡ key_by leaves bases spent Q
unfolding key_by
risen_key leaves bases P Q low key spent risen isLow = omega (arith, risen.sums, risen.capped, isLow)

-- ---- the begin

-- words are no prices above the mark
pub word_cap : (P : List ℕ) → ((x : ℕ) → get_or P x 0 ≤ mark) → Capped mark P
word_cap P h x = go (dec_le (suc x) (length P))
  where
    go : Dec (x < length P) → get_or P x mark ≤ mark
    go (yes l) = rw (at_any P x mark 0 l) (h x)
    go (no l) = omega (arith, get_or-eq_default P mark {n = x} (omega arith))

-- no least price falls over an action
pub pass_rises : (n : ℕ) (thr : ℕ → ℕ) (P : List ℕ) → least_of P ≤ least_of (pass mark n thr P n)
pass_rises n thr P =
    least_of_ge (pass mark n thr P n) (least_of P) (least_of_cap P) (λ y _. pass_floor mark n thr P (least_of P) (least_of_cap P) (λ x _. least_of_le P x) y)

-- so a copy Q of their prices is what passes, and the least of them is the same
pub copy_passes : (thr : ℕ → ℕ) (P Q : List ℕ) → ((x : ℕ) → get_or P x 0 ≤ mark) → ((x : ℕ) → x < length P → thr x ≡ x + 1)
    → Q ≡ P → (Q ≡ pass mark (length P) thr P (length P)) × (least_of P + 0 ≡ least_of Q)
copy_passes thr P Q words stay same =
    (same ∙ sym (pass_still (length P) thr P refl (word_cap P words) stay), rw same (omega arith))

-- ---- a list Q whose first r words are a copy of P's

module _ (r : ℕ) (P R Q : List ℕ) (long : r ≤ length P) (isQ : Q ≡ take r P ++ drop r R) where
  copied_many : length (take r P) ≡ r
  copied_many = simp length-take (omega arith)

  -- each part of it
  pub part_copied : (n from : ℕ) → from + n ≤ r → take n (drop from Q) ≡ take n (drop from P)
  part_copied n from fits =
      let front : take r Q ≡ take r P = rw isQ (take_at (take r P) (drop r R) r copied_many) in
      sym (part_take n from r Q fits) ∙ ap (λ xs. take n (drop from xs)) front ∙ part_take n from r P fits

  -- behind them the words are as they were
  pub rest_copied : drop r Q ≡ drop r R
  rest_copied = rw isQ (drop_at (take r P) (drop r R) r copied_many)

-- ---- the begin of all leaves

module _ (b : Board) (sound : Sound b) where
  -- the states of a leaf lie within all
  part_fits : (i : ℕ) → i < b.leaves → base_on b i + states_on b i ≤ row_on b
  part_fits i l = omega (arith, sound.bases_rise i l, base_in b sound i l)

  -- the parts of n leaves, one behind the other, are the front of the list
  parts_front : (P : List ℕ) (n : ℕ) → n ≤ b.leaves → joined n (λ i. part_on b i P) ≡ take (base_on b n) P
  unfolding joined
  parts_front P zero l = rw sound.bases_first
  parts_front P (suc n) l =
      let e : base_on b (suc n) ≡ base_on b (n + 1) = rw add-one in
      let z : base_on b (suc n) ≡ base_on b n + states_on b n = omega (arith, e, sound.bases_rise n (omega arith)) in
      rw (z, parts_front P n (omega arith)) (sym (take-add (base_on b n) (states_on b n) P))

  -- a leaf's part is as long as the leaf has states
  part_many : (P : List ℕ) → row_on b ≤ length P → (i : ℕ) → i < b.leaves → length (part_on b i P) ≡ states_on b i
  part_many P long i l = simp (length-take, length-drop) (omega (arith, part_fits i l))

  -- lists of the leaves, one behind the other at the front of Q, are the parts of Q
  parts_laid : (f : ℕ → List ℕ) → ((j : ℕ) → j < b.leaves → length (f j) ≡ states_on b j) → (Q : List ℕ) → row_on b ≤ length Q
      → joined b.leaves f ≡ take (row_on b) Q → (i : ℕ) → i < b.leaves → part_on b i Q ≡ f i
  parts_laid f fits Q long e i l =
      sym (joined_part b.leaves i (λ j. part_on b j Q) (states_on b) (part_many Q long) l)
      ∙ ap (λ xs. take (states_on b i) (drop (sum i (states_on b)) xs)) (parts_front Q b.leaves (omega arith) ∙ sym e)
      ∙ joined_part b.leaves i f (states_on b) fits l

  -- the least prices of a begin that is laid out, leaf by leaf, have risen to those of the list
  pub risen_laid : (a : ℕ) (P Q rest : List ℕ) (low made : ℕ) → row_on b ≤ length Q → Q ≡ joined b.leaves (λ k. pass_on b k a (part_on b k P)) ++ rest
      → length (joined b.leaves (λ k. pass_on b k a (part_on b k P))) ≡ row_on b
      → Risen (leasts b.bases P) (λ k. least_of (pass_on b k a (part_on b k P))) b.leaves low made
      → Risen (leasts b.bases P) (leasts b.bases Q) b.leaves low made
  unfolding pass_on
  risen_laid a P Q rest low made long isQ many risen =
      let f : ℕ → List ℕ = λ k. pass_on b k a (part_on b k P) in
      let front : joined b.leaves f ≡ take (row_on b) Q = rw isQ (sym (take_at (joined b.leaves f) rest (row_on b) many)) in
      let parts = parts_laid f (λ j l. pass_length mark (states_on b j) (to_on b j a) (part_on b j P) (states_on b j)) Q long front in
      let same = sum_ext b.leaves (leasts b.bases Q) (λ k. least_of (f k)) (λ i l. ap least_of (parts i l)) in
      record { rise = risen.rise; sums = omega (arith, same, risen.sums); capped = risen.capped }

  -- the begin behind an action that leaves all as it is: the old layer
  pub begin_still : (a : ℕ) (P : List ℕ) → row_on b ≤ length P → Capped mark P → Stays b.leaves b.bases b.moves (a * row_on b)
      → begin_on b a P ≡ take (row_on b) P
  unfolding begin_on pass_on
  begin_still a P long cap stays =
      joined_ext b.leaves _ _ (λ i l. pass_still (states_on b i) (to_on b i a) (part_on b i P) (part_many P long i l) (low i) (λ x k. stays i x l k))
      ∙ parts_front P b.leaves (omega arith)
    where
      low : (i : ℕ) → Capped mark (part_on b i P)
      low i x = go (dec_le (suc x) (states_on b i))
        where
          go : Dec (x < states_on b i) → get_or (part_on b i P) x mark ≤ mark
          go (yes l) = rw (get_or-take (states_on b i) (drop (base_on b i) P) x mark l, get_or-drop (base_on b i) P x mark) (cap (base_on b i + x))
          go (no l) =
              omega (arith, get_or-eq_default (part_on b i P) mark {n = x} (simp (length-take, length-drop) (omega arith)))

  -- words behind the prices do not count for the least prices, so that lists with the same prices at the front have the same ones
  leasts_front : (P Q : List ℕ) → take (row_on b) P ≡ take (row_on b) Q → sum b.leaves (leasts b.bases P) ≡ sum b.leaves (leasts b.bases Q)
  leasts_front P Q e = sum_ext b.leaves (leasts b.bases P) (leasts b.bases Q) (λ i l. ap least_of (part i l))
    where
      part : (i : ℕ) → i < b.leaves → part_on b i P ≡ part_on b i Q
      part i l =
          sym (part_take (states_on b i) (base_on b i) (row_on b) P (part_fits i l))
          ∙ ap (λ xs. take (states_on b i) (drop (base_on b i) xs)) e
          ∙ part_take (states_on b i) (base_on b i) (row_on b) Q (part_fits i l)

  -- what is made of the begin behind such an action: the old prices at the front of Q, their key and signature
  pub begun_still : (a : ℕ) (P rest : List ℕ) (low sign : ℕ) → low ≤ mark → row_on b ≤ length P → ((x : ℕ) → get_or P x 0 ≤ mark)
      → Stays b.leaves b.bases b.moves (a * row_on b) → sign ≡ sign_of (take (row_on b) P)
      → (Q : List ℕ) → Q ≡ take (row_on b) P ++ rest
      → (Q ≡ begin_on b a P ++ rest) × Risen (leasts b.bases P) (leasts b.bases Q) b.leaves low low × (sign ≡ sign_of (take (row_on b) Q))
  begun_still a P rest low sign few long words stays isSign Q isQ =
      let front : take (row_on b) Q ≡ take (row_on b) P =
      rw isQ (take_at (take (row_on b) P) rest (row_on b) (simp length-take (omega arith))) in
      let begin = begin_still a P long (word_cap P words) stays in
      (isQ ∙ ap (λ xs. xs ++ rest) (sym begin), record { rise = 0; sums = omega (arith, leasts_front Q P front); capped = omega arith }, isSign ∙ sym (ap sign_of front))

-- ---- keys

-- a cost more, before or behind the leaves' least prices
pub key_more : (leaves : ℕ) (bases : List ℕ) (paid c : ℕ) (P : List ℕ) → min (key_by leaves bases paid P + c) mark ≡ key_by leaves bases (min (paid + c) mark) P
unfolding key_by
key_more leaves bases paid c P = omega arith

module _ (t : Task) (n : Node) (a : ℕ) where
  -- no leaf's least price falls over a centre action
  least_rises : (i : ℕ) → least_of (leaf_part t i n.prices) ≤ least_of (pass_leaf t (suc i) a (leaf_part t i n.prices))
  unfolding pass_leaf
  least_rises i = pass_rises _ _ (leaf_part t i n.prices)

  -- so the key rises by the action's cost at least
  pub key_rises : (u : ℕ) → key t n + cost t a ≤ key t (next_node t u n a)
  unfolding key
  key_rises u =
      let rise = sum_le t.leaves (λ i. least_of (leaf_part t i n.prices)) (λ i. least_of (leaf_part t i (begin_node t n a n.spot 0 0).prices))
      (λ i l. rw (part_begin t a n.prices i l) (least_rises i)) in
      omega (arith, rise, key_begin t n a n.spot 0 0 u)

-- ---- actions that are stuck

-- whether an action whose moves begin at `from` is stuck in the leaf behind i leaves: `stays` is 0, and no state that is reached passes
unfoldable pub stuck_in : (i : ℕ) (bases moves : List ℕ) (from stays : ℕ) (old : List ℕ) → Bool
stuck_in i bases moves from stays old =
    let P = part_by bases i old in
    eqb stays 0 && not (any (length P) (λ x. ltb (get_or P x mark) mark && not (eqb (get_or moves (from + get_or bases i 0 + x) 0) 0)))

-- whether action a is stuck: by `still` it moves leaf states, and in some leaf that it moves by `stills` no state that is reached passes
unfoldable pub stuck_by : (leaves : ℕ) (bases moves still stills old : List ℕ) (a : ℕ) → Bool
stuck_by leaves bases moves still stills old a =
    eqb (get_or still a 0) 0 && any leaves (λ i. stuck_in i bases moves (a * get_or bases leaves 0) (get_or stills (a * 8 + i) 0) old)

-- an action that is stuck does not apply
pub stuck_out : (b : Board) → Sound b → (c : Centre) (P still stills : List ℕ) (a : ℕ) → row_on b ≤ length P
    → stuck_by b.leaves b.bases b.moves still stills P a ≡ true → applies_on b c P a ≡ false
unfolding applies_on stuck_by stuck_in
stuck_out b sound c P still stills a long e =
    let (i, (l, t)) = any_out b.leaves (λ i. stuck_in i b.bases b.moves (a * row_on b) (get_or stills (a * 8 + i) 0) P) (and_out (eqb (get_or still a 0) 0) _ e).1 in
    let none : passes_on b i a (part_on b i P) ≡ false =
    sym (leaf_passes b i a (part_on b i P) (part_many b sound P long i l)) ∙ not-true _ (and_out (eqb (get_or stills (a * 8 + i) 0) 0) _ t).1 in
    rw (all_not b.leaves (λ k. passes_on b k a (part_on b k P)) i l none) (and-false (met_on b c a))
