-- Laws of detours, and of the hop behind a node. Assumes nothing.
use Rattle.std.specs.Prelude.{◌≡◌, Bool, true, false, ◌&&◌, List, ltb, leb, eqb, set, take, drop}
use Rattle.std.proofs.Math.Path.{refl, sym}
use Rattle.std.proofs.Common.{ap, ◌∙◌, true≢false, add-one, length-drop, length-take-le, drop-drop, get_or-take, get_or-set_same, ext_get_or}
use Rattle.std.proofs.Math.Bool.{cond, not}
use Prim.Native.Nat.{ℕ, zero, suc, ◌+◌, ◌-◌, ◌*◌, ◌/◌, ◌%◌, ◌≤◌, ◌<◌}
use Rattle.std.proofs.Math.Decide.{dec_le}
use native.Mathlib.Omega.{arith}
use Rattle.std.specs.Int.Bits.{bit_or, bit_xor, or_add_and, xor_add_and, xor_self}
use Rattle.std.proofs.lemmas.Nat.{and_le_l, and_le_r}
use Rattle.std.proofs.Math.ListN.{length, get_or, length-set}
use Rattle.std.proofs.Math.Seq.{get_or-set_other}
use borrow.Author.Tests.{eq-eqb, ne_eqb, eqb-true, ltb-true}
use Rattle.loops.specs.Count.{sum}
use Rattle.loops.specs.Count.Laws.{and_in, and_out, all_out, sum_more}
use Rattle.layer.specs.Layer.Front.{part_take}
use Rattle.rows.specs.Row.{node_of, node_in}
use Rattle.rows.specs.Row.Laws.{row_in_lem, row_word}
use Rattle.mets.specs.Listed.{Listed, listed_none, listed_ext, listed_more, past, past_next, past_end, past_more, listed_gap}
use Rattle.detours.specs.Detours.{detours, detours_from, kept_of, kept_in, same_front, hop_behind}

-- ---- detours

-- an answer r that is found by the variable and the value that a hop left, in one number
pub detours_told : (r : Bool) (hops ways costs : List ℕ) (h c k k' : ℕ) → r ≡ detours_from hops ways costs ((h - 1) / 16) c k → k ≡ k'
    → r ≡ detours hops ways costs h c k'
unfolding detours detours_from
detours_told r hops ways costs h c k k' p q = let e : (h - 1) / 256 ≡ (h - 1) / 16 / 16 = omega arith in p ∙ rw (q, e)

-- how it is found
module _ (hops ways costs : List ℕ) (from c k : ℕ) where
  -- the action is no hop
  pub detour_word : get_or hops k 0 ≡ 0 → false ≡ detours_from hops ways costs from c k
  unfolding detours_from
  detour_word e = rw (eq-eqb _ _ e)

  module _ (d : get_or hops k 0 ≡ 0 → ⊥) where
    -- it is one of another variable
    pub detour_other : (from / 16 ≡ (get_or hops k 0 - 1) / 256 → ⊥) → false ≡ detours_from hops ways costs from c k
    unfolding detours_from
    detour_other o = rw (ne_eqb _ _ d, ne_eqb _ _ o)

    module _ (v : from / 16 ≡ (get_or hops k 0 - 1) / 256) where
      -- it goes back
      pub detour_back : from % 16 ≡ (get_or hops k 0 - 1) % 16 → true ≡ detours_from hops ways costs from c k
      unfolding detours_from
      detour_back e = rw (ne_eqb _ _ d, eq-eqb _ _ v, eq-eqb _ _ e)

      module _ (o : from % 16 ≡ (get_or hops k 0 - 1) % 16 → ⊥) where
        -- no hop goes all the way
        pub detour_none : get_or ways (from * 16 + (get_or hops k 0 - 1) % 16) 0 ≡ 0 → false ≡ detours_from hops ways costs from c k
        unfolding detours_from
        detour_none e = rw (ne_eqb _ _ d, eq-eqb _ _ v, ne_eqb _ _ o, eq-eqb _ _ e)

        -- one does
        pub detour_way : (get_or ways (from * 16 + (get_or hops k 0 - 1) % 16) 0 ≡ 0 → ⊥)
            → leb (get_or costs (get_or ways (from * 16 + (get_or hops k 0 - 1) % 16) 0 - 1) 0) (c + get_or costs k 0) ≡ detours_from hops ways costs from c k
        unfolding detours_from
        detour_way n = rw (ne_eqb _ _ d, eq-eqb _ _ v, ne_eqb _ _ o, ne_eqb _ _ n)

-- no numbers more that the test holds for
listed_skip : (p : ℕ → Bool) (n k m : ℕ) (f : ℕ → ℕ) → n ≤ k → ((a : ℕ) → n ≤ a → a < k → p a ≡ false) → Listed p n m f → Listed p k m f
listed_skip p n k m f h none s =
    record {
      few = omega (arith, s.few);
      inside = λ j l. omega (arith, s.inside j l);
      holds = s.holds;
      rise = s.rise;
      every = λ a l e. go a l e (dec_le n a);
    }
  where
    go : (a : ℕ) → a < k → p a ≡ true → Dec (n ≤ a) → (j : ℕ) × ((j < m) × (f j ≡ a))
    go a l e (yes q) = let z : ◌≡◌ {A = Bool} true false = sym e ∙ none a q l in absurd (true≢false z)
    go a l e (no d) = s.every a (omega (arith, d)) e

-- a number of a list that is gone over: it is kept where it is no detour
module _ (p d : ℕ → Bool) (n m : ℕ) (f : ℕ → ℕ) (s : Listed p n m f) where
  -- none so far
  kept_none : (g : ℕ → ℕ) → Listed (λ k. p k && not (d k)) (past f 0) 0 g
  unfolding past
  kept_none g = listed_none _ g

  -- between two listed numbers, and behind the last, none is kept
  gap : (j a : ℕ) → j ≤ m → a < n → past f j ≤ a → (j < m → a < f j) → (p a && not (d a)) ≡ false
  gap j a h l low high = rw (listed_gap p n m f s j a h l low high)

  -- the next number, written behind those that are kept
  kept_more : (j i i' : ℕ) (g g' : ℕ → ℕ) → j < m → Listed (λ k. p k && not (d k)) (past f j) i g → ((x : ℕ) → x < i → g x ≡ g' x) → g' i ≡ f j
      → i' ≡ i + cond (not (d (f j))) 1 0 → Listed (λ k. p k && not (d k)) (past f (j + 1)) i' g'
  kept_more j i i' g g' l t same last e =
      let up = listed_skip (λ k. p k && not (d k)) (past f j) (f j) i g' (past_next p n m f s j l)
      (λ a low high. gap j a (omega arith) (omega (arith, s.inside j l)) low (λ _. high)) (listed_ext _ _ _ _ _ _ (λ a _. refl) same t) in
      let holds : (p (f j) && not (d (f j))) ≡ not (d (f j)) = rw (s.holds j l) in
      rw (past_more f j, e) (listed_more (λ k. p k && not (d k)) (f j) i g' up last (cond (not (d (f j))) 1 0) (ap (λ t. cond t 1 0) (sym holds)))

  -- all of them
  kept_all : (i : ℕ) (g : ℕ → ℕ) → Listed (λ k. p k && not (d k)) (past f m) i g → Listed (λ k. p k && not (d k)) n i g
  kept_all i g t =
      listed_skip (λ k. p k && not (d k)) (past f m) n i g (past_end p n m f s m (omega arith))
      (λ a low l. gap m a (omega arith) l low (λ h. absurd (omega arith))) t

-- a number that is 1 or 0
flag_few : (t : Bool) → cond {A = ℕ} t 1 0 ≤ 1
flag_few true = omega arith
flag_few false = omega arith

module _ (d : ℕ → Bool) (xs : List ℕ) where
  -- a turn
  kept_of_more : (j : ℕ) → kept_of d xs (j + 1) ≡ kept_of d xs j + cond (not (d (get_or xs j 0))) 1 0
  unfolding kept_of
  kept_of_more j = sum_more j (λ i. cond (not (d (get_or xs i 0))) 1 0)

  kept_in_more : (j : ℕ) → kept_in d xs (j + 1) ≡ set (kept_in d xs j) (kept_of d xs j) (get_or xs j 0)
  unfolding kept_in
  kept_in_more j = rw (add-one j)

  -- a turn of the loop, with the list and the count that stand there
  pub kept_turn : (j : ℕ) (ys : List ℕ) (i i' k : ℕ) → i ≡ kept_of d xs j → ys ≡ kept_in d xs j → k ≡ get_or xs j 0
      → i' ≡ i + cond (not (d (get_or xs j 0))) 1 0 → (i' ≡ kept_of d xs (j + 1)) × (set ys i k ≡ kept_in d xs (j + 1))
  kept_turn j ys i i' k isI isYs isK more = (omega (arith, isI, more, kept_of_more j), rw (isI, isYs, isK) (sym (kept_in_more j)))

  -- no more stay than were gone over
  pub kept_few : (j : ℕ) → kept_of d xs j ≤ j
  unfolding kept_of sum
  kept_few zero = omega arith
  kept_few (suc j) = omega (arith, kept_few j, flag_few (not (d (get_or xs j 0))))

  -- the list is as long as it was, and behind the numbers gone over it is as it was
  pub kept_long : (j : ℕ) → length (kept_in d xs j) ≡ length xs
  unfolding kept_in
  kept_long zero = refl
  kept_long (suc j) = length-set (kept_in d xs j) (kept_of d xs j) (get_or xs j 0) ∙ kept_long j

  pub kept_behind : (j i : ℕ) → j ≤ i → get_or (kept_in d xs j) i 0 ≡ get_or xs i 0
  unfolding kept_in
  kept_behind zero i l = refl
  kept_behind (suc j) i l =
      get_or-set_other (kept_in d xs j) (kept_of d xs j) i (get_or xs j 0) 0 (λ e. omega (arith, kept_few j)) ∙ kept_behind j i (omega arith)

  -- of a list of numbers by a test those stay for which d does not hold
  module _ (p : ℕ → Bool) (n m : ℕ) (long : m ≤ length xs) (s : Listed p n m (λ j. get_or xs j 0)) where
    kept_turns : (j : ℕ) → j ≤ m
        → Listed (λ k. p k && not (d k)) (past (λ i. get_or xs i 0) j) (kept_of d xs j) (λ i. get_or (kept_in d xs j) i 0)
    unfolding kept_of sum
    kept_turns zero l = kept_none p d n m _ s _
    kept_turns (suc j) l =
        let Q = kept_in d xs j in
        let i = kept_of d xs j in
        let room : i < length Q = omega (arith, kept_few j, kept_long j) in
        let next : Listed (λ k. p k && not (d k)) (past (λ x. get_or xs x 0) (j + 1)) (kept_of d xs (j + 1)) (λ x. get_or (kept_in d xs (j + 1)) x 0) =
        rw (kept_in_more j)
        (kept_more p d n m _ s j i (kept_of d xs (j + 1)) (λ x. get_or Q x 0) (λ x. get_or (set Q i (get_or xs j 0)) x 0) l (kept_turns j (omega arith))
        (λ x h. sym (get_or-set_other Q i x (get_or xs j 0) 0 (λ e. omega (arith, h, e)))) (get_or-set_same Q i (get_or xs j 0) 0 room) (kept_of_more j)) in
        rw (add-one j) at next

    pub kept_listed : Listed (λ k. p k && not (d k)) n (kept_of d xs m) (λ i. get_or (kept_in d xs m) i 0)
    kept_listed = kept_all p d n m _ s (kept_of d xs m) _ (kept_turns m (omega arith))

-- ---- words that are the same

-- two flags that hold of the same
same_test : (a b : Bool) → (a ≡ true → b ≡ true) → (b ≡ true → a ≡ true) → a ≡ b
same_test true b p q = sym (p refl)
same_test false true p q = q refl
same_test false false p q = refl

-- two words of which no bit is set
pub or_none : (x y : ℕ) → eqb (bit_or x y) 0 ≡ (eqb x 0 && eqb y 0)
or_none x y =
    same_test (eqb (bit_or x y) 0) (eqb x 0 && eqb y 0)
    (λ e. let z = eqb-true (bit_or x y) 0 e in and_in (eq-eqb x 0 (omega (arith, z, or_add_and x y, and_le_r x y))) (eq-eqb y 0 (omega (arith, z, or_add_and x y, and_le_l x y))))
    (λ e. let (p, q) = and_out (eqb x 0) (eqb y 0) e in eq-eqb (bit_or x y) 0 (omega (arith, eqb-true x 0 p, eqb-true y 0 q, or_add_and x y)))

-- two words that are apart in no bit
pub xor_same : (x y : ℕ) → eqb (bit_xor x y) 0 ≡ eqb x y
xor_same x y =
    same_test (eqb (bit_xor x y) 0) (eqb x y)
    (λ e. let z = eqb-true (bit_xor x y) 0 e in eq-eqb x y (omega (arith, z, xor_add_and x y, and_le_l x y, and_le_r x y)))
    (λ e. eq-eqb (bit_xor x y) 0 (rw (eqb-true x y e) (xor_self y)))

-- the front of a list, by its entries
same_front_lem : (xs ys : List ℕ) → length xs ≤ length ys → same_front xs ys ≡ true → xs ≡ take (length xs) ys
unfolding same_front
same_front_lem xs ys h e =
    ext_get_or 0 xs (take (length xs) ys) (sym (length-take-le (length xs) ys h))
    (λ k l. eqb-true _ _ (all_out (length xs) (λ i. eqb (get_or xs i 0) (get_or ys i 0)) e k l) ∙ sym (get_or-take (length xs) ys k 0 l))

-- ---- the hop behind a node

-- a node's parent, its action and its prices, by the table
parent_word : (S u : ℕ) (T : List ℕ) → (node_in S T u).parent ≡ get_or T (u * (40 + S) + 33) 0
unfolding node_of
parent_word S u T = row_word S u T 33 (omega arith)

pub action_word : (S u : ℕ) (T : List ℕ) → (node_in S T u).action ≡ get_or T (u * (40 + S) + 34) 0
unfolding node_of
action_word S u T = row_word S u T 34 (omega arith)

price_words : (S u : ℕ) (T : List ℕ) → (node_in S T u).prices ≡ take S (drop (u * (40 + S) + 40) T)
unfolding node_of
price_words S u T = part_take S 40 (40 + S) (drop (u * (40 + S)) T) (omega arith) ∙ ap (take S) (drop-drop 40 (u * (40 + S)) T)

-- a row before another lies within the table
pub row_before : (S u p : ℕ) (T : List ℕ) → p < u → u * (40 + S) + (40 + S) ≤ length T → p * (40 + S) + (40 + S) ≤ length T
row_before S u p T l h = row_in_lem S u p T l (omega arith)

-- the hop behind a node by the words of the table
pub hop_words : (S actions : ℕ) (T hops : List ℕ) (u : ℕ) (P : List ℕ)
    → let p = get_or T (u * (40 + S) + 33) 0 in
    let k = get_or T (u * (40 + S) + 34) 0 in
    let f = p * (40 + S) + 40 in
    hop_behind S actions T hops u P ≡ cond (ltb S 128 && (ltb p u && (ltb k actions && same_front (take (f + S - f) (drop f T)) P))) (get_or hops k 0) 0
unfolding hop_behind
hop_words S actions T hops u P =
    let f = get_or T (u * (40 + S) + 33) 0 * (40 + S) + 40 in
    let z : f + S - f ≡ S = omega arith in
    rw (parent_word S u T, action_word S u T, price_words S (get_or T (u * (40 + S) + 33) 0) T, z)

-- where the action has no word
pub hop_none : (S actions : ℕ) (T hops : List ℕ) (u : ℕ) (P : List ℕ) → get_or hops (get_or T (u * (40 + S) + 34) 0) 0 ≡ 0 → 0 ≡ hop_behind S actions T hops u P
unfolding hop_behind
hop_none S actions T hops u P e =
    let n = node_in S T u in
    sym (zeros (ltb S 128 && (ltb n.parent u && (ltb n.action actions && same_front (node_in S T n.parent).prices P))) (get_or hops n.action 0)
    (ap (λ k. get_or hops k 0) (action_word S u T) ∙ e))
  where
    zeros : (t : Bool) (h : ℕ) → h ≡ 0 → cond t h 0 ≡ 0
    zeros true h q = q
    zeros false h q = refl

-- a word r that is not 0: the node's parent and its action, and the parent's prices
pub hop_told : (S actions : ℕ) (T hops : List ℕ) (u : ℕ) (P : List ℕ) (r : ℕ) → u * (40 + S) + (40 + S) ≤ length T → S ≤ length P
    → r ≡ hop_behind S actions T hops u P → (r ≡ 0 → ⊥)
    → let n = node_in S T u in (n.parent < u) × (n.action < actions) × (get_or hops n.action 0 ≡ r) × ((node_in S T n.parent).prices ≡ take S P)
unfolding hop_behind
hop_told S actions T hops u P r h long isR d = go _ refl isR
  where
    p : ℕ
    p = (node_in S T u).parent

    k : ℕ
    k = (node_in S T u).action

    Q : List ℕ
    Q = (node_in S T p).prices

    go : (t : Bool) → (ltb S 128 && (ltb p u && (ltb k actions && same_front Q P))) ≡ t → r ≡ cond t (get_or hops k 0) 0
        → (p < u) × (k < actions) × (get_or hops k 0 ≡ r) × (Q ≡ take S P)
    go false e q = absurd (d q)
    go true e q =
        let (_, rest) = and_out (ltb S 128) _ e in
        let (before, known) = and_out (ltb p u) _ rest in
        let (inside, same) = and_out (ltb k actions) (same_front Q P) known in
        let l : p < u = ltb-true _ _ before in
        let fits : p * (40 + S) + (40 + S) ≤ length T = row_before S u p T l h in
        let many : length Q ≡ S = ap length (price_words S p T) ∙ length-take-le S (drop (p * (40 + S) + 40) T) (simp length-drop (omega (arith, fits))) in
        (l, ltb-true _ _ inside, sym q, same_front_lem Q P (omega (arith, many)) same ∙ ap (λ n. take n P) many)
