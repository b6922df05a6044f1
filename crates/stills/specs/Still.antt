-- Actions that leave each state of a leaf, or of each leaf, as it is. Assumes nothing.
use Rattle.std.specs.Prelude.{◌≡◌, refl, Bool, true, false, cond, not, ◌&&◌, List, ◌++◌, ℕ, suc, ◌+◌, ◌-◌, ◌*◌, ◌/◌, ◌%◌, ◌≤◌, ◌<◌, ltb, eqb, length, get_or, set, take, drop, replicate}
use Rattle.std.proofs.Common.{sym, ap, ◌∙◌, true≢false, arith, length-append, length-take, length-drop, get_or-append-add, get_or-drop, eq-eqb, eqb-true}
use Rattle.std.proofs.Math.Decide.{dec_le}
use Rattle.std.proofs.lemmas.List.{length-replicate, get_or-replicate}
use Rattle.std.proofs.Math.ListN.{get_or-append, get_or-eq_default}
use Rattle.std.proofs.Math.Arith.{digits_div, digits_mod}
use Rattle.loops.specs.Count.{all, list}
use Rattle.loops.specs.Count.Laws.{and_out, all_out, list_length, list_at, list_more, list_over}
use Rattle.layer.specs.Board.{Board}

-- an action whose moves begin at `from` leaves each state of the leaf behind i leaves as it is
abbrev pub StaysIn : ℕ → List ℕ → List ℕ → ℕ → Type 0
StaysIn i bases moves from = (x : ℕ) → x < get_or bases (i + 1) 0 - get_or bases i 0 → get_or moves (from + get_or bases i 0 + x) 0 ≡ x + 1

-- an action whose moves begin at `from` leaves each state of the first n leaves as it is
abbrev pub Stays : ℕ → List ℕ → List ℕ → ℕ → Type 0
Stays n bases moves from =
    (i x : ℕ) → i < n → x < get_or bases (i + 1) 0 - get_or bases i 0 → get_or moves (from + (get_or bases i 0 + x)) 0 ≡ x + 1

-- of the first `actions` actions, those that are not 0 in `still` leave each state of each leaf as it is
pub record Still (leaves actions : ℕ) (bases moves still : List ℕ) : Type 0 where
  pub long : length still ≡ 256
  pub stays : (a : ℕ) → a < actions → (get_or still a 0 ≡ 0 → ⊥) → Stays leaves bases moves (a * get_or bases leaves 0)

-- of the first n entries of a table with eight to an action, those that are not 0 are of leaves whose states the action leaves as they are
pub record Entries (n leaves : ℕ) (bases moves stills : List ℕ) : Type 0 where
  pub long : length stills ≡ 2048
  pub stays : (a i : ℕ) → a * 8 + i < n → i < 8 → (get_or stills (a * 8 + i) 0 ≡ 0 → ⊥) → StaysIn i bases moves (a * get_or bases leaves 0)

-- those of all actions
abbrev pub Stills : ℕ → ℕ → List ℕ → List ℕ → List ℕ → Type 0
Stills leaves actions bases moves stills = Entries (actions * 8) leaves bases moves stills

-- the same of a Board's actions
abbrev pub StillOn : Board → List ℕ → Type 0
StillOn b still = Still b.leaves b.actions b.bases b.moves still

abbrev pub StillsOn : Board → List ℕ → Type 0
StillsOn b stills = Stills b.leaves b.actions b.bases b.moves stills

-- ---- what the code counts, one definition for each function

-- a list of m numbers: f 0, f 1, .., f (n - 1), and zeros behind them
abbrev pub padded : (m n : ℕ) (f : ℕ → ℕ) → List ℕ
padded m n f = list n f ++ drop n (replicate m 0)

-- whether an action whose moves of a leaf begin at `at` leaves each of the leaf's states as it is
unfoldable pub stays_by : (moves : List ℕ) (at states : ℕ) → Bool
stays_by moves at states = all states (λ x. eqb (get_or moves (at + x) 0) (x + 1))

-- the entry of action k / 8 and the leaf behind k % 8 leaves: 1 if there is such a leaf and the action leaves each of its states as it is, else 0
unfoldable pub still_entry : (leaves : ℕ) (bases moves : List ℕ) (k : ℕ) → ℕ
still_entry leaves bases moves k =
    let at = get_or bases (k % 8) 0 in
    cond (ltb (k % 8) leaves && stays_by moves (k / 8 * get_or bases leaves 0 + at) (get_or bases (k % 8 + 1) 0 - at)) 1 0

-- the entries of all actions, eight to an action
unfoldable pub still_leaves : (leaves actions : ℕ) (bases moves : List ℕ) → List ℕ
still_leaves leaves actions bases moves = padded 2048 (actions * 8) (still_entry leaves bases moves)

-- 1 if none of the entries of action a, one for each leaf, is 0, else 0
unfoldable pub still_by : (leaves : ℕ) (stills : List ℕ) (a : ℕ) → ℕ
still_by leaves stills a = cond (all leaves (λ i. not (eqb (get_or stills (a * 8 + i) 0) 0))) 1 0

-- that of each action
unfoldable pub still_actions : (leaves actions : ℕ) (stills : List ℕ) → List ℕ
still_actions leaves actions stills = padded 256 actions (still_by leaves stills)

-- ---- tables with zeros behind

-- zeros alone
pub zeros_at : (n k : ℕ) → get_or {A = ℕ} (replicate n 0) k 0 ≡ 0
zeros_at n k = go (dec_le (suc k) n)
  where
    go : Dec (k < n) → get_or {A = ℕ} (replicate n 0) k 0 ≡ 0
    go (yes l) = get_or-replicate {A = ℕ} n k 0 0 l
    go (no d) = get_or-eq_default {A = ℕ} (replicate n 0) 0 {n = k} (simp length-replicate (omega (arith, d)))

module _ (m : ℕ) (f : ℕ → ℕ) where
  pub padded_length : (n : ℕ) → n ≤ m → length (padded m n f) ≡ m
  padded_length n l = simp (length-append, length-drop) (omega (arith, list_length n f, length-replicate {A = ℕ} m 0))

  -- a turn of the loop that stores the next
  pub padded_more : (n : ℕ) → n < m → set (padded m n f) n (f n) ≡ padded m (n + 1) f
  padded_more n l = list_more n f (replicate m 0) (omega (arith, length-replicate {A = ℕ} m 0))

  -- the loop over the front alone, which begins with zeros
  pub padded_all : (n a : ℕ) (ys : List ℕ) → n ≤ m → ys ≡ list a f ++ drop a (take n (replicate m 0)) → length (take n (replicate {A = ℕ} m 0)) ≤ a → a ≤ length (take n (replicate {A = ℕ} m 0))
      → ys ++ drop n (replicate m 0) ≡ padded m n f
  padded_all n a ys l e low high =
      let long : length (take n (replicate {A = ℕ} m 0)) ≡ n = simp (length-take, length-replicate) (omega arith) in
      ap (λ xs. xs ++ drop n (replicate m 0)) (list_over n a f (take n (replicate m 0)) ys e (omega arith) (omega arith))

  pub padded_at : (n k : ℕ) → k < n → get_or (padded m n f) k 0 ≡ f k
  padded_at n k l = get_or-append (list n f) (drop n (replicate m 0)) 0 k (omega (arith, list_length n f)) ∙ list_at n f k l

  -- behind them
  pub padded_behind : (n k : ℕ) → n ≤ k → get_or (padded m n f) k 0 ≡ 0
  padded_behind n k l =
      let z : k ≡ n + (k - n) = omega arith in
      rw z (rw (list_length n f) at (get_or-append-add (list n f) (drop n (replicate m 0)) (k - n) 0)
      ∙ get_or-drop n (replicate m 0) (k - n) 0
      ∙ zeros_at m (n + (k - n)))

-- ---- what the tables say

-- a number that is 1 where a test holds, else 0, and is not 0
one_holds : (t : Bool) → (cond {A = ℕ} t 1 0 ≡ 0 → ⊥) → t ≡ true
one_holds true d = refl
one_holds false d = absurd (d refl)

-- an entry that is not 0 is of a leaf whose states the action leaves as they are
entry_stays : (leaves : ℕ) (bases moves : List ℕ) (a i : ℕ) → i < 8 → (still_entry leaves bases moves (a * 8 + i) ≡ 0 → ⊥)
    → StaysIn i bases moves (a * get_or bases leaves 0)
unfolding still_entry stays_by
entry_stays leaves bases moves a i l d x k =
    let at = a * get_or bases leaves 0 + get_or bases i 0 in
    let found = one_holds (ltb i leaves && stays_by moves at (get_or bases (i + 1) 0 - get_or bases i 0)) (rw (digits_mod a {m = 8} {r = i} l, digits_div a {m = 8} {r = i} l) at d) in
    eqb-true _ _ (all_out (get_or bases (i + 1) 0 - get_or bases i 0) (λ y. eqb (get_or moves (at + y) 0) (y + 1)) (and_out (ltb i leaves) _ found).1 x k)

-- the table by action and leaf
pub stills_right : (leaves actions : ℕ) (bases moves : List ℕ) → actions ≤ 255 → Stills leaves actions bases moves (still_leaves leaves actions bases moves)
unfolding still_leaves
stills_right leaves actions bases moves few =
    record {
      long = padded_length 2048 (still_entry leaves bases moves) (actions * 8) (omega arith);
      stays = λ a i l e d. entry_stays leaves bases moves a i e (rw (padded_at 2048 (still_entry leaves bases moves) (actions * 8) (a * 8 + i) l) at d);
    }

-- an action none of whose entries is 0 leaves each state of each leaf as it is
pub still_right : (leaves actions : ℕ) (bases moves stills : List ℕ) → leaves ≤ 8 → actions ≤ 255 → Stills leaves actions bases moves stills
    → Still leaves actions bases moves (still_actions leaves actions stills)
unfolding still_actions still_by
still_right leaves actions bases moves stills few many s =
    record {
      long = padded_length 256 (still_by leaves stills) actions (omega arith);
      stays = λ a l d i x h k.
          let none : ℕ → Bool = λ j. not (eqb (get_or stills (a * 8 + j) 0) 0) in
          let marked = one_holds (all leaves none) (rw (padded_at 256 (still_by leaves stills) actions a l) at d) in
          let z : a * get_or bases leaves 0 + (get_or bases i 0 + x) ≡ a * get_or bases leaves 0 + get_or bases i 0 + x = omega arith in
          rw z (s.stays a i (omega arith) (omega arith) (λ e. true≢false (sym (all_out leaves none marked i h) ∙ ap not (eq-eqb _ _ e))) x k);
    }
