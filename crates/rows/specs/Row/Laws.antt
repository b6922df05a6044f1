-- Laws of rows: what stands in a row that was written, and rows of a table. Assumes nothing.
use Rattle.std.specs.Prelude.{◌≡◌, refl, ◌⊎◌, Bool, false, ◌&&◌, List, [], ◌∷◌, ◌++◌, ℕ, zero, suc, ◌+◌, ◌-◌, ◌*◌, ◌/◌, ◌%◌, ◌^◌, ◌≤◌, ◌<◌, leb, eqb, length, get_or, set, take, drop}
use Rattle.std.proofs.Math.Path.{sym, ap}
use Rattle.std.proofs.Common.{ap₂, ◌∙◌, inl, inr, append_assoc, not-suc-le-zero, suc-mul, mul-le-mul_right, arith, le-leb, length-append, length-drop, length-set, take-append-drop, length-take-le, get_or-take, get_or-drop, get_or-set_same, get_or-set_other, take_at, drop_at}
use Rattle.std.proofs.Math.Bool.{and-true, and-false}
use Rattle.std.proofs.Math.Decide.{ℕ_discrete}
use Rattle.std.proofs.lemmas.Bool.{lt-leb}
use Rattle.std.proofs.Math.ListN.{get_or-append}
use Rattle.std.proofs.lemmas.List.{get_or_at, take-append-le, drop-append-le}
use Rattle.std.proofs.Math.Seq.{ext_get_or}
use Rattle.loops.specs.Count.{all, list}
use Rattle.loops.specs.Count.Laws.{below_cases, all_in, all_not, all_ext, list_length, list_at}
use Rattle.task.specs.declared.Centre.{Centre}
use Rattle.task.specs.Centre.{value_in}
use Rattle.leaf.specs.Price.{mark}
use Rattle.leaf.specs.Settle.Turns.{at_any}
use Rattle.search.specs.Node.{Node, dominates}
use Rattle.rows.specs.Four.{four_to, four_length, four_first, four_second, four_third, four_fourth, four_before}
use Rattle.rows.specs.Row.{byte_in, spot_of, node_of, row_in, node_in, nodes_in, node_with, pack_of, Packed, NotAbove, Higher}
use Rattle.rows.specs.Row.Packs.{pack_byte}

-- ---- one row

-- a value of the centre state in a row
spot_at : (row : List ℕ) (v : ℕ) → v < 32 → value_in (spot_of row) v ≡ byte_in row v
unfolding spot_of
spot_at row v h = list_at 32 (byte_in row) v h

-- it is a byte
pub spot_lt : (row : List ℕ) (v : ℕ) → v < 32 → value_in (spot_of row) v < 256
spot_lt row v h =
    let a : byte_in row v < 256 = omega arith in omega (arith, spot_at row v h)

-- price k of a row is no higher than price k of a list
abbrev pub not_higher : List ℕ → List ℕ → ℕ → Bool
not_higher row P k = leb (get_or row (40 + k) 0) (get_or P k 0)

-- no price so far is higher, nor is price k
pub higher_more : (row P : List ℕ) (k : ℕ) → NotAbove row P k → get_or row (40 + k) 0 ≤ get_or P k 0 → NotAbove row P (k + 1)
higher_more row P k h e i l = go (ℕ_discrete i k)
  where
    go : Dec (i ≡ k) → get_or row (40 + i) 0 ≤ get_or P i 0
    go (yes s) = rw s e
    go (no d) = h i (omega arith)

-- dominance of the node in a row, by what stands in the row
pub dominates_is : (S paid : ℕ) (row P : List ℕ) (c : Centre) → length row ≡ 40 + S → S ≤ length P
    → dominates (node_of S row) (node_with c paid (take S P) 0 0)
    ≡ (all 32 (λ v. eqb (value_in (spot_of row) v) (value_in c v)) && (leb (get_or row 32 0) paid && all S (not_higher row P)))
unfolding dominates node_of
dominates_is S paid row P c h l =
    ap (λ (b : Bool). all 32 (λ v. eqb (value_in (spot_of row) v) (value_in c v)) && (leb (get_or row 32 0) paid && b)) (
    rw (length-take-le S P l) (all_ext S _ _ (λ k b. ap₂ leb (mine k b) (other k b))))
  where
    mine : (k : ℕ) → k < S → get_or (take S (drop 40 row)) k mark ≡ get_or row (40 + k) 0
    mine k b = get_or-take S (drop 40 row) k mark b ∙ get_or-drop 40 row k mark ∙ at_any row (40 + k) mark 0 (omega arith)

    other : (k : ℕ) → k < S → get_or (take S P) k mark ≡ get_or P k 0
    other k b = get_or-take S P k mark b ∙ at_any P k mark 0 (omega arith)

-- what a test of the row's node finds
module _ (S paid : ℕ) (row P : List ℕ) (c : Centre) (long : length row ≡ 40 + S) (many : S ≤ length P) where
  -- whether the centre states are the same
  abbrev same : Bool
  same = all 32 (λ v. eqb (value_in (spot_of row) v) (value_in c v))

  -- the centre cost is higher
  pub test_paid : paid < get_or row 32 0 → dominates (node_of S row) (node_with c paid (take S P) 0 0) ≡ false
  test_paid h = dominates_is S paid row P c long many ∙ rw (lt-leb (get_or row 32 0) paid h) (and-false same)

  -- a price is higher
  pub test_price : (k : ℕ) → Higher S row P k → dominates (node_of S row) (node_with c paid (take S P) 0 0) ≡ false
  test_price k h =
      let higher = all_not S (not_higher row P) k h.inside (lt-leb _ _ h.above) in
      dominates_is S paid row P c long many ∙ rw (higher, and-false (leb (get_or row 32 0) paid)) (and-false same)

  -- the centre state is another
  pub test_other : same ≡ false → dominates (node_of S row) (node_with c paid (take S P) 0 0) ≡ false
  test_other e = dominates_is S paid row P c long many ∙ rw e refl

  -- neither is: the centre state tells
  pub test_spot : get_or row 32 0 ≤ paid → NotAbove row P S → dominates (node_of S row) (node_with c paid (take S P) 0 0) ≡ same
  test_spot p q =
      let low = all_in S (not_higher row P) (λ k l. le-leb _ _ (q k l)) in
      dominates_is S paid row P c long many ∙ rw (le-leb (get_or row 32 0) paid p, low) (and-true same)

-- a centre cost, a parent, an action and a signature stored in a row
abbrev pub with_numbers : List ℕ → ℕ → ℕ → ℕ → ℕ → List ℕ
with_numbers W paid parent action sign = set (set (set (set W 32 paid) 33 parent) 34 action) 39 sign

-- a row that is written: the centre state's packs, then the four numbers, then the prices Q behind the first 40 words
module _ (S paid parent action sign : ℕ) (c : Centre) (row W Q X Y P : List ℕ) (wide : length c.values ≡ 32)
    (small : (v : ℕ) → get_or c.values v 0 < 256) (long : length row ≡ 40 + S) (many : S ≤ length P)
    (packs : W ≡ four_to row 35 (pack_of c 0) (pack_of c 8) (pack_of c 16) (pack_of c 24)) (copied : Q ≡ take S P ++ Y) where
  -- the row before the prices are copied, and its lengths
  abbrev L : List ℕ
  L = with_numbers W paid parent action sign

  whole : length W ≡ 40 + S
  whole = ap length packs ∙ four_length row 35 (pack_of c 0) (pack_of c 8) (pack_of c 16) (pack_of c 24) ∙ long

  front : length (take 40 L) ≡ 40
  front = length-take-le 40 L (simp length-set (omega (arith, whole)))

  -- the first 40 words are those that were stored
  word : (v : ℕ) → v < 40 → get_or (take 40 L ++ (Q ++ X)) v 0 ≡ get_or L v 0
  word v h = get_or-append (take 40 L) (Q ++ X) 0 v (rw front h) ∙ get_or-take 40 L v 0 h

  -- a word that is none of the four numbers
  other : (v : ℕ) → v < 39 → (v ≡ 32 → ⊥) → (v ≡ 33 → ⊥) → (v ≡ 34 → ⊥)
      → get_or (take 40 L ++ (Q ++ X)) v 0 ≡ get_or (four_to row 35 (pack_of c 0) (pack_of c 8) (pack_of c 16) (pack_of c 24)) v 0
  other v b first second third =
      word v (omega arith)
      ∙ get_or-set_other (set (set (set W 32 paid) 33 parent) 34 action) 39 v sign 0 (λ e. omega arith)
      ∙ get_or-set_other (set (set W 32 paid) 33 parent) 34 v action 0 third
      ∙ get_or-set_other (set W 32 paid) 33 v parent 0 second
      ∙ get_or-set_other W 32 v paid 0 first
      ∙ ap (λ (xs : List ℕ). get_or xs v 0) packs

  -- a word behind the first three numbers
  behind : (v : ℕ) → 35 ≤ v → v < 39 → get_or (take 40 L ++ (Q ++ X)) v 0 ≡ get_or (four_to row 35 (pack_of c 0) (pack_of c 8) (pack_of c 16) (pack_of c 24)) v 0
  behind v a b = other v b (λ e. omega arith) (λ e. omega arith) (λ e. omega arith)

  -- a word that is not used
  pub unused_kept : (v : ℕ) → v < 32 → get_or (take 40 (with_numbers W paid parent action sign) ++ (Q ++ X)) v 0 ≡ get_or row v 0
  unused_kept v h =
      other v (omega arith) (λ e. omega arith) (λ e. omega arith) (λ e. omega arith)
      ∙ four_before row 35 (pack_of c 0) (pack_of c 8) (pack_of c 16) (pack_of c 24) v (omega arith)

  -- the packs stand there
  pack_at : (q : ℕ) → q < 4 → get_or (take 40 L ++ (Q ++ X)) (35 + q) 0 ≡ pack_of c (q * 8)
  pack_at zero h = behind 35 (omega arith) (omega arith) ∙ four_first row 35 _ _ _ _ (omega arith)
  pack_at (suc zero) h = behind 36 (omega arith) (omega arith) ∙ four_second row 35 _ _ _ _ (omega arith)
  pack_at (suc (suc zero)) h = behind 37 (omega arith) (omega arith) ∙ four_third row 35 _ _ _ _ (omega arith)
  pack_at (suc (suc (suc zero))) h = behind 38 (omega arith) (omega arith) ∙ four_fourth row 35 _ _ _ _ (omega arith)
  pack_at (suc (suc (suc (suc q)))) h = absurd (omega arith)

  -- their bytes are the values
  byte_is : (v : ℕ) → v < 32 → byte_in (take 40 L ++ (Q ++ X)) v ≡ get_or c.values v 0
  byte_is v h =
      let e : v / 8 * 8 + v % 8 ≡ v = omega arith in
      ap (λ (x : ℕ). x / 2 ^ (v % 8 * 8) % 256) (pack_at (v / 8) (omega arith))
      ∙ pack_byte c.values (λ k _. small k) (v / 8 * 8) (v % 8) 8 (omega arith) (omega arith) ∙ ap (λ (k : ℕ). get_or c.values k 0) e

  -- the centre state
  spot_is : spot_of (take 40 L ++ (Q ++ X)) ≡ c
  unfolding spot_of
  spot_is =
      ap {B = Centre} (λ xs. record { values = xs }) (
      ext_get_or 0 (list 32 (byte_in (take 40 L ++ (Q ++ X)))) c.values (list_length 32 _ ∙ sym wide)
      (λ v h. let l : v < 32 = omega (arith, list_length 32 (byte_in (take 40 L ++ (Q ++ X)))) in list_at 32 _ v l ∙ byte_is v l))

  -- the prices
  prices_are : take S (drop 40 (take 40 L ++ (Q ++ X))) ≡ take S P
  prices_are =
      ap (take S) (drop_at (take 40 L) (Q ++ X) 40 front)
      ∙ rw (copied, append_assoc) (take_at (take S P) (Y ++ X) S (length-take-le S P many))

  -- the numbers
  paid_is : get_or (take 40 L ++ (Q ++ X)) 32 0 ≡ paid
  paid_is =
      word 32 (omega arith) ∙ get_or-set_other (set (set (set W 32 paid) 33 parent) 34 action) 39 32 sign 0 (λ e. omega arith)
      ∙ get_or-set_other (set (set W 32 paid) 33 parent) 34 32 action 0 (λ e. omega arith)
      ∙ get_or-set_other (set W 32 paid) 33 32 parent 0 (λ e. omega arith) ∙ get_or-set_same W 32 paid 0 (omega (arith, whole))

  parent_is : get_or (take 40 L ++ (Q ++ X)) 33 0 ≡ parent
  parent_is =
      word 33 (omega arith) ∙ get_or-set_other (set (set (set W 32 paid) 33 parent) 34 action) 39 33 sign 0 (λ e. omega arith)
      ∙ get_or-set_other (set (set W 32 paid) 33 parent) 34 33 action 0 (λ e. omega arith)
      ∙ get_or-set_same (set W 32 paid) 33 parent 0 (simp length-set (omega (arith, whole)))

  action_is : get_or (take 40 L ++ (Q ++ X)) 34 0 ≡ action
  action_is =
      word 34 (omega arith) ∙ get_or-set_other (set (set (set W 32 paid) 33 parent) 34 action) 39 34 sign 0 (λ e. omega arith)
      ∙ get_or-set_same (set (set W 32 paid) 33 parent) 34 action 0 (simp length-set (omega (arith, whole)))

  pub sign_written : get_or (take 40 (with_numbers W paid parent action sign) ++ (Q ++ X)) 39 0 ≡ sign
  sign_written =
      word 39 (omega arith) ∙ get_or-set_same (set (set (set W 32 paid) 33 parent) 34 action) 39 sign 0 (simp length-set (omega (arith, whole)))

  -- the row has the node
  pub node_written : node_of S (take 40 (with_numbers W paid parent action sign) ++ (Q ++ X)) ≡ node_with c paid (take S P) parent action
  unfolding node_of
  node_written = cc (spot_is, prices_are, paid_is, parent_is, action_is)

  -- the row has the packs
  pub packs_written : Packed (take 40 (with_numbers W paid parent action sign) ++ (Q ++ X))
  packs_written =
      record {
        first = pack_at 0 (omega arith) ∙ same 0;
        second = pack_at 1 (omega arith) ∙ same 8;
        third = pack_at 2 (omega arith) ∙ same 16;
        fourth = pack_at 3 (omega arith) ∙ same 24;
      }
    where
      same : (b : ℕ) → pack_of c b ≡ pack_of (spot_of (take 40 L ++ (Q ++ X))) b
      same b = ap (λ (d : Centre). pack_of d b) (sym spot_is)

-- ---- rows of a table

-- a row lies within a table of n rows
pub row_in_lem : (S n u : ℕ) (T : List ℕ) → u < n → n * (40 + S) ≤ length T → u * (40 + S) + (40 + S) ≤ length T
row_in_lem S n u T h l = omega (arith, suc-mul u (40 + S), mul-le-mul_right (40 + S) h)

-- a row that is lent as a part of the table
pub row_lent : (S u : ℕ) (T : List ℕ) → take (u * (40 + S) + (40 + S) - u * (40 + S)) (drop (u * (40 + S)) T) ≡ row_in S T u
row_lent S u T = let e : u * (40 + S) + (40 + S) - u * (40 + S) ≡ 40 + S = omega arith in rw e

-- a word of a row, as one of the table
pub row_word : (S u : ℕ) (T : List ℕ) (k : ℕ) → k < 40 + S → get_or (row_in S T u) k 0 ≡ get_or T (u * (40 + S) + k) 0
row_word S u T k h = get_or-take (40 + S) (drop (u * (40 + S)) T) k 0 h ∙ get_or-drop (u * (40 + S)) T k 0

-- a row has 40 + S words
pub row_length : (S u : ℕ) (T : List ℕ) → u * (40 + S) + (40 + S) ≤ length T → length (row_in S T u) ≡ 40 + S
row_length S u T h = length-take-le (40 + S) (drop (u * (40 + S)) T) (rw length-drop (omega arith))

-- a node of a table has S prices
pub prices_length : (S u : ℕ) (T : List ℕ) → u * (40 + S) + (40 + S) ≤ length T → length (node_in S T u).prices ≡ S
unfolding node_of
prices_length S u T h = length-take-le S (drop 40 (row_in S T u)) (simp length-drop (omega (arith, row_length S u T h)))

-- what stands behind a row does not count
row_front : (S u : ℕ) (T X : List ℕ) → u * (40 + S) + (40 + S) ≤ length T → row_in S (T ++ X) u ≡ row_in S T u
row_front S u T X h =
    ap (take (40 + S)) (drop-append-le (u * (40 + S)) T X (omega arith))
    ∙ take-append-le (40 + S) (drop (u * (40 + S)) T) X (rw length-drop (omega arith))

-- what is written behind the first v rows leaves them as they were
pub row_kept : (S u v : ℕ) (T X : List ℕ) → u < v → v * (40 + S) ≤ length T → row_in S (take (v * (40 + S)) T ++ X) u ≡ row_in S T u
row_kept S u v T X h l =
    let a = v * (40 + S) in
    let fits = row_in_lem S v u (take a T) h (omega (arith, length-take-le a T l)) in
    row_front S u (take a T) X fits ∙ sym (row_front S u (take a T) (drop a T) fits) ∙ rw take-append-drop

-- the row that is written behind them
pub row_written : (S v : ℕ) (T R X : List ℕ) → v * (40 + S) ≤ length T → length R ≡ 40 + S → row_in S (take (v * (40 + S)) T ++ (R ++ X)) v ≡ R
row_written S v T R X l e =
    let a = v * (40 + S) in
    ap (take (40 + S)) (drop_at (take a T) (R ++ X) a (length-take-le a T l)) ∙ take_at R X (40 + S) e

-- ---- the nodes of a table

-- there are n of them
pub nodes_in_length : (S : ℕ) (T : List ℕ) (n : ℕ) → length (nodes_in S T n) ≡ n
unfolding nodes_in
nodes_in_length S T zero = refl
nodes_in_length S T (suc u) = simp length-append (omega (arith, nodes_in_length S T u))

-- node u of them
pub nodes_in_at : (S : ℕ) (T : List ℕ) (n u : ℕ) (d : Node) → u < n → get_or (nodes_in S T n) u d ≡ node_in S T u
unfolding nodes_in
nodes_in_at S T zero u d h = absurd (not-suc-le-zero h)
nodes_in_at S T (suc n) u d h = go (below_cases h) (nodes_in_at S T n u d)
  where
    go : (u < n) ⊎ (u ≡ n) → (u < n → get_or (nodes_in S T n) u d ≡ node_in S T u) → get_or (nodes_in S T (suc n)) u d ≡ node_in S T u
    go (inl l) r = get_or-append (nodes_in S T n) (node_in S T n ∷ []) d u (rw nodes_in_length l) ∙ r l
    go (inr e) r = get_or_at (nodes_in S T n) (node_in S T n) [] d u (nodes_in_length S T n ∙ sym e) ∙ ap (node_in S T) (sym e)
