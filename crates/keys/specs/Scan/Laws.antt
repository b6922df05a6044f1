-- The loops of the scans, a turn at a time: the least price, the key, the goal cost. Assumes nothing.
use Rattle.std.specs.Prelude.{◌≡◌, cond, List, [], ◌∷◌, ◌++◌, ℕ, zero, suc, ◌+◌, ◌*◌, ◌≤◌, ◌<◌, min, eqb, length, get_or, take}
use Rattle.std.proofs.Common.{ap, ◌∙◌, add-one, arith, eq-eqb, ne_eqb, take-suc}
use Rattle.std.proofs.Math.Decide.{ℕ_discrete}
use Rattle.loops.specs.Count.{list, sum}
use Rattle.loops.specs.Count.Laws.{all_ext, sum_more}
use Rattle.task.specs.declared.Centre.{Centre}
use Rattle.task.specs.Factors.{holds_in}
use Rattle.task.specs.Centre.{centre_meets}
use Rattle.leaf.specs.Price.{mark}
use Rattle.leaf.specs.Settle.Turns.{at_any}
use Rattle.layer.specs.Board.{met_on}
use Rattle.layer.specs.Lent.{tests_of}
use Rattle.search.specs.Node.{least_of}
use Rattle.keys.specs.Scan.{Cut}

-- ---- the least price

-- one more price at the end
least_of_snoc : (xs : List ℕ) (x : ℕ) → least_of (xs ++ (x ∷ [])) ≡ min (least_of xs) x
unfolding least_of
least_of_snoc [] x = omega arith
least_of_snoc (y ∷ xs) x = omega (arith, least_of_snoc xs x)

-- a turn of a loop over the prices
pub least_more : (P : List ℕ) (k : ℕ) → k < length P → least_of (take (k + 1) P) ≡ min (least_of (take k P)) (get_or P k 0)
least_more P k h = rw (add-one, take-suc P k 0 h) (least_of_snoc (take k P) (get_or P k 0))

-- the least of three, in whatever pairs
min_assoc : (a b c : ℕ) → min (min a b) c ≡ min a (min b c)
min_assoc a b c = omega arith

-- four prices more, compared in pairs
pub least_four_more : (P : List ℕ) (k : ℕ) → k + 4 ≤ length P
    → least_of (take (k + 4) P) ≡ min (least_of (take k P)) (min (min (get_or P k 0) (get_or P (k + 1) 0)) (min (get_or P (k + 2) 0) (get_or P (k + 3) 0)))
least_four_more P k h =
    let L = least_of (take k P) in
    let p = get_or P k 0 in
    let q = get_or P (k + 1) 0 in
    let r = get_or P (k + 2) 0 in
    let s = get_or P (k + 3) 0 in
    let two : k + 1 + 1 ≡ k + 2 = omega arith in
    let three : k + 2 + 1 ≡ k + 3 = omega arith in
    let four : k + 3 + 1 ≡ k + 4 = omega arith in
    let a = least_more P k (omega arith) in
    let b = rw two at (least_more P (k + 1) (omega arith)) in
    let c = rw three at (least_more P (k + 2) (omega arith)) in
    let d = rw four at (least_more P (k + 3) (omega arith)) in
    d ∙ ap (λ (x : ℕ). min x s) (c ∙ ap (λ (x : ℕ). min x r) (b ∙ ap (λ (x : ℕ). min x q) a ∙ min_assoc L p q))
    ∙ min_assoc (min L (min p q)) r s ∙ min_assoc L (min p q) (min r s)

-- the price that counts at state k: its own where it is a goal state
abbrev pub goal_by : List ℕ → List ℕ → ℕ → ℕ
goal_by goals P k = cond (eqb (get_or goals k 0) 0) mark (get_or P k mark)

-- a turn of a loop over the prices that a count lists
pub least_list_more : (f : ℕ → ℕ) (k : ℕ) → least_of (list (k + 1) f) ≡ min (least_of (list k f)) (f k)
unfolding list
least_list_more f k = rw add-one (least_of_snoc (list k f) (f k))

-- a goal state
pub goal_here : (goals P : List ℕ) (k : ℕ) → k < length P → (get_or goals k 0 ≡ 0 → ⊥) → goal_by goals P k ≡ get_or P k 0
goal_here goals P k h n = rw (ne_eqb (get_or goals k 0) 0 n) (at_any P k mark 0 h)

-- a state that is no goal state
pub goal_not : (goals P : List ℕ) (k : ℕ) → get_or goals k 0 ≡ 0 → goal_by goals P k ≡ mark
goal_not goals P k e = rw (eq-eqb (get_or goals k 0) 0 e)

-- ---- sums over the leaves, at most the mark

-- bases do not fall
cut_up : (leaves : ℕ) (bases : List ℕ) (n : ℕ) → Cut leaves bases n → (k i : ℕ) → i ≤ k → k ≤ leaves → get_or bases i 0 ≤ get_or bases k 0
cut_up leaves bases n cut zero i h l = let e : i ≡ 0 = omega arith in rw e (omega arith)
cut_up leaves bases n cut (suc k) i h l = go (ℕ_discrete i (suc k)) (λ h'. cut_up leaves bases n cut k i h' (omega arith))
  where
    go : Dec (i ≡ suc k) → (i ≤ k → get_or bases i 0 ≤ get_or bases k 0) → get_or bases i 0 ≤ get_or bases (suc k) 0
    go (yes e) r = rw e (omega arith)
    go (no d) r = let up = rw add-one at (cut.rise k (omega arith)) in omega (arith, up, r (omega arith))

-- the entries of the leaf behind i leaves lie within n entries
abbrev pub Inside : List ℕ → ℕ → ℕ → Type 0
Inside bases i n = (get_or bases i 0 ≤ get_or bases (i + 1) 0) × (get_or bases (i + 1) 0 ≤ n)

-- each leaf's do
pub cut_in : (leaves : ℕ) (bases : List ℕ) (n : ℕ) → Cut leaves bases n → (i : ℕ) → i < leaves → Inside bases i n
cut_in leaves bases n cut i h = omega (arith, cut.rise i h, cut_up leaves bases n cut leaves (i + 1) (omega arith) (omega arith), cut.fits)

-- a turn of the loop
pub capped_more : (n : ℕ) (f : ℕ → ℕ) (paid k x : ℕ) → k ≡ min (paid + sum n f) mark → x ≡ f n → min (k + x) mark ≡ min (paid + sum (n + 1) f) mark
capped_more n f paid k x p q = omega (arith, sum_more n f)

-- what is summed up does not fall
sum_up : (f : ℕ → ℕ) (n m : ℕ) → n ≤ m → sum n f ≤ sum m f
unfolding sum
sum_up f n zero h = let e : n ≡ 0 = omega arith in rw e (omega arith)
sum_up f n (suc m) h = go (ℕ_discrete n (suc m)) (sum_up f n m)
  where
    go : Dec (n ≡ suc m) → (n ≤ m → sum n f ≤ sum m f) → sum n f ≤ sum (suc m) f
    go (yes e) r = rw e (omega arith)
    go (no d) r = omega (arith, r (omega arith))

-- a sum that is the mark stays the mark
pub capped_full : (n m : ℕ) (f : ℕ → ℕ) (paid k : ℕ) → n < m → mark ≤ k → k ≡ min (paid + sum (n + 1) f) mark → mark ≡ min (paid + sum m f) mark
capped_full n m f paid k l h e = omega (arith, sum_up f (n + 1) m (omega arith))

-- the goal's centre pairs as the conditions of a single action
pub goal_met : (factors goal : List ℕ) (c : Centre) → met_on (tests_of [] factors goal) c 0 ≡ centre_meets (λ v. get_or factors v 0) (λ v. get_or goal v 0) c
unfolding centre_meets holds_in
goal_met factors goal c = all_ext 32 _ _ (λ v l. let z : 0 * 32 + v ≡ v = omega arith in rw z)
