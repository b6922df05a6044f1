-- The loops over a Board, a turn at a time: the actions of a leaf, the leaves one behind the other. Assumes nothing.
use Rattle.std.specs.Prelude.{◌≡◌, ◌⊎◌, Bool, true, false, cond, not, ◌&&◌, ltb, eqb, length, get_or, set, take, drop, replicate}
use Rattle.std.proofs.Math.Path.{refl}
use Rattle.std.proofs.Common.{sym, ap, ◌∙◌, inl, inr, not-suc-le-zero, add_assoc, suc-mul, mul-le-mul_right, add-one, arith, length-append, length-take, length-drop, take_at, drop_at, drop-cons, drop-drop, take-take, take-add, length-take-le}
use mathlib.Core.List.{List, [], ◌∷◌, ◌++◌, append_assoc}
use Prim.Native.Nat.{ℕ, zero, suc, ◌+◌, ◌-◌, ◌*◌, ◌≤◌, ◌<◌}
use Rattle.std.proofs.Math.Decide.{ℕ_discrete}
use Rattle.std.proofs.lemmas.List.{length-replicate, replicate-append-replicate, get_or_at, set_at}
use Rattle.std.proofs.Math.ListN.{get_or-append}
use Rattle.loops.specs.Count.{any}
use Rattle.loops.specs.Count.Laws.{below_cases}
use Rattle.task.specs.declared.Centre.{Centre}
use Rattle.leaf.specs.Price.{mark}
use Rattle.leaf.specs.Settle.{settled}
use Rattle.leaf.specs.Settle.Turns.{take_replicate}
use Rattle.leaf.specs.Pass.{pass}
use Rattle.leaf.specs.Lent.{Lent, cost_by, move_by}
use Rattle.layer.specs.Layer.{joined}
use Rattle.layer.specs.Board.{Board, Sound, base_on, row_on, states_on, met_on, enabled_on, settle_by, settle_on, pass_on, passes_on}
use Rattle.layer.specs.Lent.{Front, Unreached, tests_of}

-- ---- rows and bases

module _ (b : Board) (sound : Sound b) where
  -- bases do not fall
  pub base_up : (k i : ℕ) → i ≤ k → k ≤ b.leaves → base_on b i ≤ base_on b k
  base_up zero i h l = let e : i ≡ 0 = omega arith in rw e (omega arith)
  base_up (suc k) i h l = go (ℕ_discrete i (suc k)) (λ h'. base_up k i h' (omega arith))
    where
      go : Dec (i ≡ suc k) → (i ≤ k → base_on b i ≤ base_on b k) → base_on b i ≤ base_on b (suc k)
      go (yes e) r = rw e (omega arith)
      go (no n) r = let up = rw add-one at (sound.bases_rise k (omega arith)) in omega (arith, up, r (omega arith))

  -- a leaf's states lie within a row
  pub base_in : (i : ℕ) → i < b.leaves → base_on b (i + 1) ≤ row_on b
  base_in i h = base_up b.leaves (i + 1) (omega arith) (omega arith)

  -- an action's row lies within the moves
  pub row_in : (a : ℕ) → a < b.actions → a * row_on b + row_on b ≤ length b.moves
  row_in a h = omega (arith, suc-mul a (row_on b), mul-le-mul_right (row_on b) h, sound.moves_long)

  -- a move can be read
  pub move_in : (i a x : ℕ) → i < b.leaves → a < b.actions → x < states_on b i → a * row_on b + (base_on b i + x) < length b.moves
  move_in i a x h l k = omega (arith, base_in i h, row_in a l)

  -- an action's moves of a leaf, counted from where they begin
  pub moves_here : (i a : ℕ) → i < b.leaves → a < b.actions → a * row_on b + base_on b i + states_on b i ≤ length b.moves
  moves_here i a h l = omega (arith, sound.bases_rise i h, base_in i h, row_in a l)

  pub moves_stay : (i a : ℕ) → i < b.leaves → a < b.actions → (x : ℕ) → x < states_on b i → get_or b.moves (a * row_on b + base_on b i + x) 0 ≤ states_on b i
  moves_stay i a h l x k = rw add_assoc (sound.moves_in i a x h l k)

-- ---- enabled actions

module _ (b : Board) (i : ℕ) (c : Centre) where
  -- only some parts of a Board count
  pub enabled_part : (n : ℕ) → enabled_on (tests_of b.kinds b.factors b.conditions) i c n ≡ enabled_on b i c n
  unfolding enabled_on
  enabled_part zero = refl
  enabled_part (suc a) = rw (enabled_part a)

  pub enabled_here : (a : ℕ) → (eqb (get_or b.kinds a 0) (i + 1) && met_on b c a) ≡ true → enabled_on b i c (a + 1) ≡ enabled_on b i c a ++ (a ∷ [])
  unfolding enabled_on
  enabled_here a e = rw (add-one, enabled_on, e)

  pub enabled_not : (a : ℕ) → (eqb (get_or b.kinds a 0) (i + 1) && met_on b c a) ≡ false → enabled_on b i c (a + 1) ≡ enabled_on b i c a
  unfolding enabled_on
  enabled_not a e = rw (add-one, enabled_on, e)

  pub enabled_below : (n j : ℕ) → j < length (enabled_on b i c n) → get_or (enabled_on b i c n) j 0 < n
  unfolding enabled_on
  enabled_below zero j h = absurd (not-suc-le-zero h)
  enabled_below (suc a) j h = go (eqb (get_or b.kinds a 0) (i + 1) && met_on b c a) h (enabled_below a j)
    where
      E : List ℕ
      E = enabled_on b i c a

      one : (j < length E) ⊎ (j ≡ length E) → (j < length E → get_or E j 0 < a) → get_or (E ++ (a ∷ [])) j 0 < suc a
      one (inl l) r = rw (get_or-append E (a ∷ []) 0 j l) (omega (arith, r l))
      one (inr e) r = rw (get_or_at E a [] 0 j (sym e)) (omega arith)

      go : (t : Bool) → j < length (cond t (E ++ (a ∷ [])) E) → (j < length E → get_or E j 0 < a) → get_or (cond t (E ++ (a ∷ [])) E) j 0 < suc a
      go true l r = one (below_cases (omega (arith, simp length-append at l))) r
      go false l r = omega (arith, r l)

-- one more entry at the end of the front part of a list
pub push_more : (E xs : List ℕ) (n a : ℕ) → n ≡ length E → n < length xs → set (E ++ drop n xs) n a ≡ (E ++ (a ∷ [])) ++ drop (n + 1) xs
push_more E xs n a e h = rw (add-one, drop-cons xs n 0, append_assoc) (set_at E (get_or xs n 0) (drop (suc n) xs) a n (sym e))

-- ---- one leaf

-- what was written at the front
pub front_these : {E xs acts : List ℕ} {n : ℕ} → Front E xs n acts → take n acts ≡ E
front_these {E} {xs} {acts} {n} f = rw f.written (take_at E (drop n xs) n (sym f.many))

pub front_many : {E xs acts : List ℕ} {n : ℕ} → Front E xs n acts → n ≡ length (take n acts)
front_many f = f.many ∙ sym (ap length (front_these f))

-- the enabled actions of a leaf are lent to settling
module _ (b : Board) (i : ℕ) (c : Centre) (acts : List ℕ) (m : ℕ) (these : acts ≡ enabled_on b i c b.actions) (many : m ≡ length acts) where
  below : (j : ℕ) → j < m → get_or acts j 0 < b.actions
  below j h = rw these (enabled_below b i c b.actions j (omega (arith, ap length these)))

  pub leaf_lent : Sound b → i < b.leaves → Lent b.moves (row_on b) (base_on b i) b.costs acts m (states_on b i)
  leaf_lent sound l =
      record {
        acts_long = omega arith;
        costs_long = λ j h. omega (arith, below j h, sound.few_actions, sound.costs_long);
        moves_long = λ j x h k. move_in b sound i (get_or acts j 0) x l (below j h) k;
        moves_in = λ j x h k. sound.moves_in i (get_or acts j 0) x l (below j h) k;
      }

  pub leaf_settled : (P : List ℕ) → settled mark m (cost_by b.costs acts) (move_by b.moves (row_on b) (base_on b i) acts) P ≡ settle_on b i c P
  unfolding settle_by
  leaf_settled P = rw (many, these)

-- the prices of a leaf pass, by the action's moves from where they begin
pub leaf_passed : (b : Board) (i a : ℕ) (P : List ℕ) → length P ≡ states_on b i
    → pass mark (length P) (λ x. get_or b.moves (a * row_on b + base_on b i + x) 0) P (length P) ≡ pass_on b i a P
unfolding pass_on
leaf_passed b i a P e = rw e (simp add_assoc)

-- whether a state of a leaf passes
pub leaf_passes : (b : Board) (i a : ℕ) (P : List ℕ) → length P ≡ states_on b i
    → any (length P) (λ x. ltb (get_or P x mark) mark && not (eqb (get_or b.moves (a * row_on b + base_on b i + x) 0) 0)) ≡ passes_on b i a P
unfolding passes_on
leaf_passes b i a P e = rw e (simp add_assoc)

-- ---- leaf behind leaf

pub part_length : (xs : List ℕ) (a e : ℕ) → e ≤ length xs → length (take (e - a) (drop a xs)) ≡ e - a
part_length xs a e h = simp (length-take, length-drop) (omega arith)

-- the lists of i leaves stand before `at`, and behind that `entry` is as it was
pub record Laid (f : ℕ → List ℕ) (i at : ℕ) (entry now : List ℕ) : Type 0 where
  pub kept : length now ≡ length entry
  pub long : length (joined i f) ≡ at
  pub laid : now ≡ joined i f ++ drop at entry

pub laid_none : (f : ℕ → List ℕ) (at : ℕ) (xs : List ℕ) → at ≡ 0 → Laid f 0 at xs xs
unfolding joined
laid_none f at xs z = record { kept = refl; long = sym z; laid = rw z }

-- a turn of the loop: Q takes the place of what stands from a to e
pub laid_more : (f : ℕ → List ℕ) (i a e : ℕ) (xs ys Q : List ℕ) → a ≤ e → e ≤ length ys → Laid f i a xs ys → Q ≡ f i
    → length Q ≡ length (take (e - a) (drop a ys)) → Laid f (i + 1) e xs (take a ys ++ (Q ++ drop (e - a) (drop a ys)))
unfolding joined
laid_more f i a e xs ys Q r h l q k =
    let J = joined i f in
    let many : length Q ≡ e - a = k ∙ part_length ys a e h in
    let whole : a + (e - a) ≡ e = omega arith in
    record {
      kept = simp (length-append, length-take, length-drop) (omega (arith, l.kept));
      long = rw (add-one, joined, ← q) (simp length-append (omega (arith, l.long)));
      laid =
          rw (l.laid, take_at J (drop a xs) a l.long, drop_at J (drop a xs) a l.long, drop-drop, whole, add-one, joined, ← q)
          (sym (append_assoc J Q (drop e xs)));
    }

-- behind the lists so far the prices are as they were
pub laid_rest : {f : ℕ → List ℕ} {i at : ℕ} {xs ys : List ℕ} → Laid f i at xs ys → drop at ys ≡ drop at xs
laid_rest {f} {i} {at} {xs} l = rw l.laid (drop_at (joined i f) (drop at xs) at l.long)

-- where every state started as unreachable, so did those before a and those from there to e
part_unreached : (n a e : ℕ) (xs : List ℕ) → a ≤ e → e ≤ n → Unreached n xs
    → take a xs ++ take (e - a) (drop a xs) ≡ replicate a mark ++ replicate (e - a) mark
part_unreached n a e xs r h u =
    let whole : a + (e - a) ≡ e = omega arith in
    rw (← take-add a (e - a) xs, replicate-append-replicate, whole, ← take-take e n xs h, u) (take_replicate e n mark h)

-- and behind the leaves so far they are still
pub laid_unreached : {f : ℕ → List ℕ} {i a : ℕ} {xs ys : List ℕ} (n e : ℕ) → Laid f i a xs ys → a ≤ e → e ≤ n → n ≤ length xs → Unreached n xs
    → take (e - a) (drop a ys) ≡ replicate (e - a) mark
laid_unreached {f} {i} {a} {xs} n e l r h k u =
    rw (laid_rest l)
    (sym (drop_at (take a xs) (take (e - a) (drop a xs)) a (length-take-le a xs (omega arith)))
    ∙ ap (λ (zs : List ℕ). drop a zs) (part_unreached n a e xs r h u)
    ∙ drop_at (replicate a mark) (replicate (e - a) mark) a (length-replicate a mark))
