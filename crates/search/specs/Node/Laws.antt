-- Laws of nodes: the least price of a list, the prices of goal states, and what dominance says. Assumes nothing.
use Rattle.std.specs.Prelude.{◌≡◌, refl, ◌⊎◌, true, false, List, [], ◌∷◌, ℕ, zero, suc, ◌≤◌, ◌<◌, min, leb, eqb, length, get_or}
use Rattle.std.proofs.Math.Path.{sym}
use Rattle.std.proofs.Common.{ap, ◌∙◌, inl, inr, not-suc-le-zero, arith, ext_get_or, ltb-true, leb-true, le-leb, eqb-true, eq-eqb}
use Rattle.std.proofs.Math.Bool.{Bool}
use Rattle.std.proofs.Math.Decide.{dec_le, dec_lt}
use Rattle.std.proofs.Math.ListN.{get_or-append, get_or-eq_default}
use Rattle.std.proofs.lemmas.List.{get_or_at}
use Rattle.loops.specs.Count.{all, list}
use Rattle.loops.specs.Count.Laws.{and_in, and_out, all_in, all_out, below_cases, list_length}
use Rattle.task.specs.declared.Task.{Task}
use Rattle.task.specs.declared.Centre.{Centre}
use Rattle.task.specs.Meaning.{goal, factor}
use Rattle.task.specs.Factors.{states, values_of, meets_in}
use Rattle.task.specs.Centre.{value_in, centre_meets}
use Rattle.leaf.specs.Price.{mark}
use Rattle.layer.specs.Layer.{leaf_part}
use Rattle.search.specs.Node.{Node, least_of, goal_prices, is_goal, dominates}

-- ---- least_of

-- no entry is less
pub least_of_le : (xs : List ℕ) (x : ℕ) → least_of xs ≤ get_or xs x mark
unfolding least_of
least_of_le [] x = omega arith
least_of_le (y ∷ xs) zero = omega arith
least_of_le (y ∷ xs) (suc x) = omega (arith, least_of_le xs x)

-- it is not above the mark
pub least_of_cap : (xs : List ℕ) → least_of xs ≤ mark
unfolding least_of
least_of_cap [] = omega arith
least_of_cap (y ∷ xs) = omega (arith, least_of_cap xs)

-- what is not above the mark, and above no entry, is not above it
pub least_of_ge : (xs : List ℕ) (b : ℕ) → b ≤ mark → ((x : ℕ) → x < length xs → b ≤ get_or xs x mark) → b ≤ least_of xs
unfolding least_of
least_of_ge [] b c h = c
least_of_ge (y ∷ xs) b c h = omega (arith, h 0 (omega arith), least_of_ge xs b c (λ x l. h (suc x) (omega arith)))

-- below the mark it is an entry
pub least_of_in : (xs : List ℕ) → least_of xs < mark → (x : ℕ) × (x < length xs) × (get_or xs x mark ≡ least_of xs)
unfolding least_of
least_of_in [] h = absurd (omega arith)
least_of_in (y ∷ xs) h = go (dec_le y (least_of xs)) (least_of_in xs)
  where
    go : Dec (y ≤ least_of xs) → (least_of xs < mark → (x : ℕ) × (x < length xs) × (get_or xs x mark ≡ least_of xs))
        → (x : ℕ) × (x < length (y ∷ xs)) × (get_or (y ∷ xs) x mark ≡ min y (least_of xs))
    go (yes l) r = (0, omega arith, omega arith)
    go (no l) r = let (x, i, e) = r (omega arith) in (suc x, omega arith, omega arith)

-- ---- goal_prices

-- an entry of a counted list, whatever stands for no entry
pub list_entry : (n : ℕ) (f : ℕ → ℕ) (k d : ℕ) → k < n → get_or (list n f) k d ≡ f k
unfolding list
list_entry zero f k d l = absurd (not-suc-le-zero l)
list_entry (suc n) f k d l = go (below_cases l) (list_entry n f k d)
  where
    go : (k < n) ⊎ (k ≡ n) → (k < n → get_or (list n f) k d ≡ f k) → get_or (list (suc n) f) k d ≡ f k
    go (inl l') r = let h : k < length (list n f) = rw list_length l' in get_or-append (list n f) (f n ∷ []) d k h ∙ r l'
    go (inr q) r = get_or_at (list n f) (f n) [] d k (list_length n f ∙ sym q) ∙ ap f (sym q)

module _ (t : Task) (i : ℕ) (n : Node) where
  -- a goal state of the leaf has its own price
  pub goal_prices_at : (x : ℕ) → x < states t (suc i) → meets_in t (suc i) (goal t) (values_of t (suc i) x) ≡ true
      → get_or (goal_prices t i n) x mark ≡ get_or (leaf_part t i n.prices) x mark
  unfolding goal_prices
  goal_prices_at x l e = list_entry (states t (suc i)) _ x mark l ∙ rw e

  -- a price below the mark is that of a goal state of the leaf
  pub goal_prices_out : (x : ℕ) → get_or (goal_prices t i n) x mark < mark
      → (x < states t (suc i)) × (meets_in t (suc i) (goal t) (values_of t (suc i) x) ≡ true) × (get_or (goal_prices t i n) x mark ≡ get_or (leaf_part t i n.prices) x mark)
  unfolding goal_prices
  goal_prices_out x h = go (dec_lt x (states t (suc i)))
    where
      b : Bool
      b = meets_in t (suc i) (goal t) (values_of t (suc i) x)

      test : x < states t (suc i) → (c : Bool) → b ≡ c → (x < states t (suc i)) × (b ≡ true) × (get_or (goal_prices t i n) x mark ≡ get_or (leaf_part t i n.prices) x mark)
      test l true e = (l, e, goal_prices_at x l e)
      test l false e =
          let q : get_or (goal_prices t i n) x mark ≡ mark = list_entry (states t (suc i)) _ x mark l ∙ rw e in
          absurd (omega arith)

      go : Dec (x < states t (suc i)) → (x < states t (suc i)) × (b ≡ true) × (get_or (goal_prices t i n) x mark ≡ get_or (leaf_part t i n.prices) x mark)
      go (yes l) = test l b refl
      go (no d) =
          let q : get_or (goal_prices t i n) x mark ≡ mark = get_or-eq_default (goal_prices t i n) mark (rw list_length (omega arith)) in
          absurd (omega arith)

-- ---- is_goal

module _ (t : Task) (n : Node) where
  -- a goal state of each leaf at its least price
  abbrev pub Aim : ℕ → ℕ → Type 0
  Aim i x = (x < states t (suc i)) × (meets_in t (suc i) (goal t) (values_of t (suc i) x) ≡ true) × (get_or (leaf_part t i n.prices) x mark ≡ least_of (goal_prices t i n))

  -- a goal node meets the goal in the centre, and each of its leaves has such a state, below the mark
  pub is_goal_out : is_goal t n ≡ true
      → (centre_meets (factor t) (goal t) n.spot ≡ true) × ((i : ℕ) → i < t.leaves → (least_of (goal_prices t i n) < mark) × ((x : ℕ) × Aim i x))
  unfolding is_goal
  is_goal_out e =
      let (c, ls) = and_out (centre_meets (factor t) (goal t) n.spot) _ e in
      (c, λ i l. leaf i (ltb-true _ mark (all_out t.leaves _ ls i l)))
    where
      leaf : (i : ℕ) → least_of (goal_prices t i n) < mark → (least_of (goal_prices t i n) < mark) × ((x : ℕ) × Aim i x)
      leaf i b =
          let (x, _, q) = least_of_in (goal_prices t i n) b in
          let (l, m, p) = goal_prices_out t i n x (omega arith) in
          (b, (x, (l, m, sym p ∙ q)))

-- ---- dominates

-- what dominance says: the same centre state, no more paid, and no price higher
pub record Dominates (m n : Node) : Type 0 where
  pub same : m.spot ≡ n.spot
  pub cheap : m.paid ≤ n.paid
  pub low : (k : ℕ) → k < length n.prices → get_or m.prices k mark ≤ get_or n.prices k mark

-- the test passes just where it is so, of centre states of 32 values
pub dominates_out : (m n : Node) → length m.spot.values ≡ 32 → length n.spot.values ≡ 32 → dominates m n ≡ true → Dominates m n
unfolding dominates
dominates_out m n a b e =
    let (p, q) = and_out (all 32 (λ v. eqb (value_in m.spot v) (value_in n.spot v))) _ e in
    let (c, l) = and_out (leb m.paid n.paid) _ q in
    record {
      same = ap {B = Centre} (λ xs. record { values = xs }) (ext_get_or 0 m.spot.values n.spot.values (a ∙ sym b)
          (λ v h. eqb-true _ _ (all_out 32 _ p v (omega arith))));
      cheap = leb-true _ _ c;
      low = λ k h. leb-true _ _ (all_out (length n.prices) _ l k h);
    }

pub dominates_in : (m n : Node) → Dominates m n → dominates m n ≡ true
unfolding dominates
dominates_in m n d =
    and_in (all_in 32 _ (λ v h. eq-eqb (value_in m.spot v) _ (ap (λ (c : Centre). value_in c v) d.same)))
    (and_in (le-leb m.paid _ d.cheap) (all_in (length n.prices) _ (λ k h. le-leb (get_or m.prices k mark) _ (d.low k h))))

-- a node dominates itself
pub dominates_refl : (n : Node) → dominates n n ≡ true
unfolding dominates
dominates_refl n =
    and_in (all_in 32 _ (λ v h. eq-eqb (value_in n.spot v) _ refl))
    (and_in (le-leb n.paid _ (omega arith)) (all_in (length n.prices) _ (λ k h. le-leb (get_or n.prices k mark) _ (omega arith))))
