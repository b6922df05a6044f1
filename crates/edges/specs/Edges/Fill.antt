-- Filling the table, a state at a time. Assumes nothing.
use Rattle.std.specs.Prelude.{◌≡◌, ◌⊎◌, List, [], ◌∷◌, ℕ, zero, suc, ◌+◌, ◌-◌, ◌*◌, ◌≤◌, ◌<◌, length, get_or, set, take, drop}
use Rattle.std.proofs.Common.{sym, ap, ◌∙◌, inl, inr, not-suc-le-zero, suc-mul, mul-le-mul_right, add-one, arith, length-set, take-take, get_or-set_same, get_or-set_other}
use Rattle.std.proofs.Math.Decide.{dec_le}
use Rattle.std.proofs.Math.Seq.{take-nil}
use Rattle.loops.specs.Count.Laws.{below_cases}
use Rattle.layer.specs.Board.{Board, Sound, base_on, row_on, states_on}
use Rattle.layer.specs.Board.Turns.{base_up, base_in, row_in}
use Rattle.edges.specs.Edges.{those, of_leaf, moved_by, edge_by, edges_in, edges_at, EdgesTo, Wrote}
use Rattle.edges.specs.Edges.Those.{those_few, those_at, picked_those}

-- ---- parts of a list

-- a part of a list lies in any front of the list that reaches its end
drop_take : (f n k : ℕ) (xs : List ℕ) → k ≡ f + n → take n (drop f xs) ≡ drop f (take k xs)
drop_take zero n k xs e = let same : k ≡ n = omega arith in rw same
drop_take (suc f) n k [] e = rw (take-nil k, take-nil n)
drop_take (suc f) n zero (x ∷ xs) e = absurd (omega arith)
drop_take (suc f) n (suc k) (x ∷ xs) e = drop_take f n k xs (omega arith)

-- lists with the same front have the same parts there
part_kept : (xs ys : List ℕ) (f e k : ℕ) → f ≤ e → e ≤ k → take k xs ≡ take k ys → take (e - f) (drop f xs) ≡ take (e - f) (drop f ys)
part_kept xs ys f e k h l same =
    let front : take e xs ≡ take e ys = sym (take-take e k xs l) ∙ ap (take e) same ∙ take-take e k ys l in
    drop_take f (e - f) e xs (omega arith) ∙ ap (drop f) front ∙ sym (drop_take f (e - f) e ys (omega arith))

-- ---- states

module _ (b : Board) (sound : Sound b) where
  -- a state is of one leaf only
  one_leaf : (i j s : ℕ) → i < b.leaves → j < b.leaves → base_on b i ≤ s → s < base_on b (i + 1) → base_on b j ≤ s → s < base_on b (j + 1) → j ≡ i
  one_leaf i j s l k h g h' g' = go (dec_le (i + 1) j) (dec_le (j + 1) i)
    where
      go : Dec (i + 1 ≤ j) → Dec (j + 1 ≤ i) → j ≡ i
      go (yes z) d = absurd (omega (arith, base_up b sound j (i + 1) z (omega arith)))
      go (no z) (yes w) = absurd (omega (arith, base_up b sound i (j + 1) w (omega arith)))
      go (no z) (no w) = omega arith

  -- before the first state
  pub edges_none : (edges ends : List ℕ) → row_on b * b.actions ≤ length edges → row_on b < length ends → EdgesTo b 0 edges (set ends 0 0)
  edges_none edges ends h l =
      record {
        edges_long = h;
        ends_long = rw (length-set ends 0 0) l;
        room = omega (arith, get_or-set_same ends 0 0 0 (omega arith));
        rise = λ s k. absurd (not-suc-le-zero k);
        are = λ i x k g f. absurd (not-suc-le-zero f);
      }

  -- one more state, which is of the leaf behind i leaves
  module _ (i s : ℕ) (l : i < b.leaves) (h : base_on b i ≤ s) (g : s < base_on b (i + 1)) (edges ends after these : List ℕ)
      (are : these ≡ those (edge_by b.moves (row_on b) b.kinds i s) b.actions) (table : EdgesTo b s edges ends)
      (wrote : Wrote these (get_or ends s 0) edges after) where
    -- where the state's edges end
    abbrev end : ℕ
    end = get_or ends s 0 + length these

    inside : s + 1 < length ends
    inside = omega (arith, base_in b sound i l, table.ends_long)

    new : get_or (set ends (s + 1) end) (s + 1) 0 ≡ end
    new = get_or-set_same ends (s + 1) end 0 inside

    old : (t : ℕ) → t ≤ s → get_or (set ends (s + 1) end) t 0 ≡ get_or ends t 0
    old t k = get_or-set_other ends (s + 1) t end 0 (λ e. omega arith)

    few : length these ≤ b.actions
    few = rw are (those_few _ b.actions)

    rises : (t : ℕ) → (t < s) ⊎ (t ≡ s) → (get_or (set ends (s + 1) end) t 0 ≤ get_or (set ends (s + 1) end) (t + 1) 0)
        × (get_or (set ends (s + 1) end) (t + 1) 0 ≤ get_or (set ends (s + 1) end) (s + 1) 0)
    rises t (inl k) = let up = table.rise t k in omega (arith, up, old t (omega arith), old (t + 1) (omega arith), new)
    rises t (inr e) = rw e (omega (arith, old s (omega arith), new))

    -- what stands for the states before is as it was
    kept : (t : ℕ) → t < s → edges_at after (set ends (s + 1) end) t ≡ edges_at edges ends t
    kept t k =
        let up = table.rise t k in
        rw (old t (omega arith), old (t + 1) (omega arith)) (part_kept after edges _ _ (get_or ends s 0) up.0 up.1 wrote.front)

    -- what stands for the state itself
    here : edges_at after (set ends (s + 1) end) s ≡ those (edge_by b.moves (row_on b) b.kinds i s) b.actions
    here =
        let size : end - get_or ends s 0 ≡ length these = omega arith in
        rw (new, old s (omega arith), size) (wrote.here ∙ are)

    each : (j x : ℕ) → j < b.leaves → x < states_on b j → (base_on b j + x < s) ⊎ (base_on b j + x ≡ s)
        → edges_at after (set ends (s + 1) end) (base_on b j + x) ≡ those (edge_by b.moves (row_on b) b.kinds j (base_on b j + x)) b.actions
    each j x k m (inl f) = kept (base_on b j + x) f ∙ table.are j x k m f
    each j x k m (inr f) = let same = one_leaf i j s l k h g (omega arith) (omega arith) in rw (f, same) here

    pub edges_more : EdgesTo b (s + 1) after (set ends (s + 1) end)
    edges_more =
        record {
          edges_long = rw wrote.kept table.edges_long;
          ends_long = rw (length-set ends (s + 1) end) table.ends_long;
          room = rw (new, add-one) (omega (arith, few, table.room, suc-mul s b.actions));
          rise = λ t k. rises t (below_cases (rw add-one at k));
          are = λ j x k m f. each j x k m (below_cases (rw add-one at f));
        }

  -- where the edges of the next state begin, there is room for them
  pub edges_room : (s : ℕ) (edges ends : List ℕ) → s < row_on b → EdgesTo b s edges ends → get_or ends s 0 + b.actions ≤ length edges
  edges_room s edges ends h table =
      omega (arith, table.room, suc-mul s b.actions, mul-le-mul_right b.actions h, table.edges_long)

  -- one more state of the leaf behind i leaves, whose actions are listed: the table has room for its edges, and its moves can be read
  pub state_room : (i s : ℕ) (own edges ends : List ℕ) → i < b.leaves → s < base_on b (i + 1) → own ≡ those (of_leaf b.kinds i) b.actions → EdgesTo b s edges ends
      → (s + 1 < length ends) × (get_or ends s 0 + length own ≤ length edges)
      × ((j : ℕ) → j < length own → get_or own j 0 * row_on b + s < length b.moves)
  state_room i s own edges ends l h are table =
      let inside : s < row_on b = omega (arith, base_in b sound i l) in
      let few : length own ≤ b.actions = rw are (those_few (of_leaf b.kinds i) b.actions) in
      (omega (arith, table.ends_long), omega (arith, edges_room s edges ends inside table), λ j k. omega (arith, row_in b sound (get_or own j 0) (below j k)))
    where
      below : (j : ℕ) → j < length own → get_or own j 0 < b.actions
      below j k = rw are (those_at (of_leaf b.kinds i) b.actions j (rw are at k)).0

  -- and with them the table has the edges of one more state
  pub state_more : (i s : ℕ) (own edges ends after : List ℕ) → i < b.leaves → base_on b i ≤ s → s < base_on b (i + 1)
      → own ≡ those (of_leaf b.kinds i) b.actions → EdgesTo b s edges ends → Wrote (edges_in b.moves (row_on b) own s) (get_or ends s 0) edges after
      → EdgesTo b (s + 1) after (set ends (s + 1) (get_or ends s 0 + length (edges_in b.moves (row_on b) own s)))
  state_more i s own edges ends after l h g are table wrote =
      let those_are = picked_those (moved_by b.moves (row_on b) s) (of_leaf b.kinds i) b.actions in
      edges_more i s l h g edges ends after _ (rw are those_are) table wrote
