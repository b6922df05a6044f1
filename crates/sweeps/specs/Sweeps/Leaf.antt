-- The edges of a leaf's states can be followed, and they lead where the enabled actions of the leaf do. Assumes nothing.
use Rattle.std.specs.Prelude.{◌≡◌, refl, true, not, ◌&&◌, List, ℕ, zero, suc, ◌+◌, ◌<◌, eqb, length, get_or}
use Rattle.std.proofs.Common.{sym, ap, ◌∙◌, true≢false, arith, ne_eqb}
use Rattle.loops.specs.Count.Laws.{and_in, and_out}
use Rattle.task.specs.declared.Centre.{Centre}
use Rattle.leaf.specs.Lent.{cost_by, move_by}
use Rattle.layer.specs.Board.{Board, Sound, base_on, row_on, states_on, met_on, enabled_on}
use Rattle.layer.specs.Board.Turns.{base_in, move_in}
use Rattle.mets.specs.Mets.{Mets}
use Rattle.edges.specs.Edges.{those, edge_by, edges_at, Edges}
use Rattle.edges.specs.Edges.Those.{Placed, those_at, those_has}
use Rattle.sweeps.specs.Sweeps.{gated, move_met, Ways, Covered, Meant}

-- ---- gated

-- what passes a gate is not 0: the flag is set, and it is as it was
pub gated_out : (f k y : ℕ) → gated f k ≡ suc y → (f ≡ 0 → ⊥) × (k ≡ suc y)
unfolding gated
gated_out zero k y e = omega arith
gated_out (suc f) k y e = (λ z. omega arith, e)

-- where the flag is not set, nothing passes
pub gated_shut : (f k : ℕ) → f ≡ 0 → gated f k ≡ 0
unfolding gated
gated_shut f k e = rw e

-- where the flag is set, the gate lets all through
pub gated_open : (f k : ℕ) → (f ≡ 0 → ⊥) → gated f k ≡ k
unfolding gated
gated_open zero k h = absurd (h refl)
gated_open (suc f) k h = refl

-- what leads to a state is not 0
moved : (k y : ℕ) → k ≡ suc y → not (eqb k 0) ≡ true
moved k y e = ap not (ne_eqb k 0 (λ z. omega arith))

-- ---- of one leaf

-- the enabled actions of a leaf, as the numbers that pass a test
enabled_those : (b : Board) (i : ℕ) (c : Centre) (n : ℕ) → enabled_on b i c n ≡ those (λ a. eqb (get_or b.kinds a 0) (i + 1) && met_on b c a) n
unfolding enabled_on those
enabled_those b i c zero = refl
enabled_those b i c (suc a) = rw (enabled_those b i c a)

module _ (b : Board) (sound : Sound b) (edges ends : List ℕ) (table : Edges b edges ends) (i : ℕ) (l : i < b.leaves) where
  -- a state's place among all states
  place : (x : ℕ) → x < states_on b i → base_on b i + x < row_on b
  place x h = omega (arith, base_in b sound i l)

  -- what stands in the table for a state
  these : (x : ℕ) → x < states_on b i → edges_at edges ends (base_on b i + x) ≡ those (edge_by b.moves (row_on b) b.kinds i (base_on b i + x)) b.actions
  these x h = table.are i x l h (place x h)

  -- an edge in the table is an action that passes the test
  edge_at : (x j : ℕ) → x < states_on b i → j < length (edges_at edges ends (base_on b i + x)) →
      let a = get_or (edges_at edges ends (base_on b i + x)) j 0 in
      (a < b.actions) × (edge_by b.moves (row_on b) b.kinds i (base_on b i + x) a ≡ true)
  edge_at x j h k = rw (these x h) (those_at _ b.actions j (rw (these x h) at k))

  -- an action that passes the test is an edge in the table
  edge_has : (x a : ℕ) → x < states_on b i → a < b.actions → edge_by b.moves (row_on b) b.kinds i (base_on b i + x) a ≡ true
      → Placed (edges_at edges ends (base_on b i + x)) a
  edge_has x a h k e = rw (these x h) (those_has _ b.actions a k e)

  -- the leaf's edges can be followed
  pub leaf_ways : (mets : List ℕ) → length mets ≡ 256 → Ways b.moves (row_on b) (base_on b i) b.costs mets edges ends (states_on b i)
  leaf_ways mets long =
      record {
        ends_long = omega (arith, base_in b sound i l, sound.bases_rise i l, table.ends_long);
        ends_in = λ x h. let up = table.rise (base_on b i + x) (place x h) in (up.0, omega (arith, up.1, table.room, table.edges_long));
        along =
            λ x h. record {
              costs_long = λ j k. omega (arith, (edge_at x j h k).0, sound.few_actions, sound.costs_long);
              mets_long = λ j k. omega (arith, (edge_at x j h k).0, sound.few_actions);
              moves_long = λ j k. move_in b sound i _ x l (edge_at x j h k).0 h;
              moves_in = λ j k. sound.moves_in i _ x l (edge_at x j h k).0 h;
            };
      }

  module _ (c : Centre) where
    abbrev E : List ℕ
    E = enabled_on b i c b.actions

    -- an enabled action of the leaf is of its kind, and its conditions hold
    enabled_at : (j : ℕ) → j < length E → (get_or E j 0 < b.actions) × ((eqb (get_or b.kinds (get_or E j 0) 0) (i + 1) && met_on b c (get_or E j 0)) ≡ true)
    enabled_at j k = let same = enabled_those b i c b.actions in rw same (those_at _ b.actions j (rw same at k))

    -- such an action is enabled
    enabled_has : (a : ℕ) → a < b.actions → (eqb (get_or b.kinds a 0) (i + 1) && met_on b c a) ≡ true → Placed E a
    enabled_has a k e = rw (enabled_those b i c b.actions) (those_has _ b.actions a k e)

    -- an enabled action is among the edges of each state that it moves
    pub leaf_placed : (x j y : ℕ) → x < states_on b i → j < length E → move_by b.moves (row_on b) (base_on b i) E j x ≡ suc y
        → Placed (edges_at edges ends (base_on b i + x)) (get_or E j 0)
    leaf_placed x j y h k e =
        let t = enabled_at j k in
        let s = and_out (eqb (get_or b.kinds (get_or E j 0) 0) (i + 1)) (met_on b c (get_or E j 0)) t.1 in
        edge_has x (get_or E j 0) h t.0 (and_in s.0 (moved _ y e))

  module _ (c : Centre) (mets : List ℕ) (flags : Mets b c mets) where
    -- so each of its edges is one of the state's
    out : (x : ℕ) → x < states_on b i →
        let acts = edges_at edges ends (base_on b i + x) in
        Covered (length (E c)) (cost_by b.costs (E c)) (move_by b.moves (row_on b) (base_on b i) (E c))
        (length acts) (cost_by b.costs acts) (move_met b.moves (row_on b) (base_on b i) mets acts) x
    out x h j y k e =
        let t = enabled_at c j k in
        let s = and_out (eqb (get_or b.kinds (get_or (E c) j 0) 0) (i + 1)) (met_on b c (get_or (E c) j 0)) t.1 in
        let set : get_or mets (get_or (E c) j 0) 0 ≡ 0 → ⊥ = λ z. true≢false (sym s.1 ∙ flags.unmet _ t.0 z) in
        let p = leaf_placed c x j y h k e in
        record { act = p.at; below = p.inside; leads = rw p.is (gated_open _ _ set ∙ e); price = rw p.is refl }

    -- an edge whose flag is set is an enabled action
    back : (x : ℕ) → x < states_on b i →
        let acts = edges_at edges ends (base_on b i + x) in
        Covered (length acts) (cost_by b.costs acts) (move_met b.moves (row_on b) (base_on b i) mets acts)
        (length (E c)) (cost_by b.costs (E c)) (move_by b.moves (row_on b) (base_on b i) (E c)) x
    back x h j y k e =
        let t = edge_at x j h k in
        let g = gated_out _ _ y e in
        let a = get_or (edges_at edges ends (base_on b i + x)) j 0 in
        let kind : eqb (get_or b.kinds a 0) (i + 1) ≡ true = (and_out _ _ t.1).0 in
        let p = enabled_has c a t.0 (and_in kind (flags.met a t.0 g.0)) in
        record { act = p.at; below = p.inside; leads = rw p.is g.1; price = rw p.is refl }

    -- the enabled actions lead where the leaf's edges do
    pub leaf_meant : Meant b.moves (row_on b) (base_on b i) b.costs mets edges ends (states_on b i) (length (E c)) (cost_by b.costs (E c))
        (move_by b.moves (row_on b) (base_on b i) (E c))
    leaf_meant =
        record { ranged = λ j x y k h e. omega (arith, sound.moves_in i (get_or (E c) j 0) x l (enabled_at c j k).0 h); out = out; back = back }
