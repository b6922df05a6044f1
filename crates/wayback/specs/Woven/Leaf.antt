-- The edges of a leaf by the tables of a Board: they can be read, and the enabled actions' moves are among them. Assumes nothing.
use Rattle.std.specs.Prelude.{◌≡◌, List, ℕ, zero, suc, ◌+◌, ◌*◌, ◌≤◌, ◌<◌, length, get_or}
use Rattle.std.proofs.Common.{ap, add-zero, suc-mul, mul_comm, arith}
use Rattle.task.specs.declared.Centre.{Centre}
use Rattle.layer.specs.Board.{Board, Sound, base_on, row_on, states_on, enabled_on}
use Rattle.layer.specs.Board.Turns.{base_in}
use Rattle.edges.specs.Edges.{edge_by, Edges}
use Rattle.edges.specs.Edges.Those.{those_few}
use Rattle.sweeps.specs.Sweeps.Leaf.{leaf_placed}
use Rattle.sweeps.specs.Sweeps.Still.{ends_up, leaf_part_lem}
use Rattle.wayback.specs.Woven.{Spread, Covers}
use Rattle.wayback.specs.Woven.Laws.{part_size}

module _ (b : Board) (sound : Sound b) (edges ends : List ℕ) (table : Edges b edges ends) (i : ℕ) (l : i < b.leaves) where
  -- a state has no more edges than there are actions
  state_few : (x : ℕ) → x < states_on b i → get_or ends (base_on b i + x + 1) 0 ≤ get_or ends (base_on b i + x) 0 + b.actions
  state_few x h =
      let s = base_on b i + x in
      let inside : s < row_on b = omega (arith, base_in b sound i l) in
      let up = table.rise s inside in
      let size = part_size edges (get_or ends s 0) (get_or ends (s + 1) 0) (omega (arith, up.1, table.room, table.edges_long)) in
      omega (arith, up.0, size, ap length (table.are i x l h inside), those_few (edge_by b.moves (row_on b) b.kinds i s) b.actions)

  -- so the first x states have few
  states_few_lem : (x : ℕ) → x ≤ states_on b i → get_or ends (base_on b i + x) 0 ≤ get_or ends (base_on b i) 0 + x * b.actions
  states_few_lem zero h = rw add-zero (omega arith)
  states_few_lem (suc x) h =
      let next : base_on b i + suc x ≡ base_on b i + x + 1 = omega arith in
      rw next (omega (arith, state_few x (omega arith), states_few_lem x (omega arith), suc-mul x b.actions))

  -- the leaf's edges can be read, and fit where there is room for one of each action and state
  pub leaf_spread : (k : ℕ) → b.actions * states_on b i ≤ k → Spread edges ends (base_on b i) (states_on b i) k
  leaf_spread k room =
      let rise = sound.bases_rise i l in
      let end : base_on b i + states_on b i ≡ base_on b (i + 1) = omega arith in
      let part = leaf_part_lem b sound edges ends table i l in
      let top = base_in b sound i l in
      record {
        ends_long = rw end part.0;
        ends_rise = λ x h. (table.rise (base_on b i + x) (omega arith)).0;
        ends_up = λ x h. ends_up b sound edges ends table (base_on b i + x) (base_on b i + states_on b i) (omega arith) (omega arith);
        ends_in = rw end part.2;
        ends_room = omega (arith, states_few_lem (states_on b i) (omega arith), mul_comm b.actions (states_on b i));
      }

  -- the moves of the enabled actions are among the edges
  pub leaf_covers : (c : Centre) (acts : List ℕ) (m n : ℕ) → acts ≡ enabled_on b i c b.actions → m ≡ length acts → n ≡ states_on b i
      → Covers edges ends b.moves (row_on b) (base_on b i) acts m n
  leaf_covers c acts m n these many same = rw (many, these, same) (λ j x y h k e. leaf_placed b sound edges ends table i l c x j y k h e)
