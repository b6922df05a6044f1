-- What a walk back meets by the tables of a task is what the task says. Assumes nothing.
use Rattle.std.specs.Prelude.{◌≡◌, List, length, get_or, drop}
use Rattle.std.proofs.Math.Path.{refl}
use Rattle.std.proofs.Common.{ap, ◌∙◌, not-suc-le-zero, suc-mul, mul-le-mul_right, arith, length-append, length-take}
use Prim.Native.Nat.{ℕ, zero, suc, ◌+◌, ◌*◌, ◌≤◌, ◌<◌}
use Rattle.task.specs.declared.Task.{Task}
use Rattle.task.specs.Meaning.{initial}
use Rattle.task.specs.Factors.{number, states, all_states}
use Rattle.task.specs.Valid.{Valid}
use Rattle.task.specs.Star.{number_lt}
use Rattle.leaf.specs.Price.{mark}
use Rattle.layer.specs.Layer.{enabled, start_leaf, leaf_part}
use Rattle.layer.specs.Layer.Leaf.{leaf_length}
use Rattle.layer.specs.Board.{Board, Fits, Sound, base_on, row_on, states_on, enabled_on}
use Rattle.layer.specs.Board.Laws.{states_on_lem, row_on_lem, part_on_lem, enabled_on_lem, pass_on_lem}
use Rattle.layer.specs.Held.{board_in}
use Rattle.tables.specs.declared.held.TaskTables.{TaskTables}
use Rattle.search.specs.Node.{first_node}
use Rattle.search.specs.Explore.{Search, node_at}
use Rattle.search.specs.Plan.{begins, back_in, over}
use Rattle.search.specs.Plan.Real.{Real, node_part, begins_length, begins_cap}
use Rattle.search.specs.Plan.Stages.{price_in}
use Rattle.rows.specs.Row.Laws.{nodes_in_length, nodes_in_at}
use Rattle.wayback.specs.Steps.{tight_by, depths_by, origin_by, back_by, way_by}
use Rattle.wayback.specs.Sources.{depths_bound}
use Rattle.wayback.specs.On.{back_on_lem, walkable_on}
use Rattle.wayback.specs.On as wayback
use Rattle.plans.specs.Walk.{held_in, node_on, prices_on, acts_on, begins_on, back_on, WalkableOn, over_on, RowIn, Standing}

-- ---- the nodes of a table

-- ---- the way back is no longer than there are states

-- it has as many actions as its depth
back_count : (edges : ℕ → ℕ → ℕ) (acts : List ℕ) (m n : ℕ) (D : List ℕ) (k y : ℕ) → length (back_by edges acts m n D k y).acts ≡ k
unfolding back_by
back_count edges acts m n D zero y = refl
back_count edges acts m n D (suc k) y = simp length-append (omega (arith, back_count edges acts m n D k (origin_by edges m n D k y)))

-- and that is no more than its prices are
back_priced : (b : Board) (starts T : List ℕ) (i u y : ℕ) → WalkableOn b starts T i u y → length (back_on b starts T i u y).acts ≤ length (prices_on b T i u)
unfolding way_by
back_priced b starts T i u y w =
    let acts = acts_on b T i u in
    let B = begins_on b starts T i u in
    let P = prices_on b T i u in
    let edges = tight_by b.moves (row_on b) (base_on b i) b.costs acts P in
    let D = depths_by edges (length acts) B P in
    omega (arith, back_count edges acts (length acts) (length P) D (get_or D y mark) y, depths_bound edges (length acts) B P y w.deep)

pub back_few : (b : Board) (starts T : List ℕ) (i u y : ℕ) → WalkableOn b starts T i u y → length (back_on b starts T i u y).acts ≤ 256
back_few b starts T i u y w = omega (arith, back_priced b starts T i u y w, w.few_states)

-- nor than the leaf has states
pub back_short : (b : Board) (starts T : List ℕ) (i u y : ℕ) → WalkableOn b starts T i u y → length (back_on b starts T i u y).acts ≤ states_on b i
back_short b starts T i u y w = omega (arith, back_priced b starts T i u y w, length-take (states_on b i) (drop (base_on b i) (node_on b T u).prices))

-- ---- the tables of a task

-- a Board, initial states and a table of nodes that are those of a task
pub record Grounds (t : Task) (b : Board) (starts T : List ℕ) (count : ℕ) : Type 0 where
  pub valid : Valid t
  pub fits : Fits t b
  pub sound : Sound b
  pub starts_is : (i : ℕ) → i < t.leaves → get_or starts i 0 ≡ number t (suc i) (initial t)
  pub real : Real t (held_in (row_on b) T count)

-- the tables of a task are such
pub grounds_in : (h : TaskTables) (T : List ℕ) (count : ℕ) → Valid h.task.now → Real h.task.now (held_in (all_states h.task.now) T count)
    → Grounds h.task.now (board_in h.board) h.starts.now T count
grounds_in h T count ok r =
    record {
      valid = ok;
      fits = h.fits;
      sound = h.board.sound;
      starts_is = h.tabled.is_starts.is;
      real = rw (row_on_lem h.task.now (board_in h.board) h.fits) r;
    }

-- the search in the table
abbrev pub search_on : Board → List ℕ → ℕ → Search
search_on b T count = held_in (row_on b) T count

module _ (t : Task) (b : Board) (starts T : List ℕ) (count : ℕ) (g : Grounds t b starts T count) where
  -- node u of the search
  pub node_on_lem : (u : ℕ) → u < count → node_at t (search_on b T count) u ≡ node_on b T u
  node_on_lem u h = nodes_in_at (row_on b) T count u (first_node t) h

  -- there are as many nodes as are counted
  pub inside : (u : ℕ) → u < count → u < length (search_on b T count).kept
  inside u h = rw nodes_in_length h

  -- a node's parent has a lower number
  pub parent_lower : (u : ℕ) → suc u < count → (node_on b T (suc u)).parent < suc u
  parent_lower u h = rw (node_on_lem (suc u) h) at (g.real.lower u (inside (suc u) h))

  pub parent_below : (u : ℕ) → 0 < u → u < count → (node_on b T u).parent < u
  parent_below zero z h = absurd (not-suc-le-zero z)
  parent_below (suc u) z h = parent_lower u h

  -- and its action is known
  pub action_known : (u : ℕ) → suc u < count → (node_on b T (suc u)).action < t.actions
  action_known u h = rw (node_on_lem (suc u) h) at (g.real.known u (inside (suc u) h))

  -- what can be read at a node
  pub standing_on : b.leaves ≤ length starts → count * (40 + row_on b) ≤ length T → (u : ℕ) → u < count → Standing b starts T u
  standing_on many long u h =
      record {
        starts_long = many;
        starts_in = λ i l. let m : i < t.leaves = rw g.fits.leaves_is at l in
            omega (arith, g.starts_is i m, number_lt t (suc i) g.valid.fields.initial_inside, states_on_lem t b g.fits i m);
        here = row u h;
        made = λ z. record { here = row u h; before = row (node_on b T u).parent (omega (arith, parent_below u z h)); known = known u z h };
      }
    where
      row : (v : ℕ) → v < count → RowIn (row_on b) T v
      row v l = omega (arith, suc-mul v (40 + row_on b), mul-le-mul_right (40 + row_on b) l)

      known : (v : ℕ) → 0 < v → v < count → (node_on b T v).action < b.actions
      known zero z l = absurd (not-suc-le-zero z)
      known (suc v) z l = rw g.fits.actions_is (action_known v l)

  module _ (i : ℕ) (m : i < t.leaves) where
    -- the leaf's prices in node u
    pub prices_on_lem : (u : ℕ) → u < count → prices_on b T i u ≡ leaf_part t i (node_at t (search_on b T count) u).prices
    prices_on_lem u h = rw (node_on_lem u h) (part_on_lem t b g.fits i (node_on b T u).prices m)

    -- its enabled actions
    acts_on_lem : (u : ℕ) → u < count → acts_on b T i u ≡ enabled t (suc i) (node_at t (search_on b T count) u).spot
    acts_on_lem u h =
        rw (node_on_lem u h) (ap (enabled_on b i (node_on b T u).spot) g.fits.actions_is
        ∙ enabled_on_lem t b g.fits i (node_on b T u).spot t.actions m (omega arith))

    -- the prices that the layer began with
    begins_on_lem : (u : ℕ) → u < count → begins_on b starts T i u ≡ begins t (search_on b T count) i u
    unfolding begins_on begins start_leaf
    begins_on_lem zero h = rw (states_on_lem t b g.fits i m, g.starts_is i m)
    begins_on_lem (suc u) h =
        let n = node_on b T (suc u) in
        let p : n.parent < count = omega (arith, parent_lower u h) in
        rw (node_on_lem (suc u) h, prices_on_lem n.parent p)
        (pass_on_lem t b g.fits i n.action (leaf_part t i (node_at t (search_on b T count) n.parent).prices) m (action_known u h))

    -- there is a price for each of the leaf's states
    pub prices_length : (u : ℕ) → u < count → length (prices_on b T i u) ≡ states t (suc i)
    prices_length u h =
        let s = search_on b T count in
        ap length (prices_on_lem u h ∙ node_part t s g.real i u m (inside u h)) ∙ leaf_length t (suc i) _ _ ∙ begins_length t s i u

    -- a state with a price can be walked back from
    pub walk_on : (u y : ℕ) → u < count → price_in t (search_on b T count) i u y < mark → WalkableOn b starts T i u y
    walk_on u y h p =
        let s = search_on b T count in
        walkable_on t b g.fits i m (node_at t s u).spot (acts_on b T i u) (length (acts_on b T i u)) (acts_on_lem u h) refl g.valid g.sound
        (begins_on b starts T i u) (prices_on b T i u) y
        (rw (begins_on_lem u h) (begins_length t s i u)) (rw (begins_on_lem u h) (begins_cap t s i u))
        (rw (prices_on_lem u h, begins_on_lem u h) (node_part t s g.real i u m (inside u h))) (rw (prices_on_lem u h) p)

    -- and the way is the task's
    pub way_on : (u y : ℕ) → u < count → price_in t (search_on b T count) i u y < mark → back_on b starts T i u y ≡ back_in t (search_on b T count) i u y
    unfolding back_in
    way_on u y h p =
        let s = search_on b T count in
        back_on_lem t b g.fits i m (node_at t s u).spot (acts_on b T i u) (length (acts_on b T i u)) (acts_on_lem u h) refl
        (begins_on b starts T i u) (prices_on b T i u) y (prices_length u h) (walk_on u y h p)
        ∙ rw (acts_on_lem u h, begins_on_lem u h, prices_on_lem u h)

    -- over the node's action
    pub over_on_lem : (u z : ℕ) → suc u < count → over_on b T i (suc u) z ≡ over t (search_on b T count) i (suc u) z
    unfolding over_on over
    over_on_lem u z h =
        let n = node_on b T (suc u) in
        let p : n.parent < count = omega (arith, parent_lower u h) in
        wayback.over_on_lem t b g.fits i n.action (prices_on b T i n.parent) z _ m (action_known u h) (prices_length n.parent p)
        ∙ rw (prices_on_lem (suc u) h, prices_on_lem n.parent p, node_on_lem (suc u) h)

-- what can be read at a node by the tables of a task
pub standing_in : (h : TaskTables) (T : List ℕ) (count : ℕ) → Valid h.task.now → Real h.task.now (held_in (all_states h.task.now) T count)
    → count * (40 + all_states h.task.now) ≤ length T → (u : ℕ) → u < count → Standing (board_in h.board) h.starts.now T u
standing_in h T count ok r long u l =
    let b = board_in h.board in
    let row : row_on b ≡ all_states h.task.now = row_on_lem h.task.now b h.fits in
    standing_on h.task.now b h.starts.now T count (grounds_in h T count ok r) (omega (arith, h.board.sound.few_leaves, h.tabled.is_starts.long)) (rw row long) u l
