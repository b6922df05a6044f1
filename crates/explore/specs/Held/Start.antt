-- The search at its start: node 0 kept in an empty table. Assumes nothing.
use Rattle.std.specs.Prelude.{◌≡◌, true, List, ◌++◌, ℕ, ◌+◌, ◌<◌, length, get_or, None}
use Rattle.std.proofs.Math.Path.{refl}
use Rattle.std.proofs.Common.{ap, ◌∙◌, arith, take_at}
use Rattle.std.proofs.Math.ListN.{take}
use Rattle.std.proofs.lemmas.Option.{none-some}
use Rattle.loops.specs.Count.{list}
use Rattle.task.specs.declared.Task.{Task}
use Rattle.task.specs.declared.Centre.{Centre}
use Rattle.task.specs.Meaning.{initial}
use Rattle.task.specs.Factors.{all_states}
use Rattle.task.specs.Centre.{centre}
use Rattle.leaf.specs.Price.{mark}
use Rattle.layer.specs.Layer.{first_prices}
use Rattle.layer.specs.Layer.Laws.{first_length}
use Rattle.layer.specs.Board.{Board, row_on, first_on}
use Rattle.layer.specs.Board.Laws.{row_on_lem, first_on_lem}
use Rattle.tables.specs.Tables.{Starts}
use Rattle.search.specs.Node.{first_node, key, is_goal, goal_cost}
use Rattle.search.specs.Made.{Made, made_first}
use Rattle.search.specs.Small.{made_key, made_goal}
use Rattle.search.specs.Explore.{keep, start}
use Rattle.search.specs.Explore.Laws.{Base}
use Rattle.search.specs.Explore.Rounds.{base_none}
use Rattle.rows.specs.Row.{nodes_in, node_with}
use Rattle.keys.specs.Scan.{key_by, goal_cost_by}
use Rattle.blocks.specs.Block.{fresh_to}
use Rattle.blocks.specs.Block.Laws.{fresh_length}
use Rattle.nodes.specs.Chain.{Chained}
use Rattle.nodes.specs.Chain.Laws.{chained_fresh}
use Rattle.offers.specs.declared.Run.{Run}
use Rattle.expand.specs.Held.{Suits}
use Rattle.offers.specs.Held.{search_of, Cached, Kept}
use Rattle.offers.specs.Held.Laws.{key_is, goal_is, keep_is, keep_cached}
use Rattle.expand.specs.Held.Turns.{suits_scans}

-- ---- a search of no nodes

-- its run
abbrev pub no_run : Run
no_run = record { count = 0; begun = 0; best = None; best_cost = mark }

module _ (t : Task) (S : ℕ) (T O : List ℕ) where
  -- it has what every search has
  none_base : Base t 1 (search_of S T O no_run)
  unfolding search_of nodes_in list
  none_base = base_none t 1

  -- it has no keys
  none_cached : Cached t S T O no_run
  none_cached = record { keys = λ u l. absurd (omega arith); none = λ _. refl; some = λ u e. absurd (none-some u e) }

  -- with node 0 it is the search at its start
  none_start : keep t (search_of S T O no_run) (first_node t) ≡ start t
  unfolding search_of nodes_in list start
  none_start = refl

-- ---- node 0

module _ (t : Task) (b : Board) (effects goals goalPairs : List ℕ) (suits : Suits t b effects goals goalPairs)
    (starts : List ℕ) (starts_is : Starts t starts) (spot : Centre) (rest P : List ℕ) (is_spot : spot ≡ centre t (initial t)) (is_prices : P ≡ first_on b starts spot ++ rest) where
  -- node 0 by its parts
  node_first : node_with spot 0 (take (row_on b) P) 0 0 ≡ first_node t
  unfolding first_node
  node_first =
      let row = row_on_lem t b suits.fits in
      let first = first_on_lem t b suits.fits starts starts_is.is in
      let e : take (row_on b) P ≡ first_prices t = rw (is_prices, is_spot, first, row) (take_at (first_prices t) rest (all_states t) (first_length t)) in
      rw (e, is_spot)

  -- node 0 is kept, in the scan words O with all block words at the mark: the search at its start
  pub start_is : (T O F T' O' : List ℕ) (r' : Run) (opens : ℕ) → length O ≡ 17696 → ((h : ℕ) → h < 1025 → get_or O (6144 + h) 0 ≡ 0) → F ≡ fresh_to O 272
      → opens ≡ key_by b.leaves b.bases 0 P
      → Kept (row_on b) T F no_run (node_with spot 0 (take (row_on b) P) 0 0) opens
      (goal_cost_by b.leaves b.bases goals b.factors goalPairs spot 0 P) T' O' r'
      → (search_of (all_states t) T' O' r' ≡ start t) × Cached t (all_states t) T' O' r' × Chained (all_states t) T' O' r'.count
  start_is T O F T' O' r' opens long heads isFresh own kept =
      let row = row_on_lem t b suits.fits in
      let scans = suits_scans b effects goals goalPairs t suits in
      let n = node_with spot 0 (take (row_on b) P) 0 0 in
      let m : Made t 0 n = rw node_first (made_first t) in
      let is_key = own ∙ key_is t b.leaves b.bases goals b.factors goalPairs scans 0 n (omega arith) m P refl in
      let isCost = goal_is t b.leaves b.bases goals b.factors goalPairs scans 0 n (omega arith) m P refl in
      let small : key t n < mark = omega (arith, made_key t suits.valid 0 n (omega arith) m) in
      let cheap : is_goal t n ≡ true → goal_cost t n < mark = λ g. omega (arith, made_goal t suits.valid 0 n (omega arith) m g) in
      let wide : length F ≡ 17696 = ap length isFresh ∙ fresh_length O 272 ∙ long in
      let chains : Chained (row_on b) T F 0 = rw isFresh (chained_fresh (row_on b) T O long heads) in
      let v = none_base t (row_on b) T F in
      let held = none_cached t (row_on b) T F in
      let e = keep_is t 1 (row_on b) T F no_run n _ _ T' O' r' v held kept (omega arith) (omega arith) is_key small isCost cheap (omega arith) in
      let c = keep_cached t 1 (row_on b) T F no_run n _ _ T' O' r' v held kept (omega arith) (omega arith) is_key small isCost cheap (omega arith) in
      let z : keep t (search_of (row_on b) T F no_run) n ≡ start t = rw node_first (none_start t (row_on b) T F) in
      let h : Chained (row_on b) T' O' r'.count = rw kept.counted (kept.linked chains) in
      (rw row at (e ∙ z), rw row at c, rw row at h)
