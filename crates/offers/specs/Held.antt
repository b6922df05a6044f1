-- The search that the lent table, the scan words and the counts hold. The first scan words are the nodes' open keys.
pub mod Laws
pub mod Offers
use Rattle.std.specs.Prelude.{◌≡◌, Bool, cond, ◌⊎◌, List, ◌++◌, ℕ, suc, ◌+◌, ◌*◌, ◌≤◌, ◌<◌, ltb, eqb, length, get_or, set, take, drop, Option, Some, None, Result, Ok, Err, is_err, IsErr}
use Rattle.loops.specs.Count.{list, any}
use Rattle.task.specs.declared.Task.{Task}
use Rattle.task.specs.declared.Centre.{Centre}
use Rattle.task.specs.Valid.{Valid}
use Rattle.leaf.specs.Price.{mark}
use Rattle.layer.specs.Layer.{base}
use Rattle.layer.specs.Board.{Board, row_on, settled_on}
use Rattle.tables.specs.Tables.{Goals}
use Rattle.search.specs.Node.{Node, key, goal_cost, dominates}
use Rattle.search.specs.Explore.{Search, Turn, on, full, offer}
use Rattle.search.specs.Explore.Laws.{Base}
use Rattle.search.specs.Made.{Made}
use Rattle.rows.specs.Row.{node_in, nodes_in, node_with}
use Rattle.keys.specs.Scan.{key_by}
use Rattle.nodes.specs.Chain.{Chained}
use Rattle.offers.specs.declared.Run.{Run}
use Rattle.offers.specs.declared.Full.{Full}

-- best's node as the search counts it: one more than its number, 0 for none
abbrev pub best_number : Option ℕ → ℕ
best_number None = 0
best_number (Some u) = suc u

-- the search in the table T (rows of 40 + S words), with the open keys at the front of O: a node's key, or the mark once its expansion has begun
unfoldable pub search_of : ℕ → List ℕ → List ℕ → Run → Search
search_of S T O r =
    record {
      kept = nodes_in S T r.count;
      done = list r.count (λ u. cond (eqb (get_or O u 0) mark) 1 0);
      begun = r.begun;
      best = best_number r.best;
    }

-- each open key is its node's key, and the best cost is the goal cost of best's node, the mark where there is none
pub record Cached (t : Task) (S : ℕ) (T O : List ℕ) (r : Run) : Type 0 where
  pub keys : (u : ℕ) → u < r.count → (get_or O u 0 ≡ mark) ⊎ (get_or O u 0 ≡ key t (node_in S T u))
  pub none : r.best ≡ None → r.best_cost ≡ mark
  pub some : (u : ℕ) → r.best ≡ Some u → r.best_cost ≡ goal_cost t (node_in S T u)

-- the tables that offering a node reads are those of the task
pub record Scans (t : Task) (leaves : ℕ) (bases goals factors goalPairs : List ℕ) : Type 0 where
  pub valid : Valid t
  pub leaves_is : leaves ≡ t.leaves
  pub bases_is : (i : ℕ) → i ≤ t.leaves → get_or bases i 0 ≡ base t i
  pub factors_is : factors ≡ t.factors
  pub goals_is : Goals t goals
  pub goal_is : goalPairs ≡ t.goal

-- the lent table has room for the nodes and one row more, and the scan words chain its nodes
pub record Room (S nodes : ℕ) (T O : List ℕ) (r : Run) : Type 0 where
  pub few_states : S ≤ 1024
  pub few_nodes : nodes ≤ 4096
  pub table_long : (nodes + 1) * (40 + S) ≤ length T
  pub scan_long : length O ≡ 17696
  pub count_few : r.count ≤ nodes
  pub chained : Chained S T O r.count

-- the search to go on with, or as it was when the table was full
abbrev pub run_of : Result Run Full → Run
run_of (Ok r) = r
run_of (Err f) = f.0

-- what a turn says
abbrev pub turn_of : Result Run Full → Search → Turn
turn_of w s = cond (is_err w) full (on s)

-- ---- a node more

-- the node has this centre state, centre cost and these prices
pub record Has (n : Node) (spot : Centre) (paid : ℕ) (P : List ℕ) : Type 0 where
  pub spot_is : n.spot ≡ spot
  pub paid_is : n.paid ≡ paid
  pub prices_is : n.prices ≡ P

-- the counts with one node more, whose goal cost is `cost`, the mark where it is no goal node
abbrev pub kept_run : Run → ℕ → Run
kept_run r cost =
    record {
      count = r.count + 1;
      begun = r.begun;
      best = cond (ltb cost r.best_cost) (Some r.count) r.best;
      best_cost = cond (ltb cost r.best_cost) cost r.best_cost;
    }

-- the table and the scan words with one node more: the node n, its key and its goal cost; chains go on
pub record Kept (S : ℕ) (T O : List ℕ) (r : Run) (n : Node) (opens cost : ℕ) (T' O' : List ℕ) (r' : Run) : Type 0 where
  pub old : (u : ℕ) → u < r.count → node_in S T' u ≡ node_in S T u
  pub new : node_in S T' r.count ≡ n
  pub keyed : (u : ℕ) → u < 4096 → get_or O' u 0 ≡ get_or (set O r.count opens) u 0
  pub counted : r' ≡ kept_run r cost
  pub linked : Chained S T O r.count → Chained S T' O' (r.count + 1)

-- whether one of the nodes dominates a node by its parts, whose prices are the first S words of P
abbrev pub is_beaten : ℕ → List ℕ → Run → Centre → ℕ → List ℕ → Bool
is_beaten S T r spot paid P = any r.count (λ u. dominates (node_in S T u) (node_with spot paid (take S P) 0 0))

-- ---- a turn

-- what a turn leaves true whatever the task: counts do not fall, the nodes stay within `nodes` and chained, and a full table leaves all as it was
pub record Went (S nodes : ℕ) (T O : List ℕ) (r : Run) (T' O' : List ℕ) (w : Result Run Full) : Type 0 where
  pub more : r.count ≤ (run_of w).count
  pub room : (run_of w).count ≤ nodes
  pub begun_is : (run_of w).begun ≡ r.begun
  pub chained : Chained S T O r.count → Chained S T' O' (run_of w).count
  pub table_still : IsErr w → T' ≡ T
  pub scan_still : IsErr w → O' ≡ O
  pub run_still : IsErr w → run_of w ≡ r

-- a turn came out as the search says: the search to go on with stands in the table
pub record Stands (t : Task) (S : ℕ) (T O : List ℕ) (w : Result Run Full) (x : Turn) : Type 0 where
  pub said : x ≡ turn_of w (search_of S T O (run_of w))
  pub held : Cached t S T O (run_of w)

-- the words behind the settling of a layer's begin P: the settled prices, and what stood behind them
abbrev pub settled_words : Board → Centre → List ℕ → List ℕ
settled_words b c P = settled_on b c P ++ drop (row_on b) P

-- a successor with its layer's begin P, and with its layer
abbrev pub begun_node : Board → Centre → ℕ → List ℕ → ℕ → ℕ → Node
begun_node b c paid P parent action = node_with c paid (take (row_on b) P) parent action

abbrev pub settled_node : Board → Centre → ℕ → List ℕ → ℕ → ℕ → Node
settled_node b c paid P parent action = node_with c paid (take (row_on b) (settled_words b c P)) parent action

-- m and n have the same key, and each of the first k nodes of the table dominates both or neither
pub record Alike (t : Task) (S : ℕ) (T : List ℕ) (k : ℕ) (m n : Node) : Type 0 where
  pub key_same : key t m ≡ key t n
  pub dominated_same : (u : ℕ) → u < k → dominates (node_in S T u) m ≡ dominates (node_in S T u) n

-- a successor was offered by its layer's begin P, for every task whose tables these are: settled, it came out as the search says, where that is
-- alike; and it was dropped where the begin's key is the mark or more. `opens` is lent as that key
pub record Offered (b : Board) (goals goalPairs : List ℕ) (nodes : ℕ) (T O : List ℕ) (r : Run) (spot : Centre) (paid : ℕ) (P : List ℕ)
    (parent action opens : ℕ) (T' O' : List ℕ) (w : Result Run Full) : Type 0 where
  pub went : Went (row_on b) nodes T O r T' O' w
  pub offered : (t : Task) → Scans t b.leaves b.bases goals b.factors goalPairs → Base t nodes (search_of (row_on b) T O r) → Cached t (row_on b) T O r
      → opens ≡ key_by b.leaves b.bases paid P → Made t r.count (settled_node b spot paid P parent action)
      → Alike t (row_on b) T r.count (begun_node b spot paid P parent action) (settled_node b spot paid P parent action)
      → Stands t (row_on b) T' O' w (offer t nodes (search_of (row_on b) T O r) (settled_node b spot paid P parent action))
  pub dropped : (t : Task) → Scans t b.leaves b.bases goals b.factors goalPairs → Base t nodes (search_of (row_on b) T O r) → Cached t (row_on b) T O r
      → opens ≡ key_by b.leaves b.bases paid P → mark ≤ key t (begun_node b spot paid P parent action)
      → Stands t (row_on b) T' O' w (on (search_of (row_on b) T O r))
