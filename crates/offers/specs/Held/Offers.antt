-- The cases of an offer by tables, one law for each. Assumes nothing.
use Rattle.std.specs.Prelude.{◌≡◌, refl, Bool, true, false, List, ℕ, ◌≤◌, ◌<◌, min, ltb, length, take, Result, Ok, Err}
use Rattle.std.proofs.Math.Path.{sym}
use Rattle.std.proofs.Common.{ap, ◌∙◌, true≢false, arith}
use borrow.Author.Tests.{lt-ltb, le-ltb}
use Rattle.loops.specs.Count.{any}
use Rattle.task.specs.declared.Task.{Task}
use Rattle.task.specs.declared.Centre.{Centre}
use Rattle.leaf.specs.Price.{mark}
use Rattle.layer.specs.Board.{Board, row_on}
use Rattle.search.specs.Node.{Node, dominates, key, is_goal, goal_cost}
use Rattle.search.specs.Made.{Made}
use Rattle.search.specs.Small.{made_key, made_goal}
use Rattle.search.specs.Explore.{Search, node_at, below_best, keep, on, full, offer}
use Rattle.search.specs.Explore.Laws.{Base}
use Rattle.rows.specs.Row.{node_with}
use Rattle.keys.specs.Scan.{key_by, goal_cost_by}
use Rattle.offers.specs.declared.Run.{Run}
use Rattle.offers.specs.declared.Full.{Full}
use Rattle.offers.specs.Held.{search_of, run_of, is_beaten, Cached, Scans, Kept, Went, Stands, settled_words, begun_node, settled_node, Alike, Offered}
use Rattle.offers.specs.Held.Laws.{kept_length, below_is, best_cap, key_any, goal_is, dominated_is, keep_is, keep_cached}

-- a turn that changes nothing
pub went_same : (S nodes : ℕ) (T O : List ℕ) (r : Run) (w : Result Run Full) → run_of w ≡ r → r.count ≤ nodes → Went S nodes T O r T O w
went_same S nodes T O r w e h =
    record {
      more = rw e (omega arith);
      room = rw e h;
      begun_is = rw e;
      chained = λ c. rw e c;
      table_still = λ _. refl;
      scan_still = λ _. refl;
      run_still = λ _. e;
    }

module _ (b : Board) (goals goalPairs : List ℕ) (nodes : ℕ) (T O : List ℕ) (r : Run) (spot : Centre) (paid : ℕ) (P : List ℕ) (parent action : ℕ)
    (few : nodes ≤ 4096) (room : r.count ≤ nodes) where
  -- S, the node with its layer's begin and with its layer, and the search
  abbrev S : ℕ
  S = row_on b

  abbrev early : Node
  early = begun_node b spot paid P parent action

  abbrev node : Node
  node = settled_node b spot paid P parent action

  abbrev search : Search
  search = search_of S T O r

  -- whether a node kept dominates the begin
  abbrev beaten : Bool
  beaten = is_beaten S T r spot paid P

  -- what holds for a task whose tables these are
  module _ (t : Task) (scans : Scans t b.leaves b.bases goals b.factors goalPairs) (v : Base t nodes search) (held : Cached t S T O r) where
    -- the key by tables
    its_key : key_by b.leaves b.bases paid P ≡ min (key t early) mark
    its_key = key_any t b.leaves b.bases goals b.factors goalPairs scans early P refl

    -- the best cost is not above the mark
    cap : r.best_cost ≤ mark
    cap = best_cap t nodes S T O r v held scans.valid few

    module _ (m : Made t r.count node) (alike : Alike t S T r.count early node) where
      -- the node's key, and that it is small
      small : key t node < mark
      small = omega (arith, made_key t scans.valid r.count node (omega arith) m)

      own_key : key_by b.leaves b.bases paid P ≡ key t node
      own_key = omega (arith, its_key, small, alike.key_same)

      -- its key is below best just where it is below the best cost
      below : below_best t search (key t node) ≡ ltb (key_by b.leaves b.bases paid P) r.best_cost
      below = rw own_key (below_is t nodes S T O r v held (key t node) small)

      -- whether a node kept dominates it
      dominated : beaten ≡ any (length search.kept) (λ u. dominates (node_at t search u) node)
      unfolding dominates
      dominated = dominated_is t S T O r node (node_with spot paid (take S P) 0 0) (λ u l. alike.dominated_same u l)

      -- the four ends
      said_above : r.best_cost ≤ key_by b.leaves b.bases paid P → offer t nodes search node ≡ on search
      unfolding offer
      said_above h = rw (below ∙ le-ltb _ _ h, offer)

      module _ (h : key_by b.leaves b.bases paid P < r.best_cost) where
        said_dominated : beaten ≡ true → offer t nodes search node ≡ on search
        unfolding offer
        said_dominated d = rw (below ∙ lt-ltb _ _ h, sym dominated ∙ d, offer)

        module _ (d : beaten ≡ false) where
          said_full : nodes ≤ r.count → offer t nodes search node ≡ full
          unfolding offer
          said_full k = rw (below ∙ lt-ltb _ _ h, sym dominated ∙ d, kept_length S T O r, le-ltb r.count nodes k, offer)

          said_kept : r.count < nodes → offer t nodes search node ≡ on (keep t search node)
          unfolding offer
          said_kept k = rw (below ∙ lt-ltb _ _ h, sym dominated ∙ d, kept_length S T O r, lt-ltb r.count nodes k, offer)

  -- what the code has found: what is lent as the key, and whether the node is dominated
  module _ (opens : ℕ) where
    abbrev IsKey : Type 0
    IsKey = opens ≡ key_by b.leaves b.bases paid P

    -- the key is not below best: dropped
    pub offered_above : r.best_cost ≤ opens → Offered b goals goalPairs nodes T O r spot paid P parent action opens T O (Ok r)
    offered_above h =
        record {
          went = went_same S nodes T O r (Ok r) refl room;
          offered = λ t scans v held is_key m alike. record { said = said_above t scans v held m alike (omega arith); held = held };
          dropped = λ t scans v held is_key e. record { said = refl; held = held };
        }

    module _ (h : opens < r.best_cost) (found : Bool) (isFound : found ≡ beaten) where
      -- a key below best is below the mark
      unblocked : (t : Task) → Scans t b.leaves b.bases goals b.factors goalPairs → Base t nodes search → Cached t S T O r → IsKey
          → mark ≤ key t early → ⊥
      unblocked t scans v held is_key e = omega (arith, its_key t scans v held, cap t scans v held)

      -- a node kept dominates it: dropped
      pub offered_dominated : found ≡ true → Offered b goals goalPairs nodes T O r spot paid P parent action opens T O (Ok r)
      offered_dominated d =
          record {
            went = went_same S nodes T O r (Ok r) refl room;
            offered = λ t scans v held is_key m alike.
                record { said = said_dominated t scans v held m alike (omega arith) (sym isFound ∙ d); held = held };
            dropped = λ t scans v held is_key e. absurd (unblocked t scans v held is_key e);
          }

      module _ (d : found ≡ false) where
        -- the table is full
        pub offered_full : nodes ≤ r.count → Offered b goals goalPairs nodes T O r spot paid P parent action opens T O (Err (record { 0 = r }))
        offered_full k =
            record {
              went = went_same S nodes T O r (Err (record { 0 = r })) refl room;
              offered = λ t scans v held is_key m alike.
                  record { said = said_full t scans v held m alike (omega arith) (sym isFound ∙ d) k; held = held };
              dropped = λ t scans v held is_key e. absurd (unblocked t scans v held is_key e);
            }

        -- it is settled and kept
        pub offered_kept : r.count < nodes → length O ≡ 17696 → (P' : List ℕ) → P' ≡ settled_words b spot P → (T' O' : List ℕ) (r' : Run)
            → Kept S T O r (node_with spot paid (take S P') parent action) opens (goal_cost_by b.leaves b.bases goals b.factors goalPairs spot paid P') T' O' r'
            → Offered b goals goalPairs nodes T O r spot paid P parent action opens T' O' (Ok r')
        offered_kept k long P' is_words T' O' r' given =
            record {
              went =
                  record {
                    more = rw kept.counted (omega arith);
                    room = rw kept.counted (omega arith);
                    begun_is = rw kept.counted;
                    chained = λ c. rw kept.counted (kept.linked c);
                    table_still = λ e. absurd (true≢false (sym e));
                    scan_still = λ e. absurd (true≢false (sym e));
                    run_still = λ e. absurd (true≢false (sym e));
                  };
              offered = λ t scans v held is_key m alike. stands t scans v held is_key m alike;
              dropped = λ t scans v held is_key e. absurd (unblocked t scans v held is_key e);
            }
          where
            kept : Kept S T O r node opens (goal_cost_by b.leaves b.bases goals b.factors goalPairs spot paid (settled_words b spot P)) T' O' r'
            kept = rw is_words at given

            stands : (t : Task) → Scans t b.leaves b.bases goals b.factors goalPairs → Base t nodes search → Cached t S T O r → IsKey
                → Made t r.count node → Alike t S T r.count early node → Stands t S T' O' (Ok r') (offer t nodes search node)
            stands t scans v held is_key m alike =
                let isCost = goal_is t b.leaves b.bases goals b.factors goalPairs scans r.count node (omega arith) m (settled_words b spot P) refl in
                let cheap : is_goal t node ≡ true → goal_cost t node < mark = λ g. omega (arith, made_goal t scans.valid r.count node (omega arith) m g) in
                let top = cap t scans v held in
                let its = is_key ∙ own_key t scans v held m alike in
                let low = small t scans v held m alike in
                record {
                  said =
                      said_kept t scans v held m alike (omega arith) (sym isFound ∙ d) k
                      ∙ ap on (sym (keep_is t nodes S T O r node _ _ T' O' r' v held kept (omega arith) (omega arith) its low isCost cheap top));
                  held = keep_cached t nodes S T O r node _ _ T' O' r' v held kept (omega arith) (omega arith) its low isCost cheap top;
                }
