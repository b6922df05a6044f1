-- Laws of the search that table, open keys and counts hold: its nodes, its best, the keys and goal costs by tables, and what one node more does.
-- Assumes nothing.
use Rattle.std.specs.Prelude.{◌≡◌, ◌⊎◌, Bool, List, [], ◌∷◌, ◌++◌, eqb, length, take, drop, Option, Some, None}
use Rattle.std.proofs.Math.Path.{refl, sym, ap}
use Rattle.std.proofs.Common.{◌∙◌, inl, inr, true≢false, not-suc-le-zero, mul-le-mul_right, length-take, length-drop, take_at, take-take, drop-drop}
use Rattle.std.proofs.Math.Bool.{true, false, cond}
use Prim.Native.Nat.{ℕ, zero, suc, ◌+◌, ◌-◌, ◌*◌, ◌≤◌, ◌<◌, min}
use Rattle.std.proofs.Math.Numerals.{add-one}
use Rattle.std.proofs.Math.Decide.{dec_lt}
use native.Mathlib.Omega.{arith}
use Rattle.std.proofs.lemmas.Option.{none-some, same_Some}
use borrow.Author.Tests.{ltb-true, lt-ltb, le-ltb, ne_eqb}
use Rattle.std.proofs.Math.Dec.{ltb}
use Rattle.std.proofs.Math.ListN.{get_or}
use Rattle.std.proofs.Math.Seq.{get_or-take, get_or-drop, get_or-set_same, get_or-set_other}
use Rattle.loops.specs.Count.{any, sum, list}
use Rattle.loops.specs.Count.Laws.{below_cases, and_in, all_in, any_ext, sum_ext, sum_more, list_ext}
use Rattle.task.specs.declared.Task.{Task}
use Rattle.task.specs.declared.Centre.{Centre}
use Rattle.task.specs.Meaning.{factor, goal}
use Rattle.task.specs.Factors.{states, all_states, values_of, meets_in}
use Rattle.task.specs.Centre.{centre_meets}
use Rattle.task.specs.Valid.{Valid}
use Rattle.leaf.specs.Price.{mark}
use Rattle.layer.specs.Layer.{base, leaf_part}
use Rattle.layer.specs.Layer.Laws.{base_fits, part_length}
use Rattle.layer.specs.Layer.Front.{part_take, cond_not}
use Rattle.layer.specs.Board.{Board, Sound, row_on}
use Rattle.search.specs.Node.{Node, first_node, least_of, key, goal_prices, is_goal, goal_cost, dominates}
use Rattle.search.specs.Made.{Made, made_sound}
use Rattle.search.specs.Small.{made_key, made_goal}
use Rattle.search.specs.Explore.{node_at, below_best, best_with, keep}
use Rattle.search.specs.Explore.Laws.{Base}
use Rattle.rows.specs.Row.{spot_of, node_of, node_in, nodes_in, Packed}
use Rattle.rows.specs.Row.Laws.{row_lent, row_word, row_kept, row_written, nodes_in_length, nodes_in_at}
use Rattle.rows.specs.Begun.{read_from}
use Rattle.keys.specs.Scan.{Cut, part_by, goals_by, key_by, goal_sum_by, goal_cost_by}
use Rattle.rows.specs.Sign.{sign_of, class_of}
use Rattle.nodes.specs.Chain.{linked_to}
use Rattle.nodes.specs.Chain.Laws.{linked_key, chained_more}
use Rattle.offers.specs.declared.Run.{Run}
use Rattle.offers.specs.Held.{best_number, search_of, Cached, Scans, Room, Has, kept_run, Kept}

-- ---- rows

-- the nodes of a table depend on its rows' nodes
nodes_in_same : (S n : ℕ) (T T' : List ℕ) → ((u : ℕ) → u < n → node_in S T' u ≡ node_in S T u) → nodes_in S T' n ≡ nodes_in S T n
unfolding nodes_in
nodes_in_same S zero T T' h = refl
nodes_in_same S (suc n) T T' h = rw (h n (omega arith), nodes_in_same S n T T' (λ u l. h u (omega arith)))

-- node u by the parts that the code reads: its row, a word of it, and its last S words, copied to the front of `old`
pub row_has : (S u : ℕ) (T : List ℕ) (spot : Centre) (old rest : List ℕ) → u * (40 + S) + (40 + S) ≤ length T
    → spot ≡ spot_of (take (u * (40 + S) + (40 + S) - u * (40 + S)) (drop (u * (40 + S)) T))
    → old ≡ take S (take (u * (40 + S) + (40 + S) - (u * (40 + S) + 40)) (drop (u * (40 + S) + 40) T)) ++ rest
    → Has (node_in S T u) spot (get_or T (u * (40 + S) + 32) 0) (take S old)
unfolding node_of
row_has S u T spot old rest fits is_spot isOld =
    let words = take S (drop (u * (40 + S) + 40) T) in
    let many : u * (40 + S) + (40 + S) - (u * (40 + S) + 40) ≡ S = omega arith in
    let long : length words ≡ S = simp (length-take, length-drop) (omega arith) in
    let front : take S old ≡ words =
    rw (isOld, many, take-take S S (drop (u * (40 + S) + 40) T) (omega arith)) (take_at words rest S long) in
    record {
      spot_is = sym (is_spot ∙ ap spot_of (row_lent S u T));
      paid_is = row_word S u T 32 (omega arith);
      prices_is = part_take S 40 (40 + S) (drop (u * (40 + S)) T) (omega arith) ∙ ap (take S) (drop-drop 40 (u * (40 + S)) T) ∙ sym front;
    }

-- rows that the table has room for
pub rows_fit : {S nodes : ℕ} {T O : List ℕ} {r : Run} → Room S nodes T O r → (k : ℕ) → k ≤ nodes + 1 → k * (40 + S) ≤ length T
rows_fit {S} room k h = omega (arith, mul-le-mul_right (40 + S) h, room.table_long)

-- the list that is read for a layer's begin, told by cases
pub read_is : (still : ℕ) (old made r : List ℕ) → (still ≡ 0 → r ≡ made) → ((still ≡ 0 → ⊥) → r ≡ old) → r ≡ read_from still old made
unfolding read_from
read_is zero old made r moves stays = moves refl
read_is (suc f) old made r moves stays = stays (λ e. omega arith)

-- a Board's bases cut what is as long as all states
pub cut : {b : Board} {n : ℕ} → Sound b → row_on b ≤ n → Cut b.leaves b.bases n
cut sound h = record { few = sound.few_leaves; long = sound.bases_long; rise = sound.bases_rise; fits = h }

-- ---- the search's nodes and its best

module _ (S : ℕ) (T O : List ℕ) (r : Run) where
  -- there are as many nodes as the count says
  pub kept_length : length (search_of S T O r).kept ≡ r.count
  unfolding search_of
  kept_length = nodes_in_length S T r.count

  -- node u stands in row u
  pub node_at_lem : (t : Task) (u : ℕ) → u < r.count → node_at t (search_of S T O r) u ≡ node_in S T u
  unfolding search_of
  node_at_lem t u l = nodes_in_at S T r.count u (first_node t) l

module _ (t : Task) (nodes S : ℕ) (T O : List ℕ) (r : Run) (b : Base t nodes (search_of S T O r)) (held : Cached t S T O r) where
  -- best's node stands in its row, and is a goal node
  best_held : (u : ℕ) → r.best ≡ Some u → (u < r.count) × (node_at t (search_of S T O r) u ≡ node_in S T u) × (is_goal t (node_in S T u) ≡ true)
  unfolding search_of
  best_held u e =
      let (l, g) = b.best_in u (ap best_number e) in
      let inside : u < r.count = omega (arith, kept_length S T O r) in
      (inside, node_at_lem S T O r t u inside, rw (node_at_lem S T O r t u inside) at g)

  -- below best is below the best cost
  pub below_is : (k : ℕ) → k < mark → below_best t (search_of S T O r) k ≡ ltb k r.best_cost
  unfolding below_best search_of
  below_is k h = go r.best refl
    where
      go : (x : Option ℕ) → r.best ≡ x → below_best t (search_of S T O r) k ≡ ltb k r.best_cost
      go None e = rw (e, below_best, held.none e) (sym (lt-ltb k mark h))
      go (Some u) e = rw (e, below_best, (best_held u e).1, held.some u e)

  -- the best cost is not above the mark
  pub best_cap : Valid t → nodes ≤ 4096 → r.best_cost ≤ mark
  unfolding search_of
  best_cap ok few = go r.best refl
    where
      go : (x : Option ℕ) → r.best ≡ x → r.best_cost ≤ mark
      go None e = omega (arith, held.none e)
      go (Some u) e =
          let (l, q, g) = best_held u e in
          let m : Made t u (node_in S T u) = rw (q) at (b.made u (omega (arith, kept_length S T O r))) in
          omega (arith, held.some u e, made_goal t ok u (node_in S T u) (omega (arith, b.room, kept_length S T O r)) m g)

-- ---- keys and goal costs

-- no term is more than the sum
sum_term : (n i : ℕ) (f : ℕ → ℕ) → i < n → f i ≤ sum n f
unfolding sum
sum_term zero i f l = absurd (not-suc-le-zero l)
sum_term (suc n) i f l = go (below_cases l) (sum_term n i f)
  where
    go : (i < n) ⊎ (i ≡ n) → (i < n → f i ≤ sum n f) → f i ≤ sum n f + f n
    go (inl k) r = omega (arith, r k)
    go (inr q) r = rw q (omega arith)

module _ (t : Task) (leaves : ℕ) (bases goals factors goalPairs : List ℕ) (scans : Scans t leaves bases goals factors goalPairs) where
  -- S
  pub scan_states : get_or bases leaves 0 ≡ all_states t
  unfolding base all_states
  scan_states = rw scans.leaves_is (scans.bases_is t.leaves (omega arith))

  -- where a leaf's entries begin and how many there are
  scan_part : (i : ℕ) → i < t.leaves → (xs : List ℕ) → part_by bases i xs ≡ leaf_part t i xs
  unfolding leaf_part base
  scan_part i l xs =
      let at : get_or bases i 0 ≡ base t i = scans.bases_is i (omega arith) in
      let many : get_or bases (i + 1) 0 - get_or bases i 0 ≡ states t (suc i) =
      omega (arith, at, scans.bases_is (i + 1) (omega arith), sum_more i (λ j. states t (suc j))) in
      rw (many, at)

  -- words behind the prices do not count
  scan_prices : (i : ℕ) → i < t.leaves → (P : List ℕ) → part_by bases i P ≡ leaf_part t i (take (get_or bases leaves 0) P)
  unfolding leaf_part
  scan_prices i l P = scan_part i l P ∙ sym (part_take (states t (suc i)) (base t i) (get_or bases leaves 0) P (omega (arith, base_fits t i l, scan_states)))

  -- the key by tables is the key of a node with these prices, at most the mark
  pub key_any : (n : Node) (P : List ℕ) → n.prices ≡ take (get_or bases leaves 0) P → key_by leaves bases n.paid P ≡ min (key t n) mark
  unfolding key_by key
  key_any n P prices =
      let each : sum leaves (λ i. least_of (part_by bases i P)) ≡ sum t.leaves (λ i. least_of (leaf_part t i n.prices)) =
      rw scans.leaves_is (sum_ext t.leaves _ _ (λ i l. ap least_of (scan_prices i l P ∙ ap (leaf_part t i) (sym prices)))) in
      omega (arith, each)

  module _ (u : ℕ) (n : Node) (few : u ≤ 4096) (m : Made t u n) (P : List ℕ) (prices : n.prices ≡ take (get_or bases leaves 0) P) where
    -- a leaf's prices
    here : (i : ℕ) → i < t.leaves → part_by bases i P ≡ leaf_part t i n.prices
    here i l = rw prices (scan_prices i l P)

    -- the key by tables is the node's key
    pub key_is : key_by leaves bases n.paid P ≡ key t n
    key_is = omega (arith, key_any n P prices, made_key t scans.valid u n few m)

    -- a leaf's prices of goal states
    goals_here : (i : ℕ) → i < t.leaves → goals_by (part_by bases i goals) (part_by bases i P) ≡ goal_prices t i n
    unfolding goals_by goal_prices leaf_part
    goals_here i l =
        rw (here i l, scan_part i l goals, part_length t i n.prices l (made_sound t scans.valid u n m).settled.full)
        (list_ext (states t (suc i)) _ _ at)
      where
        at : (x : ℕ) → x < states t (suc i)
            → cond (eqb (get_or (leaf_part t i goals) x 0) 0) mark (get_or (leaf_part t i n.prices) x mark)
            ≡ cond (meets_in t (suc i) (goal t) (values_of t (suc i) x)) (get_or (leaf_part t i n.prices) x mark) mark
        at x h =
            let flag : get_or (leaf_part t i goals) x 0 ≡ get_or goals (base t i + x) 0 =
            get_or-take (states t (suc i)) (drop (base t i) goals) x 0 h ∙ get_or-drop (base t i) goals x 0 in
            rw (flag, scans.goals_is.is i x l h) (cond_not (meets_in t (suc i) (goal t) (values_of t (suc i) x)) _ _)

    -- their sum by tables is the goal cost, at most the mark
    goal_sum : goal_sum_by leaves bases goals n.paid P ≡ min (goal_cost t n) mark
    unfolding goal_sum_by goal_cost
    goal_sum =
        let each : sum leaves (λ i. least_of (goals_by (part_by bases i goals) (part_by bases i P))) ≡ sum t.leaves (λ i. least_of (goal_prices t i n)) =
        rw scans.leaves_is (sum_ext t.leaves _ _ (λ i l. ap least_of (goals_here i l))) in
        omega (arith, each)

    -- a goal cost below the mark is a goal node's, where the centre meets the goal
    goal_in : centre_meets (factor t) (goal t) n.spot ≡ true → goal_cost t n < mark → is_goal t n ≡ true
    unfolding is_goal goal_cost
    goal_in c h =
        let least : ℕ → ℕ = λ i. least_of (goal_prices t i n) in
        and_in c (all_in t.leaves _ (λ i l. lt-ltb (least i) mark (omega (arith, sum_term t.leaves i least l))))

    -- the goal cost by tables is the node's, the mark where it is no goal node
    pub goal_is : goal_cost_by leaves bases goals factors goalPairs n.spot n.paid P ≡ cond (is_goal t n) (goal_cost t n) mark
    unfolding goal_cost_by is_goal
    goal_is = rw (scans.factors_is, scans.goal_is) (go (centre_meets (factor t) (goal t) n.spot) refl (is_goal t n) refl)
      where
        go : (c : Bool) → centre_meets (factor t) (goal t) n.spot ≡ c → (g : Bool) → is_goal t n ≡ g
            → cond (centre_meets (factor t) (goal t) n.spot) (goal_sum_by leaves bases goals n.paid P) mark ≡ cond (is_goal t n) (goal_cost t n) mark
        go false p g q = rw p
        go true p true q = rw (q, p, goal_sum) (omega (arith, made_goal t scans.valid u n few m q))
        go true p false q = rw (q, p, goal_sum) (low (dec_lt (goal_cost t n) mark))
          where
            low : Dec (goal_cost t n < mark) → min (goal_cost t n) mark ≡ mark
            low (yes h) = absurd (true≢false (sym (goal_in p h) ∙ q))
            low (no h) = omega arith

-- ---- dominance

-- a node m is dominated by one of the rows where n is by one of the search's nodes, if each row dominates both or neither
pub dominated_is : (t : Task) (S : ℕ) (T O : List ℕ) (r : Run) (n m : Node) → ((u : ℕ) → u < r.count → dominates (node_in S T u) m ≡ dominates (node_in S T u) n)
    → any r.count (λ u. dominates (node_in S T u) m) ≡ any (length (search_of S T O r).kept) (λ u. dominates (node_at t (search_of S T O r) u) n)
dominated_is t S T O r n m same =
    sym (ap (λ k. any k (λ u. dominates (node_at t (search_of S T O r) u) n)) (kept_length S T O r)
    ∙ any_ext r.count _ _ (λ u l. rw (node_at_lem S T O r t u l) (sym (same u l))))

-- ---- one node more

-- the node's row was written over the next row, with its signature, and it was linked: Q is the row, cost the goal cost
module _ (S : ℕ) (T O : List ℕ) (r : Run) (n : Node) (opens cost : ℕ) (Q rest : List ℕ) (fits : r.count * (40 + S) ≤ length T) (long : length Q ≡ 40 + S)
    (holds : node_of S Q ≡ n) (packs : Packed Q) (few : r.count < 4096) (O' : List ℕ) (sign class : ℕ) (signed : get_or Q 39 0 ≡ sign) (isSign : sign ≡ sign_of n.prices) (isClass : class ≡ class_of n.spot)
    (isLinked : O' ≡ linked_to O r.count opens sign class) where
  -- the table afterwards
  abbrev written : List ℕ
  written = take (r.count * (40 + S)) T ++ (Q ++ rest)

  -- the nodes before it are as they were, and it stands behind them
  kept_old : (u : ℕ) → u < r.count → node_in S written u ≡ node_in S T u
  kept_old u l = ap (node_of S) (row_kept S u r.count T (Q ++ rest) l fits)

  kept_new : node_in S written r.count ≡ n
  kept_new = ap (node_of S) (row_written S r.count T Q rest fits long) ∙ holds

  -- the table and the scan words with one node more
  pub kept_by : {r' : Run} → r' ≡ kept_run r cost → Kept S T O r n opens cost written O' r'
  kept_by e =
      record {
        old = kept_old;
        new = kept_new;
        keyed = λ u l. rw isLinked (linked_key O r.count opens sign class u l);
        counted = e;
        linked = λ c. rw (isLinked, isSign, isClass, add-one)
            (chained_more S T written O r.count opens n.spot n.prices few (λ u l. row_kept S u r.count T (Q ++ rest) l fits)
            (ap (λ (x : Node). x.spot) kept_new) (ap (λ (x : Node). x.prices) kept_new) (rw (row_written S r.count T Q rest fits long) packs)
            (rw (row_written S r.count T Q rest fits long) (signed ∙ isSign)) c);
      }

-- 1 once the node's expansion has begun
abbrev flag : List ℕ → ℕ → ℕ
flag O u = cond (eqb (get_or O u 0) mark) 1 0

module _ (t : Task) (nodes S : ℕ) (T O : List ℕ) (r : Run) (n : Node) (opens cost : ℕ) (T' O' : List ℕ) (r' : Run)
    (b : Base t nodes (search_of S T O r)) (held : Cached t S T O r) (kept : Kept S T O r n opens cost T' O' r')
    (wide : r.count < length O) (few : r.count < 4096) (is_key : opens ≡ key t n) (small : key t n < mark)
    (isCost : cost ≡ cond (is_goal t n) (goal_cost t n) mark) (low : is_goal t n ≡ true → goal_cost t n < mark) (cap : r.best_cost ≤ mark) where
  -- the new node is best where its goal cost is less than the best cost
  best_is : best_with t (search_of S T O r) n ≡ best_number r'.best
  unfolding best_with search_of
  best_is = rw kept.counted (go (is_goal t n) refl)
    where
      Goal : Type 0
      Goal = best_with t (search_of S T O r) n ≡ best_number (cond (ltb cost r.best_cost) (Some r.count) r.best)

      either : (c : Bool) → below_best t (search_of S T O r) (goal_cost t n) ≡ c → ltb cost r.best_cost ≡ c → is_goal t n ≡ true → Goal
      either true f q p = rw (p, f, q, best_with, kept_length S T O r)
      either false f q p = rw (p, f, q, best_with)

      go : (g : Bool) → is_goal t n ≡ g → Goal
      go true p =
          let e : cost ≡ goal_cost t n = rw p at isCost in
          either (ltb cost r.best_cost) (rw e (below_is t nodes S T O r b held (goal_cost t n) (low p))) refl p
      go false p =
          let z : ltb cost r.best_cost ≡ false = rw (isCost, p) (le-ltb mark r.best_cost cap) in
          rw (p, z, best_with)

  -- the open keys: no expansion of the new node has begun
  done_is : list r'.count (flag O') ≡ list r.count (flag O) ++ (0 ∷ [])
  unfolding list
  done_is =
      let new : flag O' r.count ≡ 0 = rw (kept.keyed r.count few, get_or-set_same O r.count opens 0 wide, ne_eqb opens mark (λ e. omega arith)) in
      let old = list_ext r.count (flag O') (flag O) (λ u l. rw (kept.keyed u (omega arith), get_or-set_other O r.count u opens 0 (λ e. omega arith))) in
      rw (kept.counted, add-one, list, old, new)

  -- the search with one node more
  pub keep_is : search_of S T' O' r' ≡ keep t (search_of S T O r) n
  unfolding search_of keep nodes_in
  keep_is =
      let nodes : nodes_in S T' r'.count ≡ nodes_in S T r.count ++ (n ∷ []) =
      rw (kept.counted, add-one, nodes_in, nodes_in_same S r.count T T' kept.old, kept.new) in
      rw (nodes, done_is, best_is) (rw kept.counted)

  -- its open keys and its best cost are those of its nodes
  pub keep_cached : Cached t S T' O' r'
  keep_cached =
      record {
        keys = λ u l. keyed u (below_cases (omega (arith, ap (λ (x : Run). x.count) kept.counted)));
        none = λ e. rw kept.counted (none (ltb cost r.best_cost) refl (rw kept.counted at e));
        some = λ u e. rw kept.counted (some u (ltb cost r.best_cost) refl (rw kept.counted at e));
      }
    where
      keyed : (u : ℕ) → (u < r.count) ⊎ (u ≡ r.count) → (get_or O' u 0 ≡ mark) ⊎ (get_or O' u 0 ≡ key t (node_in S T' u))
      keyed u (inl l) = rw (kept.old u l, kept.keyed u (omega arith), get_or-set_other O r.count u opens 0 (λ e. omega arith)) (held.keys u l)
      keyed u (inr q) = inr (rw (q, kept.new, kept.keyed r.count few, get_or-set_same O r.count opens 0 wide) is_key)

      none : (c : Bool) → ltb cost r.best_cost ≡ c → cond (ltb cost r.best_cost) (Some r.count) r.best ≡ None
          → cond (ltb cost r.best_cost) cost r.best_cost ≡ mark
      none true p e = absurd (none-some r.count (sym (rw p at e)))
      none false p e = rw p (held.none (rw p at e))

      goal : ltb cost r.best_cost ≡ true → cost ≡ goal_cost t n
      goal p = is (is_goal t n) refl
        where
          is : (g : Bool) → is_goal t n ≡ g → cost ≡ goal_cost t n
          is true q = rw q at isCost
          is false q = let e : cost ≡ mark = rw q at isCost in absurd (omega (arith, ltb-true cost r.best_cost p))

      some : (u : ℕ) (c : Bool) → ltb cost r.best_cost ≡ c → cond (ltb cost r.best_cost) (Some r.count) r.best ≡ Some u
          → cond (ltb cost r.best_cost) cost r.best_cost ≡ goal_cost t (node_in S T' u)
      some u true p e =
          let q : u ≡ r.count = sym (same_Some r.count u (rw p at e)) in
          rw (p, q, kept.new) (goal p)
      some u false p e =
          let f : r.best ≡ Some u = rw p at e in
          rw (p, kept.old u (best_held t nodes S T O r b held u f).0) (held.some u f)
