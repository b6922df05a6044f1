-- The cases of a turn and of an expansion by tables, one law for each. Assumes nothing.
use Rattle.std.specs.Prelude.{◌≡◌, refl, ◌⊎◌, Bool, not, List, ◌++◌, length, get_or, take, drop, Result, Ok, is_err, IsErr}
use Rattle.std.proofs.Math.Path.{sym}
use Rattle.std.proofs.Common.{ap, ◌∙◌, inl, inr, lt_of_lt_of_le, add-one, take_at}
use Rattle.std.proofs.Math.Bool.{true, false}
use Prim.Native.Nat.{ℕ, zero, suc, ◌+◌, ◌-◌, ◌*◌, ◌≤◌, ◌<◌, min}
use Rattle.std.proofs.Math.Decide.{ℕ_discrete}
use native.Mathlib.Omega.{arith}
use borrow.Author.Tests.{le-ltb, eq-eqb, ne_eqb}
use Rattle.loops.specs.Count.{list}
use Rattle.loops.specs.Count.Laws.{told_true, told_false, list_at}
use Rattle.task.specs.declared.Task.{Task}
use Rattle.task.specs.declared.Centre.{Centre}
use Rattle.task.specs.Meaning.{factor, condition, effect, cost}
use Rattle.task.specs.Factors.{states, all_states, centre_action}
use Rattle.task.specs.Centre.{centre_meets, centre_after}
use Rattle.leaf.specs.Price.{mark}
use Rattle.layer.specs.Layer.{next_prices, applies_to, next_centre}
use Rattle.layer.specs.Layer.Laws.{next_length}
use Rattle.layer.specs.Layer.Front.{part_front, applies_front, after_list}
use Rattle.layer.specs.Board.{Board, row_on, states_on, met_on, begin_on, settled_on, applies_on}
use Rattle.layer.specs.Board.Laws.{joined_ext, states_on_lem, row_on_lem, met_on_lem, applies_on_lem}
use Rattle.mets.specs.Listed.{past, past_next, past_end, listed_gap}
use Rattle.search.specs.Node.{Node, next_node, key}
use Rattle.search.specs.Made.{Made, made_next}
use Rattle.search.specs.Small.{made_key, made_paid}
use Rattle.search.specs.Begin.{begin_prices, begin_node, begin_on_lem, settled_next, begin_length, key_begin, dominates_begin, blocked_begin}
use Rattle.search.specs.Explore.{Search, node_at, below_best, on, full, offer, turn, through, filled, expand}
use Rattle.search.specs.Explore.Laws.{Base, Grows, grows_none, grows_on}
use Rattle.search.specs.Explore.Turns.{turn_on}
use Rattle.search.specs.Hop.{Hop, Detour}
use Rattle.search.specs.Explore.Detours.{Sprung, detour_turn}
use Rattle.rows.specs.Row.{node_in}
use Rattle.keys.specs.Scan.{key_by}
use Rattle.offers.specs.declared.Run.{Run}
use Rattle.offers.specs.declared.Full.{Full}
use Rattle.begins.specs.Begin.{key_rises}
use Rattle.hops.specs.Hops.{HopOn}
use Rattle.expand.specs.Held.{Suits, expanded_of, Aside, Useful, Moved, Grown, Done}
use Rattle.offers.specs.Held.{search_of, run_of, Cached, Scans, Room, Has, Stands, settled_words, begun_node, settled_node, Alike, Offered}
use Rattle.offers.specs.Held.Offers.{went_same}
use Rattle.offers.specs.Held.Laws.{kept_length, node_at_lem, below_is, key_any}

-- ---- turn

-- the begin of the next layer, from prices with words behind them
begin_front : (t : Task) (P : List ℕ) (a : ℕ) → begin_prices t a (take (all_states t) P) ≡ begin_prices t a P
unfolding begin_prices
begin_front t P a = joined_ext t.leaves _ _ (λ i l. rw (part_front t P i l))

module _ (b : Board) (effects goals goalPairs : List ℕ) where
  -- what offering reads
  pub suits_scans : (t : Task) → Suits t b effects goals goalPairs → Scans t b.leaves b.bases goals b.factors goalPairs
  suits_scans t s =
      record {
        valid = s.valid;
        leaves_is = s.fits.leaves_is;
        bases_is = s.fits.bases_is;
        factors_is = s.fits.factors_is;
        goals_is = s.goals_is;
        goal_is = s.goal_is;
      }

  module _ (nodes : ℕ) (spot : Centre) (paid : ℕ) (old : List ℕ) (opens u a : ℕ) (T O : List ℕ) (r : Run)
      (few : nodes ≤ 4096) (room : r.count ≤ nodes) (known : a < b.actions) (inside : u < r.count) where
    -- the search before the turn
    abbrev here : Search
    here = search_of (row_on b) T O r

    module _ (t : Task) (suits : Suits t b effects goals goalPairs) (held : Has (node_in (row_on b) T u) spot paid (take (row_on b) old)) where
      -- the action is one of the task's
      known_in : a < t.actions
      known_in = omega (arith, suits.fits.actions_is)

      -- node u of the search
      node_here : node_at t here u ≡ node_in (row_on b) T u
      node_here = node_at_lem (row_on b) T O r t u inside

      -- whether its centre conditions hold there
      met_here : centre_meets (factor t) (condition t a) (node_at t here u).spot ≡ met_on b spot a
      met_here = rw (node_here, held.spot_is) (sym (met_on_lem t b suits.fits spot a))

    -- the action is no centre action
    pub moved_leaf : (get_or b.kinds a 0 ≡ 0 → ⊥) → Moved b effects goals goalPairs nodes spot paid old opens u a T O r T O (Ok r)
    unfolding turn
    moved_leaf h =
        record {
          went = went_same (row_on b) nodes T O r (Ok r) refl room;
          moved = λ t suits v held has is_key.
              let no : centre_action t a ≡ false = sym (suits.fits.kinds_centre a (known_in t suits has)) ∙ ne_eqb _ _ h in
              record { said = rw (no, turn); held = held };
        }

    module _ (k : get_or b.kinds a 0 ≡ 0) where
      -- it is one
      centred : (t : Task) → Suits t b effects goals goalPairs → Has (node_in (row_on b) T u) spot paid (take (row_on b) old) → centre_action t a ≡ true
      centred t suits has = sym (suits.fits.kinds_centre a (known_in t suits has)) ∙ eq-eqb _ _ k

      -- the node's key and the action's cost are not below best
      pub moved_above : (low : ℕ) → low ≡ min (opens + get_or b.costs a 0) mark → r.best_cost ≤ low
          → Moved b effects goals goalPairs nodes spot paid old opens u a T O r T O (Ok r)
      unfolding turn offer
      moved_above low isLow h =
          record {
            went = went_same (row_on b) nodes T O r (Ok r) refl room;
            moved = λ t suits v held has is_key. record { said = said t suits v held has is_key _ refl; held = held };
          }
        where
          said : (t : Task) (suits : Suits t b effects goals goalPairs) → Base t nodes here → Cached t (row_on b) T O r
              → (has : Has (node_in (row_on b) T u) spot paid (take (row_on b) old)) → opens ≡ key_by b.leaves b.bases paid old
              → (c : Bool) → applies_to t (node_at t here u).spot (node_at t here u).prices a ≡ c → turn t nodes u a here ≡ on here
          said t suits v held has is_key true e =
              let n : Node = node_at t here u in
              let made : Made t r.count (next_node t u n a) =
              made_next t u r.count u n a inside (known_in t suits has) (centred t suits has) e (v.made u (omega (arith, kept_length (row_on b) T O r))) in
              let small = made_key t suits.valid r.count (next_node t u n a) (omega arith) made in
              let own : key_by b.leaves b.bases paid old ≡ min (key t n) mark =
              rw (node_here t suits has, ← has.paid_is)
              (key_any t b.leaves b.bases goals b.factors goalPairs (suits_scans t suits) (node_in (row_on b) T u) old has.prices_is) in
              let above : r.best_cost ≤ key t (next_node t u n a) =
              omega (arith, own, isLow, suits.fits.costs_is a (known_in t suits has), key_rises t n a u) in
              let below : below_best t here (key t (next_node t u n a)) ≡ false =
              below_is t nodes (row_on b) T O r v held (key t (next_node t u n a)) (omega arith) ∙ le-ltb _ _ above in
              rw (centred t suits has, e, turn, offer, below)
          said t suits v held has is_key false e = rw (centred t suits has, e, turn)

      -- in some leaf no state that is reached passes
      pub moved_stuck : applies_on b spot old a ≡ false → Moved b effects goals goalPairs nodes spot paid old opens u a T O r T O (Ok r)
      unfolding turn
      moved_stuck h =
          record {
            went = went_same (row_on b) nodes T O r (Ok r) refl room;
            moved = λ t suits v held has is_key. record { said = rw (centred t suits has, stuck t suits has, turn); held = held };
          }
        where
          stuck : (t : Task) (suits : Suits t b effects goals goalPairs) (has : Has (node_in (row_on b) T u) spot paid (take (row_on b) old))
              → applies_to t (node_at t here u).spot (node_at t here u).prices a ≡ false
          stuck t suits has =
              rw (node_here t suits has, has.spot_is, has.prices_is, row_on_lem t b suits.fits)
              (applies_front t old spot a ∙ sym (applies_on_lem t b suits.fits spot old a (known_in t suits has)) ∙ h)

      module _ (able : Bool) (isAble : able ≡ met_on b spot a) where
        -- its centre conditions do not hold
        pub moved_unmet : not able ≡ true → Moved b effects goals goalPairs nodes spot paid old opens u a T O r T O (Ok r)
        unfolding turn applies_to
        moved_unmet h =
            record {
              went = went_same (row_on b) nodes T O r (Ok r) refl room;
              moved = λ t suits v held has is_key. record { said = rw (centred t suits has, met_here t suits has ∙ told_false isAble h, turn); held = held };
            }

        -- its centre conditions hold, and its layer's begin was offered
        module _ (h : not able ≡ false) (pairs next rest : List ℕ) (behind : Centre) (spent : ℕ)
            (isPairs : pairs ≡ list 32 (λ v. get_or effects (a * 32 + v) 0))
            (isBehind : behind ≡ centre_after (λ v. get_or b.factors v 0) (λ v. get_or pairs v 0) spot)
            (isNext : next ≡ begin_on b a old ++ rest)
            (isCost : spent ≡ min (paid + get_or b.costs a 0) mark)
            (its : ℕ) (isIts : opens ≡ key_by b.leaves b.bases paid old → its ≡ key_by b.leaves b.bases spent next)
            (T' O' : List ℕ) (w : Result Run Full) (o : Offered b goals goalPairs nodes T O r behind spent next u a its T' O' w) where
          module _ (t : Task) (suits : Suits t b effects goals goalPairs) (v : Base t nodes here) (held : Cached t (row_on b) T O r)
              (has : Has (node_in (row_on b) T u) spot paid (take (row_on b) old)) (is_key : opens ≡ key_by b.leaves b.bases paid old) where
            -- node u
            abbrev n : Node
            n = node_at t here u

            -- each row's node is that of a centre path
            made_here : (i : ℕ) → i < r.count → Made t i (node_in (row_on b) T i)
            made_here i l = rw (node_at_lem (row_on b) T O r t i l) at (v.made i (omega (arith, kept_length (row_on b) T O r)))

            -- the successor's centre state
            is_spot : behind ≡ next_centre t a n.spot
            is_spot = isBehind ∙ rw (isPairs, suits.fits.factors_is, suits.effects_is, node_here t suits has, has.spot_is) (after_list (factor t) (effect t a) spot (list 32 (effect t a)) (list_at 32 (effect t a)))

            -- its centre cost, which is small
            is_paid : spent ≡ n.paid + cost t a
            is_paid =
                let low = made_paid t suits.valid u (node_in (row_on b) T u) (omega arith) (made_here u inside) in
                let same : n.paid ≡ paid = ap (λ (x : Node). x.paid) (node_here t suits has) ∙ has.paid_is in
                let also : (node_in (row_on b) T u).paid ≡ paid = has.paid_is in
                omega (arith, isCost, suits.fits.costs_is a (known_in t suits has), suits.valid.fields.cost_bound a (known_in t suits has))

            -- the begin, with words behind it
            is_words : next ≡ begin_prices t a n.prices ++ rest
            is_words =
                let row : row_on b ≡ all_states t = row_on_lem t b suits.fits in
                let front : begin_prices t a n.prices ≡ begin_prices t a old =
                rw (node_here t suits has, has.prices_is, row) (begin_front t old a) in
                rw (isNext, begin_on_lem t b suits.fits a old (known_in t suits has), front)

            -- the begin alone
            is_begin : take (row_on b) next ≡ begin_prices t a n.prices
            is_begin =
                ap (λ k. take k next) (row_on_lem t b suits.fits)
                ∙ ap (take (all_states t)) is_words
                ∙ take_at (begin_prices t a n.prices) rest (all_states t) (begin_length t a n.prices)

            -- the settled layer
            is_prices : take (row_on b) (settled_words b behind next) ≡ next_prices t behind a n.prices
            is_prices =
                let s : settled_on b behind next ≡ next_prices t behind a n.prices =
                ap (settled_on b behind) is_words ∙ settled_next t b suits.fits behind a n.prices rest in
                ap (λ k. take k (settled_words b behind next)) (row_on_lem t b suits.fits)
                ∙ ap (λ xs. take (all_states t) (xs ++ drop (row_on b) next)) s
                ∙ take_at (next_prices t behind a n.prices) (drop (row_on b) next) (all_states t) (next_length t behind a n.prices)

            -- settled, it is the search's successor
            is_node : settled_node b behind spent next u a ≡ next_node t u n a
            unfolding next_node
            is_node = rw (is_prices, is_paid, is_spot)

            -- not settled, it is the search's begin
            is_early : begun_node b behind spent next u a ≡ begin_node t n a (next_node t u n a).spot u a
            unfolding next_node
            is_early = rw (is_begin, is_paid, is_spot)

            -- the begin has the successor's key, and the same nodes dominate it
            alike : Alike t (row_on b) T r.count (begin_node t n a (next_node t u n a).spot u a) (next_node t u n a)
            unfolding next_node
            alike =
                record {
                  key_same = sym (key_begin t n a _ u a u);
                  dominated_same = λ i l. sym (dominates_begin t suits.valid i (node_in (row_on b) T i) (made_here i l) u n a u a);
                }

            -- what the search says: of an action that applies, and of another
            stands : (c : Bool) → applies_to t n.spot n.prices a ≡ c → Stands t (row_on b) T' O' w (turn t nodes u a here)
            unfolding turn
            stands true e =
                let made : Made t r.count (next_node t u n a) =
                made_next t u r.count u n a inside (known_in t suits has) (centred t suits has) e (v.made u (omega (arith, kept_length (row_on b) T O r))) in
                let out = o.offered t (suits_scans t suits) v held (isIts is_key) (rw is_node made) (rw (is_early, is_node) alike) in
                record { said = rw (centred t suits has, e, turn, ← is_node) out.said; held = out.held }
            stands false e =
                let met : centre_meets (factor t) (condition t a) n.spot ≡ true = met_here t suits has ∙ told_true isAble h in
                let out = o.dropped t (suits_scans t suits) v held (isIts is_key) (rw is_early (blocked_begin t n a _ u a met e)) in
                record { said = rw (centred t suits has, e, turn) out.said; held = out.held }

          -- the turn came out as the search says
          pub moved_offered : Moved b effects goals goalPairs nodes spot paid old opens u a T O r T' O' w
          moved_offered = record { went = o.went; moved = λ t suits v held has is_key. stands t suits v held has is_key _ refl }

-- ---- expand

module _ (t : Task) (nodes u : ℕ) where
  -- behind the last action
  expand_end : (n a : ℕ) (s : Search) → n ≤ a → expand t nodes u (n - a) a s ≡ through s
  unfolding expand
  expand_end n a s h = let z : n - a ≡ 0 = omega arith in rw (z, expand)

  -- a turn more
  expand_more : (n a : ℕ) (s r : Search) → a < n → turn t nodes u a s ≡ on r → expand t nodes u (n - a) a s ≡ expand t nodes u (n - (a + 1)) (a + 1) r
  unfolding expand
  expand_more n a s r h e = let z : n - a ≡ suc (n - (a + 1)) = omega arith in rw (z, expand, e)

  -- the table is full
  expand_full : (n a : ℕ) (s : Search) → a < n → turn t nodes u a s ≡ full → expand t nodes u (n - a) a s ≡ filled s
  unfolding expand
  expand_full n a s h e = let z : n - a ≡ suc (n - (a + 1)) = omega arith in rw (z, expand, e)

-- what goes on from each number to the next goes on from the first to the last
climb : (P : ℕ → Type 0) (a n : ℕ) → a ≤ n → ((i : ℕ) → a ≤ i → i < n → P i → P (i + 1)) → P a → P n
climb P a n h step p = let z : a + (n - a) ≡ n = omega arith in rw z at (go (n - a) (omega arith))
  where
    go : (k : ℕ) → a + k ≤ n → P (a + k)
    go zero l = let z : a + 0 ≡ a = omega arith in rw z p
    go (suc k) l = let z : a + suc k ≡ a + k + 1 = omega arith in rw z (step (a + k) (omega arith) (omega arith) (go k (omega arith)))

-- ---- hops

module _ (b : Board) (effects goals goalPairs : List ℕ) (t : Task) (suits : Suits t b effects goals goalPairs) where
  -- a hop by the tables is one of the task
  hop_task : (a v x z : ℕ) → a < b.actions → HopOn b effects a v x z → Hop t a v x z
  hop_task a v x z known h =
      record {
        known = here;
        central = sym (suits.fits.kinds_centre a here) ∙ eq-eqb _ _ h.central;
        stays = λ i y l k.
            let m : i < b.leaves = omega (arith, suits.fits.leaves_is) in
            let e : states_on b i ≡ states t (suc i) = states_on_lem t b suits.fits i l in
            sym (suits.fits.moves_is i a y l here k) ∙ h.stays i y m (omega arith) ∙ add-one y;
        within = h.within;
        own = rw (← suits.fits.factors_is) h.own;
        from = rw (← suits.fits.conditions_is) h.from;
        from_named = λ e. omega (arith, h.from_value);
        into = rw (← suits.effects_is) h.into;
        into_named = λ e. omega (arith, h.into_value);
        conditions_free = λ w l d. rw (← suits.fits.conditions_is) (h.conditions_free w l d);
        effects_free = λ w l d. rw (← suits.effects_is) (h.effects_free w l d);
      }
    where
      here : a < t.actions
      here = omega (arith, suits.fits.actions_is)

  -- a detour by the tables is one of the task
  aside_detour : (T : List ℕ) (u : ℕ) (old : List ℕ) (a : ℕ) → a < b.actions → Aside b effects T u old a → Detour t (node_in (row_on b) T u).action a
  aside_detour T u old a known e =
      record {
        v = e.v;
        x = e.x;
        y = e.y;
        w = e.w;
        z = e.z;
        first = hop_task _ _ _ _ e.known e.first;
        second = hop_task _ _ _ _ known e.second;
        way = way e.way;
      }
    where
      by : ℕ
      by = (node_in (row_on b) T u).action

      costs : (d : ℕ) → d < b.actions → get_or b.costs d 0 ≡ cost t d
      costs d l = suits.fits.costs_is d (omega (arith, suits.fits.actions_is))

      way : (e.z ≡ e.x) ⊎ ((d : ℕ) × ((d < b.actions) × (HopOn b effects d e.v e.x e.z × (get_or b.costs d 0 ≤ get_or b.costs by 0 + get_or b.costs a 0))))
          → (e.z ≡ e.x) ⊎ ((d : ℕ) × (Hop t d e.v e.x e.z × (cost t d ≤ cost t by + cost t a)))
      way (inl q) = inl q
      way (inr (d, (l, (h, c)))) = inr (d, (hop_task _ _ _ _ l h, omega (arith, costs d l, costs by e.known, costs a known)))

-- what is left of the expansion from action a on is the whole, the search has grown, and node u is as it was
pub record Left (t : Task) (nodes u S : ℕ) (T₀ O₀ : List ℕ) (r₀ : Run) (T O : List ℕ) (r : Run) (a : ℕ) : Type 0 where
  pub whole : expand t nodes u t.actions 0 (search_of S T₀ O₀ r₀) ≡ expand t nodes u (t.actions - a) a (search_of S T O r)
  pub base : Base t nodes (search_of S T O r)
  pub grows : Grows t (search_of S T₀ O₀ r₀) (search_of S T O r)
  pub held : Cached t S T O r
  pub node : node_in S T u ≡ node_in S T₀ u

module _ (b : Board) (effects goals goalPairs : List ℕ) (nodes u opens : ℕ) (T₀ O₀ : List ℕ) (r₀ : Run) where
  -- the same for every task whose tables these are
  abbrev pub Along : List ℕ → List ℕ → Run → ℕ → Type 0
  Along T O r a = (t : Task) → Suits t b effects goals goalPairs → Base t nodes (search_of (row_on b) T₀ O₀ r₀) → Cached t (row_on b) T₀ O₀ r₀
      → opens ≡ min (key t (node_in (row_on b) T₀ u)) mark → (0 < u → Sprung t (search_of (row_on b) T₀ O₀ r₀) u)
      → Left t nodes u (row_on b) T₀ O₀ r₀ T O r a

  -- where the loop stands before action a
  pub record Passed (T O : List ℕ) (r : Run) (a : ℕ) : Type 0 where
    pub inside : a ≤ b.actions
    pub room : Room (row_on b) nodes T O r
    pub table_kept : length T ≡ length T₀
    pub more : r₀.count ≤ r.count
    pub begun_is : r.begun ≡ r₀.begun
    pub along : Along T O r a

  -- before the first action
  pub passed_none : Room (row_on b) nodes T₀ O₀ r₀ → Passed T₀ O₀ r₀ 0
  passed_none room =
      record {
        inside = omega arith;
        room = room;
        table_kept = refl;
        more = omega arith;
        begun_is = refl;
        along = λ t suits v held is_key sprung.
            let z : t.actions - 0 ≡ t.actions = omega arith in
            record { whole = rw z; base = v; grows = grows_none t (search_of (row_on b) T₀ O₀ r₀); held = held; node = refl };
      }

  -- the turn of action a, from there on
  module _ (spot : Centre) (paid : ℕ) (old : List ℕ) (has : Has (node_in (row_on b) T₀ u) spot paid (take (row_on b) old)) (within : u < r₀.count)
      (T O : List ℕ) (r : Run) (a : ℕ) (known : a < b.actions) (l : Passed T O r a) (T' O' : List ℕ) (w : Result Run Full)
      (m : Moved b effects goals goalPairs nodes spot paid old opens u a T O r T' O' w) where
    -- for a task: what is left before the turn, and what it gave
    module _ (t : Task) (suits : Suits t b effects goals goalPairs) (v : Base t nodes (search_of (row_on b) T₀ O₀ r₀)) (held : Cached t (row_on b) T₀ O₀ r₀)
        (is_key : opens ≡ min (key t (node_in (row_on b) T₀ u)) mark) (sprung : 0 < u → Sprung t (search_of (row_on b) T₀ O₀ r₀) u) where
      before : Left t nodes u (row_on b) T₀ O₀ r₀ T O r a
      before = l.along t suits v held is_key sprung

      gave : Stands t (row_on b) T' O' w (turn t nodes u a (search_of (row_on b) T O r))
      gave = m.moved t suits before.base before.held (rw before.node has) own
        where
          -- the node's key by tables
          own : opens ≡ key_by b.leaves b.bases paid old
          own =
              is_key
              ∙ sym (rw (← has.paid_is)
              (key_any t b.leaves b.bases goals b.factors goalPairs (suits_scans b effects goals goalPairs t suits) (node_in (row_on b) T₀ u) old has.prices_is))

      one : a < t.actions
      one = omega (arith, suits.fits.actions_is)

      -- what is left behind it
      behind : is_err w ≡ false → Left t nodes u (row_on b) T₀ O₀ r₀ T' O' (run_of w) (a + 1)
      behind e =
          let here = search_of (row_on b) T O r in
          let inside : u < r.count = omega (arith, l.more) in
          let kept : u < length here.kept = omega (arith, kept_length (row_on b) T O r) in
          let q : turn t nodes u a here ≡ on (search_of (row_on b) T' O' (run_of w)) = rw e at gave.said in
          let (z, _) = turn_on t nodes u a here before.base kept one q in
          record {
            whole = before.whole ∙ expand_more t nodes u t.actions a _ _ one q;
            base = z.base;
            grows = grows_on t before.grows z.grows;
            held = gave.held;
            node =
                sym (node_at_lem (row_on b) T' O' (run_of w) t u (omega (arith, m.went.more)))
                ∙ z.grows.node u kept
                ∙ node_at_lem (row_on b) T O r t u inside
                ∙ before.node;
          }

      -- the table was full
      ended : IsErr w
          → (expand t nodes u t.actions 0 (search_of (row_on b) T₀ O₀ r₀) ≡ expanded_of w (search_of (row_on b) T' O' (run_of w)))
          × Cached t (row_on b) T' O' (run_of w)
      ended e = (
        before.whole
            ∙ expand_full t nodes u t.actions a (search_of (row_on b) T O r) one (rw e at gave.said)
            ∙ rw (e, m.went.table_still e, m.went.scan_still e, m.went.run_still e),
        gave.held,
      )

    -- a turn more
    pub passed_more : is_err w ≡ false → length T' ≡ length T → length O' ≡ 17696 → Passed T' O' (run_of w) (a + 1)
    passed_more e p q =
        record {
          inside = omega arith;
          room =
              record {
                few_states = l.room.few_states;
                few_nodes = l.room.few_nodes;
                table_long = omega (arith, l.room.table_long);
                scan_long = q;
                count_few = m.went.room;
                chained = m.went.chained l.room.chained;
              };
          table_kept = p ∙ l.table_kept;
          more = omega (arith, l.more, m.went.more);
          begun_is = m.went.begun_is ∙ l.begun_is;
          along = λ t suits v held is_key sprung. behind t suits v held is_key sprung e;
        }

    -- the table was full at it
    pub passed_full : IsErr w
        → Grown b nodes r₀ T' O' w × Done b effects goals goalPairs nodes u opens T₀ O₀ r₀ T' O' w
    passed_full e = (
      (omega (arith, l.more, m.went.more), m.went.room, m.went.begun_is ∙ l.begun_is, m.went.chained l.room.chained),
      λ t suits. rw (← row_on_lem t b suits.fits) (λ v held is_key sprung. ended t suits v held is_key sprung e),
    )

  -- actions whose centre conditions do not hold are passed by
  module _ (spot : Centre) (paid : ℕ) (old : List ℕ) (has : Has (node_in (row_on b) T₀ u) spot paid (take (row_on b) old)) (within : u < r₀.count)
      (T O : List ℕ) (r : Run) where
    passed_unmet : (a : ℕ) → a < b.actions → met_on b spot a ≡ false → Passed T O r a → Passed T O r (a + 1)
    passed_unmet a known e l = passed_more spot paid old has within T O r a known l T O (Ok r) (moved (ℕ_discrete (get_or b.kinds a 0) 0)) refl refl l.room.scan_long
      where
        few : nodes ≤ 4096
        few = l.room.few_nodes

        inside : u < r.count
        inside = omega (arith, l.more)

        moved : Dec (get_or b.kinds a 0 ≡ 0) → Moved b effects goals goalPairs nodes spot paid old opens u a T O r T O (Ok r)
        moved (yes k) = moved_unmet b effects goals goalPairs nodes spot paid old opens u a T O r few l.room.count_few known inside k false (sym e) refl
        moved (no k) = moved_leaf b effects goals goalPairs nodes spot paid old opens u a T O r few l.room.count_few known inside k

    -- a detour leaves the search as it is
    passed_aside : (a : ℕ) → a < b.actions → Aside b effects T₀ u old a → Passed T O r a → Passed T O r (a + 1)
    passed_aside a known e l =
        record {
          inside = omega arith;
          room = l.room;
          table_kept = l.table_kept;
          more = l.more;
          begun_is = l.begun_is;
          along = λ t suits v held is_key sprung.
              let x = l.along t suits v held is_key sprung in
              record {
                whole = x.whole ∙ expand_more t nodes u t.actions a _ _ (omega (arith, suits.fits.actions_is)) (aside_turn t suits (sprung (omega (arith, e.lower))) x.grows);
                base = x.base;
                grows = x.grows;
                held = x.held;
                node = x.node;
              };
        }
      where
        aside_turn : (t : Task) → Suits t b effects goals goalPairs → Sprung t (search_of (row_on b) T₀ O₀ r₀) u
            → Grows t (search_of (row_on b) T₀ O₀ r₀) (search_of (row_on b) T O r) → turn t nodes u a (search_of (row_on b) T O r) ≡ on (search_of (row_on b) T O r)
        aside_turn t suits sprung grows =
            let s₀ = search_of (row_on b) T₀ O₀ r₀ in
            let own : node_at t s₀ u ≡ node_in (row_on b) T₀ u = node_at_lem (row_on b) T₀ O₀ r₀ t u within in
            let up : node_at t s₀ (node_in (row_on b) T₀ u).parent ≡ node_in (row_on b) T₀ (node_in (row_on b) T₀ u).parent =
            node_at_lem (row_on b) T₀ O₀ r₀ t (node_in (row_on b) T₀ u).parent (omega (arith, e.lower)) in
            let prices : (node_at t s₀ u).prices ≡ (node_at t s₀ (node_at t s₀ u).parent).prices = rw (own, up, e.alike) has.prices_is in
            detour_turn t suits.valid nodes u s₀ (search_of (row_on b) T O r) grows (omega (arith, kept_length (row_on b) T₀ O₀ r₀)) sprung prices a
            (rw own (aside_detour b effects goals goalPairs t suits T₀ u old a known e))

    passed_skip : (a n : ℕ) → a ≤ n → n ≤ b.actions → ((i : ℕ) → a ≤ i → i < n → (met_on b spot i ≡ false) ⊎ Aside b effects T₀ u old i) → Passed T O r a
        → Passed T O r n
    passed_skip a n h m e l = climb (Passed T O r) a n h (λ i p q. one i (lt_of_lt_of_le q m) (e i p q)) l
      where
        one : (i : ℕ) → i < b.actions → (met_on b spot i ≡ false) ⊎ Aside b effects T₀ u old i → Passed T O r i → Passed T O r (i + 1)
        one i k (inl f) = passed_unmet i k f
        one i k (inr f) = passed_aside i k f

    -- where all actions are listed that need a turn: up to the next of them, and behind the last
    module _ (acts : List ℕ) (useful : Useful b effects spot T₀ u old (length acts) (λ j. get_or acts j 0)) where
      pub passed_next : (j : ℕ) → j < length acts → Passed T O r (past (λ i. get_or acts i 0) j) → Passed T O r (get_or acts j 0)
      passed_next j l =
          let listed = useful.listed in
          let inside = listed.inside j l in
          passed_skip _ _ (past_next _ _ _ _ listed j l) (omega (arith, inside))
          (λ i p q. useful.out i (omega (arith, inside)) (listed_gap _ _ _ _ listed j i (omega arith) (omega (arith, inside)) p (λ _. q)))

      pub passed_last : Passed T O r (past (λ i. get_or acts i 0) (length acts)) → Passed T O r b.actions
      passed_last =
          let listed = useful.listed in
          passed_skip _ _ (past_end _ _ _ _ listed (length acts) (omega arith)) (omega arith)
          (λ i p q. useful.out i q (listed_gap _ _ _ _ listed (length acts) i (omega arith) q p (λ h. absurd (omega (arith, h)))))

  -- behind the last action
  pub passed_all : (T O : List ℕ) (r : Run) (a : ℕ) → b.actions ≤ a → Passed T O r a
      → Grown b nodes r₀ T O (Ok r) × Done b effects goals goalPairs nodes u opens T₀ O₀ r₀ T O (Ok r)
  passed_all T O r a end l = (
    (l.more, l.room.count_few, l.begun_is, l.room.chained),
    λ t suits. rw (← row_on_lem t b suits.fits) (λ v held is_key sprung. last t suits (l.along t suits v held is_key sprung)),
  )
    where
      last : (t : Task) → Suits t b effects goals goalPairs → Left t nodes u (row_on b) T₀ O₀ r₀ T O r a
          → (expand t nodes u t.actions 0 (search_of (row_on b) T₀ O₀ r₀) ≡ through (search_of (row_on b) T O r)) × Cached t (row_on b) T O r
      last t suits x = (x.whole ∙ expand_end t nodes u t.actions a _ (omega (arith, suits.fits.actions_is)), x.held)
