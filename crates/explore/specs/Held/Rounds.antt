-- Rounds of the search that a table and its open keys hold: the choice, the begin of an expansion, what is left of the search. Assumes nothing.
use Rattle.std.specs.Prelude.{◌≡◌, ◌⊎◌, Bool, true, false, cond, ◌&&◌, List, eqb, length, set, Result, Ok, Err, is_err, IsErr}
use Rattle.std.proofs.Math.Path.{refl, ap}
use Rattle.std.proofs.Common.{sym, ◌∙◌, inl, inr, length-set, get_or-set_same, get_or-set_other, ext_get_or}
use Rattle.std.proofs.Math.Bool.{and-false}
use Prim.Native.Nat.{ℕ, zero, suc, ◌+◌, ◌-◌, ◌*◌, ◌≤◌, ◌<◌, min}
use native.Mathlib.Omega.{arith}
use Rattle.std.proofs.Math.Decide.{ℕ_discrete}
use Rattle.std.proofs.Math.Dec.{ltb}
use Rattle.std.proofs.Math.ListN.{get_or}
use borrow.Author.Tests.{ltb-true, lt-ltb, le-ltb, eq-eqb, ne_eqb}
use Rattle.loops.specs.Count.Laws.{list_length}
use Rattle.task.specs.declared.Task.{Task}
use Rattle.task.specs.Valid.{Valid}
use Rattle.leaf.specs.Price.{mark}
use Rattle.search.specs.Node.{key}
use Rattle.search.specs.Node.Laws.{list_entry}
use Rattle.search.specs.Small.{made_key}
use Rattle.search.specs.Explore.{Search, Reason, finished, tableFull, budgetSpent, Stopped, node_at, keep, start, waits, choose, begin, through, filled, expand, explore, explored}
use Rattle.search.specs.Explore.Laws.{ones, ones_le, flag_in, Base}
use Rattle.search.specs.Explore.Rounds.{Holds, holds_start, start_ones, begin_base, round_ones, round_holds}
use Rattle.search.specs.Explore.Turns.{waits_out, choose_some}
use Rattle.search.specs.Plan.Real.{Rooted}
use Rattle.search.specs.Plan.Found.{start_rooted, round_through}
use Rattle.search.specs.Explore.Detours.{Sprung, sprung_begin}
use Rattle.rows.specs.Row.{node_in, nodes_in}
use Rattle.blocks.specs.Block.{retired_to}
use Rattle.blocks.specs.Block.Laws.{retired_length, retired_key}
use Rattle.nodes.specs.Chain.{Chained}
use Rattle.nodes.specs.Chain.Laws.{chained_retire}
use Rattle.blocks.specs.Choice.{key_of, choose_by}
use Rattle.offers.specs.declared.Run.{Run}
use Rattle.offers.specs.declared.Full.{Full}
use Rattle.explore.specs.declared.Stop.{Stop}
use Rattle.expand.specs.Held.{expanded_of}
use Rattle.explore.specs.Held.{stopped_of}
use Rattle.offers.specs.Held.{best_number, search_of, run_of, Cached, Room}
use Rattle.offers.specs.Held.Laws.{kept_length, node_at_lem, below_is, best_cap}

-- ---- the flags

module _ (S : ℕ) (T O : List ℕ) (r : Run) where
  -- there are as many flags as nodes
  done_length : length (search_of S T O r).done ≡ r.count
  unfolding search_of
  done_length = list_length r.count _

  -- node u's flag, whatever stands for none
  done_at : (u d : ℕ) → u < r.count → get_or (search_of S T O r).done u d ≡ cond (eqb (get_or O u 0) mark) 1 0
  unfolding search_of
  done_at u d l = list_entry r.count _ u d l

  -- as many expansions have begun as the run says
  begun_is : (search_of S T O r).begun ≡ r.begun
  unfolding search_of
  begun_is = refl

-- ---- the choice

-- a test's choice, written in two ways
cond_elim : (b : Bool) (x y : ℕ) → cond b x y ≡ (elim b [ true ↦ x | false ↦ y ])
cond_elim true x y = refl
cond_elim false x y = refl

-- what is less than y is less than z too
ltb_both : (x y z : ℕ) → y < z → ltb x y ≡ (ltb x z && ltb x y)
ltb_both x y z l = go (ltb x y) refl
  where
    go : (b : Bool) → ltb x y ≡ b → b ≡ (ltb x z && b)
    go true e = rw (lt-ltb x z (omega (arith, ltb-true x y e)))
    go false e = sym (and-false (ltb x z))

-- the choice among i nodes is one of them
pub choice_in : (bound : ℕ) (O : List ℕ) (i : ℕ) → choose_by bound O i ≤ i
unfolding choose_by
choice_in bound O zero = omega arith
choice_in bound O (suc i) = go (ltb (get_or O i 0) (key_of bound O (choose_by bound O i))) (choice_in bound O i)
  where
    go : (b : Bool) → choose_by bound O i ≤ i → cond b (suc i) (choose_by bound O i) ≤ suc i
    go true h = omega arith
    go false h = omega arith

module _ (t : Task) (ok : Valid t) (nodes : ℕ) (few : nodes ≤ 4096) (S : ℕ) (T O : List ℕ) (r : Run)
    (b : Base t nodes (search_of S T O r)) (c : Cached t S T O r) where
  -- the search
  abbrev s : Search
  s = search_of S T O r

  -- a node's key is below the mark
  key_small : (u : ℕ) → u < r.count → key t (node_in S T u) < mark
  key_small u l =
      let m = b.made u (rw kept_length l) in
      omega (arith, made_key t ok u (node_in S T u) (omega (arith, b.room, kept_length S T O r)) (rw (node_at_lem S T O r t u l) at m))

  -- best's cost is not above the mark
  cap : r.best_cost ≤ mark
  cap = best_cap t nodes S T O r b c ok few

  -- a node waits just where its open key is below best's cost
  waits_is : (u : ℕ) → u < r.count → waits t s u ≡ ltb (get_or O u 0) r.best_cost
  unfolding waits
  waits_is u l = go (c.keys u l)
    where
      go : (get_or O u 0 ≡ mark) ⊎ (get_or O u 0 ≡ key t (node_in S T u)) → waits t s u ≡ ltb (get_or O u 0) r.best_cost
      go (inl e) =
          let d : get_or s.done u 1 ≡ 1 = done_at S T O r u 1 l ∙ rw e in
          rw (d, e, le-ltb mark r.best_cost cap)
      go (inr e) =
          let d : get_or s.done u 1 ≡ 0 = done_at S T O r u 1 l ∙ rw (e, ne_eqb (key t (node_in S T u)) mark (λ q. omega (arith, key_small u l))) in
          rw (d, e, node_at_lem S T O r t u l, below_is t nodes S T O r b c (key t (node_in S T u)) (key_small u l))

  -- a node that waits has its own key, below that cost
  waiting : (u : ℕ) → waits t s u ≡ true → (u < r.count) × (get_or O u 0 ≡ key t (node_in S T u)) × (get_or O u 0 < r.best_cost)
  waiting u w =
      let l : u < r.count = omega (arith, flag_in s.done u (waits_out t s u w), done_length S T O r) in
      let h = ltb-true (get_or O u 0) _ (sym (waits_is u l) ∙ w) in
      (l, own h (c.keys u l), h)
    where
      own : get_or O u 0 < r.best_cost → (get_or O u 0 ≡ mark) ⊎ (get_or O u 0 ≡ key t (node_in S T u)) → get_or O u 0 ≡ key t (node_in S T u)
      own h (inl e) = absurd (omega (arith, cap))
      own h (inr e) = e

  -- the open keys tell whether node i waits with a key less than that of u, which waits
  less_is : (i u : ℕ) → i < r.count → waits t s u ≡ true
      → ltb (get_or O i 0) (get_or O u 0) ≡ (waits t s i && ltb (key t (node_at t s i)) (key t (node_at t s u)))
  less_is i u l w = let (m, e, h) = waiting u w in go m e h (c.keys i l)
    where
      go : u < r.count → get_or O u 0 ≡ key t (node_in S T u) → get_or O u 0 < r.best_cost → (get_or O i 0 ≡ mark) ⊎ (get_or O i 0 ≡ key t (node_in S T i))
          → ltb (get_or O i 0) (get_or O u 0) ≡ (waits t s i && ltb (key t (node_at t s i)) (key t (node_at t s u)))
      go m e h (inl f) = rw (waits_is i l, f, le-ltb mark r.best_cost cap) (le-ltb mark (get_or O u 0) (omega (arith, cap)))
      go m e h (inr f) =
          rw (waits_is i l, node_at_lem S T O r t i l, node_at_lem S T O r t u m, ← f, ← e) (ltb_both (get_or O i 0) (get_or O u 0) r.best_cost h)

  -- the choice by the open keys is the search's, among the first i nodes
  choose_to : (i : ℕ) → i ≤ r.count → choose_by r.best_cost O i ≡ choose t s i
  unfolding choose_by choose key_of
  choose_to zero l = refl
  choose_to (suc i) l = go (choose t s i) refl (choose_to i (omega arith))
    where
      go : (x : ℕ) → choose t s i ≡ x → choose_by r.best_cost O i ≡ choose t s i → choose_by r.best_cost O (suc i) ≡ choose t s (suc i)
      go zero e h = rw (h, e, waits_is i l) (cond_elim (ltb (get_or O i 0) r.best_cost) (suc i) 0)
      go (suc u) e h =
          rw (h, e, less_is i u l (choose_some t s i u e))
          (cond_elim (waits t s i && ltb (key t (node_at t s i)) (key t (node_at t s u))) (suc i) (suc u))

  -- the choice by the open keys is the search's
  pub choose_is : choose_by r.best_cost O r.count ≡ choose t s (length s.kept)
  choose_is = choose_to r.count (omega arith) ∙ ap (choose t s) (sym (kept_length S T O r))

-- ---- the begin of an expansion

-- the run with one expansion more begun
abbrev pub begun : Run → Run
begun r = record { count = r.count; begun = r.begun + 1; best = r.best; best_cost = r.best_cost }

-- P has the open keys of O, but for node u's, which is the mark
module _ (S : ℕ) (T O P : List ℕ) (r : Run) (u : ℕ) (long : u < length O) (keyed : (v : ℕ) → v < r.count → get_or P v 0 ≡ get_or (set O u mark) v 0) where
  -- the mark as open key: node u's expansion has begun
  pub begin_is : search_of S T P (begun r) ≡ begin u (search_of S T O r)
  unfolding search_of begin
  begin_is = ap {B = Search} (λ ds. record { kept = nodes_in S T r.count; done = ds; begun = r.begun + 1; best = best_number r.best }) flags
    where
      new : Search
      new = search_of S T P (begun r)

      old : Search
      old = search_of S T O r

      flag : (v : ℕ) → v < r.count → Dec (v ≡ u) → get_or new.done v 0 ≡ get_or (set old.done u 1) v 0
      flag v l (yes e) =
          let m : u < length old.done = omega (arith, done_length S T O r) in
          rw (done_at S T P (begun r) v 0 l, keyed v l, e, get_or-set_same O u mark 0 long) (sym (get_or-set_same old.done u 1 0 m))
      flag v l (no d) =
          done_at S T P (begun r) v 0 l
          ∙ rw (keyed v l, get_or-set_other O u v mark 0 d) (sym (get_or-set_other old.done u v 1 0 d ∙ done_at S T O r v 0 l))

      flags : new.done ≡ set old.done u 1
      flags =
          let e = done_length S T P (begun r) in
          ext_get_or 0 new.done (set old.done u 1) (omega (arith, e, length-set old.done u 1, done_length S T O r))
          (λ v l. flag v (omega (arith, e)) (ℕ_discrete v u))

  -- each open key is its node's key still
  pub begin_cached : (t : Task) → Cached t S T O r → Cached t S T P (begun r)
  begin_cached t c = record { keys = λ v l. go v l (ℕ_discrete v u); none = c.none; some = c.some }
    where
      go : (v : ℕ) → v < r.count → Dec (v ≡ u) → (get_or P v 0 ≡ mark) ⊎ (get_or P v 0 ≡ key t (node_in S T v))
      go v l (yes e) = inl (keyed v l ∙ rw e (get_or-set_same O u mark 0 long))
      go v l (no d) = rw (keyed v l, get_or-set_other O u v mark 0 d) (c.keys v l)

-- P is O after node u was retired
module _ (S nodes : ℕ) (T O P : List ℕ) (r : Run) (u : ℕ) (room : Room S nodes T O r) (inside : u < r.count) (isRetired : P ≡ retired_to O u r.count) where
  -- of the open keys only the node's changed, to the mark
  pub retired_keyed : (v : ℕ) → v < r.count → get_or P v 0 ≡ get_or (set O u mark) v 0
  retired_keyed v l = rw isRetired (retired_key O u r.count v (omega (arith, room.count_few, room.few_nodes)))

  -- there is room for the expansion
  pub retired_room : Room S nodes T P (begun r)
  retired_room =
      record {
        few_states = room.few_states;
        few_nodes = room.few_nodes;
        table_long = room.table_long;
        scan_long = rw isRetired (retired_length O u r.count ∙ room.scan_long);
        count_few = room.count_few;
        chained = rw isRetired (chained_retire S T O r.count u (omega (arith, room.count_few, room.few_nodes)) inside room.chained);
      }

-- ---- what is left of the search

-- what holds before each round: the search's own invariant, each node was made from one whose expansion has begun, an expansion begun for each flag, the nodes
-- are chained, and what is left of the search is the whole
pub record Ahead (t : Task) (nodes budget S : ℕ) (T O : List ℕ) (r : Run) : Type 0 where
  pub holds : Holds t nodes (search_of S T O r)
  pub rooted : Rooted t (search_of S T O r)
  pub ones_is : r.begun ≡ ones (search_of S T O r).done
  pub cached : Cached t S T O r
  pub chained : Chained S T O r.count
  pub rest : explore t nodes budget (suc nodes - r.begun) (search_of S T O r) ≡ explored t nodes budget

-- a search that stops
abbrev pub stopped : Reason → ℕ → List ℕ → List ℕ → Run → Stopped
stopped why S T O r = record { reason = why; search = search_of S T O r }

-- no expansion has begun at the start
start_begun : (t : Task) → (start t).begun ≡ 0
unfolding start keep
start_begun t = refl

-- the whole is left at the start
pub ahead_start : (t : Task) (nodes budget S : ℕ) (T O : List ℕ) (r : Run) → 1 ≤ nodes → search_of S T O r ≡ start t → Cached t S T O r
    → Chained S T O r.count → Ahead t nodes budget S T O r
unfolding explored
ahead_start t nodes budget S T O r h e c chained =
    let z : r.begun ≡ 0 = sym (begun_is S T O r) ∙ ap (λ (s : Search). s.begun) e ∙ start_begun t in
    record {
      holds = rw e (holds_start t nodes h);
      rooted = rw e (start_rooted t);
      ones_is = rw (e, z) (sym (start_ones t nodes));
      cached = c;
      chained = chained;
      rest = rw (e, z) (ap (λ fuel. explore t nodes budget fuel (start t)) (omega arith));
    }

module _ (t : Task) (ok : Valid t) (nodes : ℕ) (few : nodes ≤ 4096) (budget S : ℕ) (T O : List ℕ) (r : Run) (a : Ahead t nodes budget S T O r) where
  -- no more expansions have begun than there are nodes
  pub ahead_begun : r.begun ≤ nodes
  ahead_begun = omega (arith, a.ones_is, ones_le (search_of S T O r).done, a.holds.base.even, a.holds.base.room)

  -- there are no more nodes than the table has room for
  pub ahead_count : r.count ≤ nodes
  ahead_count = omega (arith, kept_length S T O r, a.holds.base.room)

  -- the table has room for the nodes and one row more
  pub ahead_room : S ≤ 1024 → (nodes + 1) * (40 + S) ≤ length T → length O ≡ 17696 → Room S nodes T O r
  ahead_room small wide long = record { few_states = small; few_nodes = few; table_long = wide; scan_long = long; count_few = ahead_count; chained = a.chained }

  -- one round more is left
  ahead_more : explore t nodes budget (suc (nodes - r.begun)) (search_of S T O r) ≡ explored t nodes budget
  ahead_more = let e : suc nodes - r.begun ≡ suc (nodes - r.begun) = omega (arith, ahead_begun) in rw e at a.rest

  -- what the open keys choose is the search's choice
  chosen : {x : ℕ} → choose_by r.best_cost O r.count ≡ x → choose t (search_of S T O r) (length (search_of S T O r).kept) ≡ x
  chosen e = sym (choose_is t ok nodes few S T O r a.holds.base a.cached) ∙ e

  -- no node is chosen
  pub ahead_finished : choose_by r.best_cost O r.count ≡ 0 → (stopped finished S T O r ≡ explored t nodes budget) × Cached t S T O r
  unfolding explore
  ahead_finished e = let p = chosen e in (rw (p, explore) at ahead_more, a.cached)

  module _ (u : ℕ) (e : choose_by r.best_cost O r.count ≡ suc u) where
    -- the budget is used up
    pub ahead_spent : r.begun ≡ budget → (stopped budgetSpent S T O r ≡ explored t nodes budget) × Cached t S T O r
    unfolding explore
    ahead_spent q =
        let p = chosen e in
        let z = eq-eqb (search_of S T O r).begun budget (begun_is S T O r ∙ q) in
        (rw (p, z, explore) at ahead_more, a.cached)

    -- the node chosen waits
    waits_chosen : waits t (search_of S T O r) u ≡ true
    waits_chosen = choose_some t (search_of S T O r) (length (search_of S T O r).kept) u (chosen e)

    -- it is one of the nodes
    ahead_in : u < r.count
    ahead_in = (waiting t ok nodes few S T O r a.holds.base a.cached u waits_chosen).0

    -- P has the open keys of O, but for the chosen node's, which is the mark
    module _ (long : r.count ≤ length O) (d : r.begun ≡ budget → ⊥) (P : List ℕ)
        (keyed : (v : ℕ) → v < r.count → get_or P v 0 ≡ get_or (set O u mark) v 0) where
      -- its expansion begins
      begins : search_of S T P (begun r) ≡ begin u (search_of S T O r)
      begins = begin_is S T O P r u (omega (arith, ahead_in)) keyed

      -- the budget is not used up
      not_spent : eqb (search_of S T O r).begun budget ≡ false
      not_spent = ne_eqb (search_of S T O r).begun budget (λ q. d (sym (begun_is S T O r) ∙ q))

      module _ (w : Result Run Full) (T' O' : List ℕ)
          (h : Base t nodes (search_of S T P (begun r)) → Cached t S T P (begun r) → get_or O u 0 ≡ min (key t (node_in S T u)) mark
          → (0 < u → Sprung t (search_of S T P (begun r)) u)
          → (expand t nodes u t.actions 0 (search_of S T P (begun r)) ≡ expanded_of w (search_of S T' O' (run_of w)))
          × Cached t S T' O' (run_of w)) where
        -- the expansion by the table is that of the round
        expands : (expand t nodes u t.actions 0 (begin u (search_of S T O r)) ≡ expanded_of w (search_of S T' O' (run_of w)))
            × Cached t S T' O' (run_of w)
        expands =
            let v : Base t nodes (search_of S T P (begun r)) = rw begins (begin_base t nodes u (search_of S T O r) a.holds.base) in
            let waited = waiting t ok nodes few S T O r a.holds.base a.cached u waits_chosen in
            let own : get_or O u 0 ≡ min (key t (node_in S T u)) mark =
            omega (arith, waited.1, waited.2, cap t ok nodes few S T O r a.holds.base a.cached) in
            let sprung : 0 < u → Sprung t (search_of S T P (begun r)) u =
            λ l. rw begins (sprung_begin t nodes (search_of S T O r) u a.holds a.rooted l (omega (arith, ahead_in, kept_length S T O r))) in
            let (x, c) = h v (begin_cached S T O P r u (omega (arith, ahead_in)) keyed t a.cached) own sprung in
            (ap (expand t nodes u t.actions 0) (sym begins) ∙ x, c)

        -- it found the table full
        pub ahead_full : IsErr w → (stopped tableFull S T' O' (run_of w) ≡ explored t nodes budget) × Cached t S T' O' (run_of w)
        unfolding explore
        ahead_full f =
            let p = chosen e in
            let x : expand t nodes u t.actions 0 (begin u (search_of S T O r)) ≡ filled (search_of S T' O' (run_of w)) = expands.0 ∙ rw f in
            (rw (p, not_spent, x, explore) at ahead_more, expands.1)

        -- it went through all actions
        pub ahead_on : is_err w ≡ false → (run_of w).begun ≡ r.begun + 1 → Chained S T' O' (run_of w).count → Ahead t nodes budget S T' O' (run_of w)
        unfolding explore
        ahead_on f n chained =
            let p = chosen e in
            let x : expand t nodes u t.actions 0 (begin u (search_of S T O r)) ≡ through (search_of S T' O' (run_of w)) = expands.0 ∙ rw f in
            let m : nodes - r.begun ≡ suc nodes - (run_of w).begun = omega arith in
            record {
              holds = round_holds t nodes u (search_of S T O r) (search_of S T' O' (run_of w)) a.holds waits_chosen x;
              rooted = round_through t nodes (search_of S T O r) (search_of S T' O' (run_of w)) u a.rooted p x;
              ones_is = omega (arith, round_ones t nodes u (search_of S T O r) (search_of S T' O' (run_of w)) a.holds waits_chosen x, a.ones_is);
              cached = expands.1;
              chained = chained;
              rest = rw (p, not_spent, x, explore, m) at ahead_more;
            }

-- ---- the loop

-- what a round leaves, where b expansions had begun: the search stops as it has to, or the rest of it is ahead
abbrev pub Rounded : Task → ℕ → ℕ → ℕ → ℕ → List ℕ → List ℕ → Result Run Stop → Type 0
Rounded t nodes budget b S T O (Err r) = (stopped_of S T O r ≡ explored t nodes budget) × Cached t S T O r.run
Rounded t nodes budget b S T O (Ok r) = Ahead t nodes budget S T O r × (r.begun ≡ b + 1)
