-- The search that the exploration stops with is real: each kept node was made from a node of a lower number, whose expansion has begun. So its best
-- node has a plan. Assumes nothing.
use Rattle.std.proofs.Math.Path.{◌≡◌, refl}
use Rattle.std.proofs.Common.{sym, ◌∙◌}
use Rattle.std.specs.Prelude.{◌≢◌, ◌⊎◌, Bool, set}
use Rattle.std.proofs.Math.Logic.{inl, inr}
use Rattle.std.proofs.Math.Bool.{true, false}
use mathlib.Core.List.{List, [], ◌∷◌}
use Prim.Native.Nat.{ℕ, zero, suc, ◌+◌, ◌≤◌, ◌<◌}
use native.Mathlib.Omega.{arith}
use Rattle.std.proofs.Math.Dec.{ltb, eqb}
use Rattle.std.proofs.Math.ListN.{length, get_or, length-append, get_or-append}
use Rattle.std.proofs.Math.Seq.{get_or_at, get_or-set_same}
use Rattle.loops.specs.Count.{any}
use Rattle.loops.specs.Count.Laws.{below_cases}
use Rattle.task.specs.declared.Task.{Task}
use Rattle.task.specs.Meaning.{reaches, cost_of}
use Rattle.task.specs.Factors.{centre_action}
use Rattle.task.specs.Valid.{Valid}
use Rattle.leaf.specs.Settle.Steps.{set_cases}
use Rattle.layer.specs.Layer.{applies_to}
use Rattle.search.specs.Node.{Node, first_node, next_node, key, goal_cost, dominates}
use Rattle.search.specs.Explore.{
  Search,
  Turn,
  on,
  full,
  Expanded,
  through,
  filled,
  node_at,
  below_best,
  keep,
  start,
  waits,
  choose,
  offer,
  turn,
  expand,
  begin,
  explore,
  explored,
}
use Rattle.search.specs.Explore.Laws.{flag_in, flag_snoc}
use Rattle.search.specs.Explore.Turns.{waits_out, choose_some}
use Rattle.search.specs.Explore.Rounds.{explored_base}
use Rattle.search.specs.Plan.{plan_of}
use Rattle.search.specs.Plan.Real.{Real, Rooted}
use Rattle.search.specs.Plan.Reaches.{plan_reaches}

-- node n, under number v, was made from a node of a lower number, whose expansion has begun, by a centre action that applies to it
record Born (t : Task) (s : Search) (v : ℕ) (n : Node) : Type 0 where
  lower : n.parent < v
  known : n.action < t.actions
  central : centre_action t n.action ≡ true
  applied : applies_to t (node_at t s n.parent).spot (node_at t s n.parent).prices n.action ≡ true
  made : n ≡ next_node t n.parent (node_at t s n.parent) n.action
  opened : get_or s.done n.parent 0 ≢ 0

module _ (t : Task) where
  born : (s : Search) → Rooted t s → (u : ℕ) → suc u < length s.kept → Born t s (suc u) (node_at t s (suc u))
  born s r u l = record {
    lower = r.real.lower u l;
    known = r.real.known u l;
    central = r.real.central u l;
    applied = r.real.applied u l;
    made = r.real.made u l;
    opened = r.opened u l;
  }

  rooted : (s : Search) → 0 < length s.kept → node_at t s 0 ≡ first_node t → ((u : ℕ) → suc u < length s.kept → Born t s (suc u) (node_at t s (suc u)))
      → Rooted t s
  rooted s some first b = record {
    real = record {
      some = some;
      first = first;
      lower = λ u l. (b u l).lower;
      known = λ u l. (b u l).known;
      central = λ u l. (b u l).central;
      applied = λ u l. (b u l).applied;
      made = λ u l. (b u l).made;
    };
    opened = λ u l. (b u l).opened;
  }

  -- ---- keep

  kept_old : (s : Search) (n : Node) (v : ℕ) → v < length s.kept → node_at t (keep t s n) v ≡ node_at t s v
  unfolding keep
  kept_old s n v l = get_or-append s.kept (n ∷ []) (first_node t) v l

  kept_new : (s : Search) (n : Node) → node_at t (keep t s n) (length s.kept) ≡ n
  unfolding keep
  kept_new s n = get_or_at s.kept n [] (first_node t) (length s.kept) refl

  kept_more : (s : Search) (n : Node) → length (keep t s n).kept ≡ suc (length s.kept)
  unfolding keep
  kept_more s n = simp length-append (omega arith)

  kept_flag : (s : Search) (n : Node) (v : ℕ) → get_or (keep t s n).done v 0 ≡ get_or s.done v 0
  unfolding keep
  kept_flag s n v = flag_snoc s.done v

  -- a node stays born when another is kept
  born_on : (s : Search) (m n : Node) (v : ℕ) → v ≤ length s.kept → Born t s v n → Born t (keep t s m) v n
  born_on s m n v l b =
      let e = kept_old s m n.parent (omega (arith, b.lower)) in
      record { lower = b.lower; known = b.known; central = b.central; applied = rw e b.applied; made = rw e b.made; opened = rw (kept_flag s m n.parent) b.opened }

  rooted_keep : (s : Search) (n : Node) → Rooted t s → Born t s (length s.kept) n → Rooted t (keep t s n)
  rooted_keep s n r b =
      rooted (keep t s n) (omega (arith, kept_more s n)) (kept_old s n 0 r.real.some ∙ r.real.first) (λ u l. go u (below_cases (rw (kept_more s n) at l)))
    where
      go : (u : ℕ) → (suc u < length s.kept) ⊎ (suc u ≡ length s.kept) → Born t (keep t s n) (suc u) (node_at t (keep t s n) (suc u))
      go u (inl l) = rw (kept_old s n (suc u) l) (born_on s n (node_at t s (suc u)) (suc u) (omega arith) (born s r u l))
      go u (inr e) = rw (e, kept_new s n) (born_on s n n (length s.kept) (omega arith) b)

  -- node 0 alone is rooted
  pub start_rooted : Rooted t (start t)
  unfolding start keep
  start_rooted = rooted (start t) (omega arith) refl (λ u l. absurd (omega arith))

  -- ---- turn

  born_next : (s : Search) (u a : ℕ) → u < length s.kept → get_or s.done u 0 ≢ 0 → a < t.actions → centre_action t a ≡ true
      → applies_to t (node_at t s u).spot (node_at t s u).prices a ≡ true → Born t s (length s.kept) (next_node t u (node_at t s u) a)
  unfolding next_node
  born_next s u a l o h p q = record { lower = l; known = h; central = p; applied = q; made = refl; opened = o }

  module _ (nodes : ℕ) where
    -- an offered node is dropped or kept
    offer_cases : {r : Search} (s : Search) (n : Node) → offer t nodes s n ≡ on r → (s ≡ r) ⊎ (keep t s n ≡ r)
    unfolding offer
    offer_cases {r} s n e = below (below_best t s (key t n)) refl (any (length s.kept) (λ u. dominates (node_at t s u) n)) refl (ltb (length s.kept) nodes) refl
      where
        below : (a : Bool) → below_best t s (key t n) ≡ a → (b : Bool) → any (length s.kept) (λ u. dominates (node_at t s u) n) ≡ b → (c : Bool)
            → ltb (length s.kept) nodes ≡ c → (s ≡ r) ⊎ (keep t s n ≡ r)
        below false p b q c h = let g : on s ≡ on r = rw (p, offer) at e in inl (cc)
        below true p true q c h = let g : on s ≡ on r = rw (p, q, offer) at e in inl (cc)
        below true p false q true h = let g : on (keep t s n) ≡ on r = rw (p, q, h, offer) at e in inr (cc)
        below true p false q false h = let g : full ≡ on r = rw (p, q, h, offer) at e in let z : ◌≡◌ {A = ℕ} 0 1 = cc in absurd (omega arith)

    -- a turn of a node whose expansion has begun leaves the search rooted, no shorter, and the node's flag as it was
    turn_rooted : {r : Search} (u a : ℕ) (s : Search) → Rooted t s → u < length s.kept → get_or s.done u 0 ≢ 0 → a < t.actions → turn t nodes u a s ≡ on r
        → Rooted t r × (length s.kept ≤ length r.kept) × (get_or r.done u 0 ≢ 0)
    unfolding turn
    turn_rooted {r} u a s v l o h e = centre (centre_action t a) refl (applies_to t (node_at t s u).spot (node_at t s u).prices a) refl
      where
        same : s ≡ r → Rooted t r × (length s.kept ≤ length r.kept) × (get_or r.done u 0 ≢ 0)
        same q = rw (← q) (v, omega arith, o)

        offered : Born t s (length s.kept) (next_node t u (node_at t s u) a) → (s ≡ r) ⊎ (keep t s (next_node t u (node_at t s u) a) ≡ r)
            → Rooted t r × (length s.kept ≤ length r.kept) × (get_or r.done u 0 ≢ 0)
        offered b (inl q) = same q
        offered b (inr q) =
            let n = next_node t u (node_at t s u) a in
            rw (← q) (rooted_keep s n v b, omega (arith, kept_more s n), rw (kept_flag s n u) o)

        centre : (c : Bool) → centre_action t a ≡ c → (d : Bool) → applies_to t (node_at t s u).spot (node_at t s u).prices a ≡ d
            → Rooted t r × (length s.kept ≤ length r.kept) × (get_or r.done u 0 ≢ 0)
        centre true p true q = offered (born_next s u a l o h p q) (offer_cases s (next_node t u (node_at t s u) a) (rw (p, q, turn) at e))
        centre true p false q = let g : on s ≡ on r = rw (p, q, turn) at e in same (cc)
        centre false p d q = let g : on s ≡ on r = rw (p, turn) at e in same (cc)

    -- ---- expand

    -- the search that an expansion leaves
    abbrev left : Expanded → Search
    left (through s) = s
    left (filled s) = s

    expand_rooted : (u n a : ℕ) (s : Search) → Rooted t s → u < length s.kept → get_or s.done u 0 ≢ 0 → a + n ≤ t.actions → Rooted t (left (expand t nodes u n a s))
    unfolding expand
    expand_rooted u zero a s v l o h = v
    expand_rooted u (suc n) a s v l o h = go (turn t nodes u a s) refl (expand_rooted u n (a + 1))
      where
        go : (x : Turn) → turn t nodes u a s ≡ x
            → ((s' : Search) → Rooted t s' → u < length s'.kept → get_or s'.done u 0 ≢ 0 → a + 1 + n ≤ t.actions → Rooted t (left (expand t nodes u n (a + 1) s')))
            → Rooted t (left (expand t nodes u (suc n) a s))
        go (on s') q rest = let w = turn_rooted u a s v l o (omega arith) q in rw (q, expand) (rest s' w.0 (omega (arith, w.1)) w.2 (omega arith))
        go full q rest = rw (q, expand) v

    -- ---- explore

    -- a flag that is not 0 stays so when one is raised
    raised : (fs : List ℕ) (u v : ℕ) → get_or fs v 0 ≢ 0 → get_or (set fs u 1) v 0 ≢ 0
    raised fs u v h = go (set_cases fs u 1 v 0)
      where
        go : (get_or (set fs u 1) v 0 ≡ get_or fs v 0) ⊎ ((v ≡ u) × (get_or (set fs u 1) v 0 ≡ 1)) → get_or (set fs u 1) v 0 ≢ 0
        go (inl q) e = h (sym q ∙ e)
        go (inr (_, q)) e = omega arith

    begin_rooted : (u : ℕ) (s : Search) → Rooted t s → Rooted t (begin u s)
    unfolding begin
    begin_rooted u s r = record {
      real = record {
        some = r.real.some;
        first = r.real.first;
        lower = r.real.lower;
        known = r.real.known;
        central = r.real.central;
        applied = r.real.applied;
        made = r.real.made;
      };
      opened = λ v l. raised s.done u (node_at t s (suc v)).parent (r.opened v l);
    }

    -- the flag of the node whose expansion begins is not 0
    begin_flag : (u : ℕ) (s : Search) → u < length s.done → get_or (begin u s).done u 0 ≢ 0
    unfolding begin
    begin_flag u s l e = omega (arith, get_or-set_same s.done u 1 0 l)

    -- the node chosen is one of those looked at
    choose_in : (s : Search) (i u : ℕ) → choose t s i ≡ suc u → u < i
    unfolding choose
    choose_in s zero u e = absurd (omega arith)
    choose_in s (suc i) u e = go (choose t s i) refl (waits t s i) refl (choose_in s i)
      where
        less : (v : ℕ) → choose t s i ≡ suc v → waits t s i ≡ true → (c : Bool) → ltb (key t (node_at t s i)) (key t (node_at t s v)) ≡ c → v < i → u < suc i
        less v p q true f w = let g : suc i ≡ suc u = rw (p, q, f, choose) at e in omega arith
        less v p q false f w = let g : suc v ≡ suc u = rw (p, q, f, choose) at e in omega arith

        go : (x : ℕ) → choose t s i ≡ x → (b : Bool) → waits t s i ≡ b → ((v : ℕ) → choose t s i ≡ suc v → v < i) → u < suc i
        go zero p true q r = let g : suc i ≡ suc u = rw (p, q, choose) at e in omega arith
        go zero p false q r = let g : 0 ≡ suc u = rw (p, q, choose) at e in absurd (omega arith)
        go (suc v) p true q r = less v p q (ltb (key t (node_at t s i)) (key t (node_at t s v))) refl (r v p)
        go (suc v) p false q r = let g : suc v ≡ suc u = rw (p, q, choose) at e in omega (arith, r v p)

    -- an expansion of the node chosen leaves the search rooted
    round_rooted : (s : Search) (u : ℕ) → Rooted t s → choose t s (length s.kept) ≡ suc u → Rooted t (left (expand t nodes u t.actions 0 (begin u s)))
    unfolding begin
    round_rooted s u v p =
        let flag = flag_in s.done u (waits_out t s u (choose_some t s (length s.kept) u p)) in
        expand_rooted u t.actions 0 (begin u s) (begin_rooted u s v) (choose_in s (length s.kept) u p) (begin_flag u s flag) (omega arith)

    -- so does a round that went through
    pub round_through : (s r : Search) (u : ℕ) → Rooted t s → choose t s (length s.kept) ≡ suc u → expand t nodes u t.actions 0 (begin u s) ≡ through r → Rooted t r
    round_through s r u v p e = rw e at (round_rooted s u v p)

    explore_rooted : (budget fuel : ℕ) (s : Search) → Rooted t s → Rooted t (explore t nodes budget fuel s).search
    unfolding explore
    explore_rooted budget zero s v = v
    explore_rooted budget (suc fuel) s v = chosen (choose t s (length s.kept)) refl (explore_rooted budget fuel)
      where
        done : (u : ℕ) → choose t s (length s.kept) ≡ suc u → eqb s.begun budget ≡ false → (x : Expanded) → expand t nodes u t.actions 0 (begin u s) ≡ x
            → Rooted t (left x) → ((r : Search) → Rooted t r → Rooted t (explore t nodes budget fuel r).search) → Rooted t (explore t nodes budget (suc fuel) s).search
        done u p q (through r) f w rest = rw (p, q, f, explore) (rest r w)
        done u p q (filled r) f w rest = rw (p, q, f, explore) w

        spent : (u : ℕ) → choose t s (length s.kept) ≡ suc u → (c : Bool) → eqb s.begun budget ≡ c
            → ((r : Search) → Rooted t r → Rooted t (explore t nodes budget fuel r).search) → Rooted t (explore t nodes budget (suc fuel) s).search
        spent u p true q rest = rw (p, q, explore) v
        spent u p false q rest = done u p q (expand t nodes u t.actions 0 (begin u s)) refl (round_rooted s u v p) rest

        chosen : (x : ℕ) → choose t s (length s.kept) ≡ x
            → ((r : Search) → Rooted t r → Rooted t (explore t nodes budget fuel r).search) → Rooted t (explore t nodes budget (suc fuel) s).search
        chosen zero p rest = rw (p, explore) v
        chosen (suc u) p rest = spent u p (eqb s.begun budget) refl rest

    -- wherever the exploration stops, its search is real
    pub explored_real : (budget : ℕ) → Real t (explored t nodes budget).search
    unfolding explored
    explored_real budget = (explore_rooted budget (suc nodes) (start t) start_rooted).real

    -- the plan of best's node reaches the goal, at the cost of best
    pub best_plan : Valid t → 1 ≤ nodes → (budget u : ℕ) → (explored t nodes budget).search.best ≡ suc u
        → (reaches t (plan_of t (explored t nodes budget).search u) ≡ true)
        × (cost_of t (plan_of t (explored t nodes budget).search u) ≡ goal_cost t (node_at t (explored t nodes budget).search u))
    best_plan ok some budget u e =
        let s = (explored t nodes budget).search in
        let b = (explored_base t nodes budget some).best_in u e in
        plan_reaches t s u ok (explored_real budget) b.0 b.1
