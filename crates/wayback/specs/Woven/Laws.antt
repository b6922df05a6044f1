-- Laws of listed tight edges. Assumes nothing.
use Rattle.std.specs.Prelude.{◌≡◌, refl, ◌⊎◌, List, ℕ, zero, suc, ◌+◌, ◌-◌, ◌*◌, ◌≤◌, ◌<◌, length, get_or, set, take, drop, replicate}
use Rattle.std.proofs.Common.{sym, ap, subst, ◌∙◌, inl, inr, not-suc-le-zero, zero-add, add-one, arith, length-take, length-drop, get_or-set_same, get_or-set_other, get_or-take, get_or-drop}
use Rattle.std.proofs.Math.Decide.{ℕ_discrete, dec_lt}
use Rattle.std.proofs.lemmas.List.{length-replicate}
use Rattle.std.proofs.Math.ListN.{get_or-eq_default}
use Rattle.loops.specs.Count.Laws.{below_cases}
use Rattle.leaf.specs.Settle.Steps.{replicate_at}
use Rattle.leaf.specs.Settle.Turns.{at_any}
use Rattle.leaf.specs.Lent.{Lent, cost_by}
use Rattle.edges.specs.Edges.{edges_at}
use Rattle.edges.specs.Edges.Those.{Placed}
use Rattle.sweeps.specs.Sweeps.{move_met, Ways, Covered, Meant}
use Rattle.sweeps.specs.Sweeps.Leaf.{gated_out, gated_open}
use Rattle.wayback.specs.Steps.{tight_by}
use Rattle.wayback.specs.Tight.{tight_is, tight_ranged}
use Rattle.wayback.specs.Woven.{IndexedFrom, Indexed, Legible, edge_at, Between, Picked, Listed, Covers, Leading, Taken, Woven}

-- ---- the list of actions, read backwards

-- none yet
pub index_none : (acts : List ℕ) (m : ℕ) → IndexedFrom acts m m (replicate 256 0)
index_none acts m =
    record {
      sound = λ a j e. absurd (omega (arith, replicate_at 256 0 a));
      all = λ j h l. absurd (omega arith);
    }

-- one more, the one before the k-th
pub index_more : (acts : List ℕ) (k m : ℕ) (index : List ℕ) → 0 < k → k ≤ m → get_or acts (k - 1) 0 < length index → IndexedFrom acts k m index
    → IndexedFrom acts (k - 1) m (set index (get_or acts (k - 1) 0) k)
index_more acts k m index z up here w = record { sound = λ a j e. sound a j e (ℕ_discrete a b); all = λ j h l. all j h l (ℕ_discrete (get_or acts j 0) b) }
  where
    b : ℕ
    b = get_or acts (k - 1) 0

    sound : (a j : ℕ) → get_or (set index b k) a 0 ≡ suc j → Dec (a ≡ b) → (j < m) × (get_or acts j 0 ≡ a)
    sound a j e (yes q) =
        let own : j ≡ k - 1 = omega (arith, rw q at e, get_or-set_same index b k 0 here) in
        (omega arith, rw own (sym q))
    sound a j e (no q) = w.sound a j (sym (get_or-set_other index b a k 0 q) ∙ e)

    all : (j : ℕ) → k - 1 ≤ j → j < m → Dec (get_or acts j 0 ≡ b) → (0 < get_or (set index b k) (get_or acts j 0) 0) × (get_or (set index b k) (get_or acts j 0) 0 ≤ suc j)
    all j h l (yes q) = let own = get_or-set_same index b k 0 here in rw q (omega (arith, own), omega (arith, own))
    all j h l (no q) =
        let other : j ≡ k - 1 → ⊥ = λ e. q (ap (λ i. get_or acts i 0) e) in
        rw (get_or-set_other index b (get_or acts j 0) k 0 q) (w.all j (omega arith) l)

-- what the lent tables let read of the actions of a list can be read by their indexes
pub index_legible : (moves : List ℕ) (row at : ℕ) (costs acts : List ℕ) (m n : ℕ) (index : List ℕ) → Lent moves row at costs acts m n → Indexed acts m index
    → Legible moves row at costs index n
index_legible moves row at costs acts m n index lent w =
    record {
      costs_long = λ a h. costs_long a (get_or index a 0) refl h;
      moves_long = λ a x h l. moves_long a x l (get_or index a 0) refl h;
      moves_in = λ a x h l. moves_in a x l (get_or index a 0) refl h;
    }
  where
    costs_long : (a i : ℕ) → get_or index a 0 ≡ i → 0 < i → a < length costs
    costs_long a zero e h = absurd (not-suc-le-zero h)
    costs_long a (suc j) e h = let s = w.sound a j e in rw s.1 at (lent.costs_long j s.0)

    moves_long : (a x : ℕ) → x < n → (i : ℕ) → get_or index a 0 ≡ i → 0 < i → a * row + (at + x) < length moves
    moves_long a x l zero e h = absurd (not-suc-le-zero h)
    moves_long a x l (suc j) e h = let s = w.sound a j e in rw s.1 at (lent.moves_long j x s.0 l)

    moves_in : (a x : ℕ) → x < n → (i : ℕ) → get_or index a 0 ≡ i → 0 < i → get_or moves (a * row + (at + x)) 0 ≤ n
    moves_in a x l zero e h = absurd (not-suc-le-zero h)
    moves_in a x l (suc j) e h = let s = w.sound a j e in rw s.1 at (lent.moves_in j x s.0 l)

-- ---- picking edges

module _ (edge : ℕ → ℕ) (acts : List ℕ) (from : ℕ) (xs : List ℕ) where
  -- none yet
  pub picked_none : Picked edge acts 0 from xs from xs
  picked_none =
      record {
        rise = omega arith;
        few = omega arith;
        front = λ p h. refl;
        sound = λ p h l. absurd (omega arith);
        all = λ q h. absurd (not-suc-le-zero h);
      }

  module _ (k end : ℕ) (ys : List ℕ) (w : Picked edge acts k from xs end ys) where
    -- an action without an edge
    pub picked_not : edge (get_or acts k 0) ≡ 0 → Picked edge acts (k + 1) from xs end ys
    picked_not e =
        record { rise = w.rise; few = omega (arith, w.few); front = w.front; sound = w.sound; all = λ q h. all q (below_cases (rw add-one at h)) }
      where
        all : (q : ℕ) → (q < k) ⊎ (q ≡ k) → 0 < edge (get_or acts q 0) → Between ys from end (get_or acts q 0)
        all q (inl h) l = w.all q h l
        all q (inr h) l = absurd (omega (arith, rw h at l))

    -- one with an edge
    pub picked_here : 0 < edge (get_or acts k 0) → end < length ys → Picked edge acts (k + 1) from xs (end + 1) (set ys end (get_or acts k 0))
    picked_here e room =
        record {
          rise = omega (arith, w.rise);
          few = omega (arith, w.few);
          front = λ p h. get_or-set_other ys end p a 0 (λ q. omega (arith, w.rise)) ∙ w.front p h;
          sound = λ p h l. sound p h (below_cases (rw add-one at l));
          all = λ q h. all q (below_cases (rw add-one at h));
        }
      where
        a : ℕ
        a = get_or acts k 0

        new : get_or (set ys end a) end 0 ≡ a
        new = get_or-set_same ys end a 0 room

        old : (p : ℕ) → p < end → get_or (set ys end a) p 0 ≡ get_or ys p 0
        old p h = get_or-set_other ys end p a 0 (λ q. omega arith)

        sound : (p : ℕ) → from ≤ p → (p < end) ⊎ (p ≡ end) → 0 < edge (get_or (set ys end a) p 0)
        sound p h (inl l) = rw (old p l) (w.sound p h l)
        sound p h (inr l) = rw (l, new) e

        all : (q : ℕ) → (q < k) ⊎ (q ≡ k) → 0 < edge (get_or acts q 0) → Between (set ys end a) from (end + 1) (get_or acts q 0)
        all q (inl h) l =
            let b = w.all q h l in
            record { at = b.at; above = b.above; below = omega (arith, b.below); is = old b.at b.below ∙ b.is }
        all q (inr h) l = record { at = end; above = w.rise; below = omega arith; is = new ∙ ap (λ i. get_or acts i 0) (sym h) }

-- ---- state behind state

module _ (edge : ℕ → ℕ → ℕ) (lists : ℕ → List ℕ) where
  -- no state yet
  pub listed_none : (tight stops : List ℕ) → Listed edge lists 0 tight stops
  listed_none tight stops =
      record {
        rise = λ x h. absurd (not-suc-le-zero h);
        sound = λ x p h. absurd (not-suc-le-zero h);
        all = λ x q h. absurd (not-suc-le-zero h);
      }

  -- one state more
  module _ (k : ℕ) (tight stops : List ℕ) (end : ℕ) (after : List ℕ) (w : Listed edge lists k tight stops)
      (p : Picked (λ a. edge a k) (lists k) (length (lists k)) (get_or stops k 0) tight end after) (long : k + 1 < length stops) where
    new : get_or (set stops (k + 1) end) (k + 1) 0 ≡ end
    new = get_or-set_same stops (k + 1) end 0 long

    old : (x : ℕ) → x ≤ k → get_or (set stops (k + 1) end) x 0 ≡ get_or stops x 0
    old x h = get_or-set_other stops (k + 1) x end 0 (λ e. omega arith)

    rise : (x : ℕ) → (x < k) ⊎ (x ≡ k) → (get_or (set stops (k + 1) end) x 0 ≤ get_or (set stops (k + 1) end) (x + 1) 0)
        × (get_or (set stops (k + 1) end) (x + 1) 0 ≤ get_or (set stops (k + 1) end) (k + 1) 0)
    rise x (inl h) = omega (arith, w.rise x h, old x (omega arith), old (x + 1) (omega arith), new, p.rise)
    rise x (inr h) = rw h (omega (arith, old k (omega arith), new, p.rise))

    sound : (x q : ℕ) → (x < k) ⊎ (x ≡ k) → get_or (set stops (k + 1) end) x 0 ≤ q → q < get_or (set stops (k + 1) end) (x + 1) 0 → 0 < edge (get_or after q 0) x
    sound x q (inl h) a b =
        let low : q < get_or stops (x + 1) 0 = omega (arith, old (x + 1) (omega arith)) in
        rw (p.front q (omega (arith, w.rise x h))) (w.sound x q h (omega (arith, old x (omega arith))) low)
    sound x q (inr h) a b = let s = p.sound q (omega (arith, old k (omega arith), rw h at a)) (omega (arith, new, rw h at b)) in rw h s

    all : (x q : ℕ) → (x < k) ⊎ (x ≡ k) → q < length (lists x) → 0 < edge (get_or (lists x) q 0) x
        → Between after (get_or (set stops (k + 1) end) x 0) (get_or (set stops (k + 1) end) (x + 1) 0) (get_or (lists x) q 0)
    all x q (inl h) a b =
        let s = w.all x q h a b in
        rw (old x (omega arith), old (x + 1) (omega arith))
        (record { at = s.at; above = s.above; below = s.below; is = p.front s.at (omega (arith, s.below, w.rise x h)) ∙ s.is })
    all x q (inr h) a b = rw (h, old k (omega arith), new) (p.all q (rw h at a) (rw h at b))

    pub listed_more : Listed edge lists (k + 1) after (set stops (k + 1) end)
    listed_more =
        record {
          rise = λ x h. rise x (below_cases (rw add-one at h));
          sound = λ x q h. sound x q (below_cases (rw add-one at h));
          all = λ x q h. all x q (below_cases (rw add-one at h));
        }

-- ---- as parts of a list

-- a part of a list, from f to e of it
abbrev part : List ℕ → ℕ → ℕ → List ℕ
part xs f e = take (e - f) (drop f xs)

pub part_entry : (xs : List ℕ) (f e p : ℕ) → p < e - f → get_or (part xs f e) p 0 ≡ get_or xs (f + p) 0
part_entry xs f e p h = get_or-take (e - f) (drop f xs) p 0 h ∙ get_or-drop f xs p 0

pub part_size : (xs : List ℕ) (f e : ℕ) → e ≤ length xs → length (part xs f e) ≡ e - f
part_size xs f e h = simp (length-take, length-drop) (omega arith)

-- what stands between two places stands in the part there
placed_part : (xs : List ℕ) (f e a : ℕ) → e ≤ length xs → Between xs f e a → Placed (part xs f e) a
placed_part xs f e a h b =
    let l : b.at - f < e - f = omega (arith, b.above, b.below) in
    let same : f + (b.at - f) ≡ b.at = omega (arith, b.above) in
    record { at = b.at - f; inside = omega (arith, part_size xs f e h); is = part_entry xs f e (b.at - f) l ∙ rw same b.is }

-- what is not 0 stands in the list
entry_in : (xs : List ℕ) (a : ℕ) → 0 < get_or xs a 0 → a < length xs
entry_in xs a h = go (dec_lt a (length xs))
  where
    go : Dec (a < length xs) → a < length xs
    go (yes l) = l
    go (no l) = absurd (omega (arith, get_or-eq_default xs 0 {n = a} (omega arith)))

-- ---- the list of tight edges, from the table of edges

module _ (moves : List ℕ) (row at : ℕ) (costs acts : List ℕ) (m : ℕ) (P index : List ℕ) (lent : Lent moves row at costs acts m (length P))
    (w : Indexed acts m index) where
  -- an action's edge, under its index or under its place in the list
  edge_own : (j x : ℕ) → j < m → edge_at moves row at costs index P (get_or acts j 0) x ≡ tight_by moves row at costs acts P j x
  edge_own j x h = gated_open _ _ (λ z. omega (arith, w.all j (omega arith) h))

  -- an action with an edge is in the list, and its edge leads where its move does
  edge_taken : length index ≡ 256 → (x a : ℕ) → x < length P → (e : ℕ) → edge_at moves row at costs index P a x ≡ e → 0 < e
      → Taken moves row at acts index m (tight_by moves row at costs acts P) x a
  edge_taken long x a l zero e h = absurd (not-suc-le-zero h)
  edge_taken long x a l (suc y) e h = go (get_or index a 0) refl
    where
      go : (i : ℕ) → get_or index a 0 ≡ i → Taken moves row at acts index m (tight_by moves row at costs acts P) x a
      go zero q = absurd ((gated_out _ _ y e).0 q)
      go (suc j) q =
          let s = w.sound a j q in
          let own : edge_at moves row at costs index P a x ≡ tight_by moves row at costs acts P j x = ap (λ b. edge_at moves row at costs index P b x) (sym s.1) ∙ edge_own j x s.0 in
          let led : get_or moves (a * row + (at + x)) 0 ≡ suc y = tight_is P x _ _ y (gated_out _ _ y e).1 in
          record {
            act = j;
            below = s.0;
            is = s.1;
            indexed = q;
            small = omega (arith, entry_in index a (omega arith));
            readable = rw s.1 at (lent.moves_long j x s.0 l);
            leads = led ∙ sym e ∙ own;
          }

  -- the tight edges that stand listed are those of the actions of the list
  module _ (long : length index ≡ 256) (few : m ≤ 255) (states : length P ≤ 256) (edges ends : List ℕ)
      (covers : Covers edges ends moves row at acts m (length P)) (tight stops : List ℕ) (stops_long : length P < length stops)
      (room : get_or stops (length P) 0 ≤ length tight)
      (t : Listed (edge_at moves row at costs index P) (λ x. edges_at edges ends (at + x)) (length P) tight stops) where
    pub end_in : (x : ℕ) → x < length P → get_or stops (x + 1) 0 ≤ length tight
    end_in x h = omega (arith, t.rise x h)

    pub these_taken : (x p : ℕ) → x < length P → p < length (edges_at tight stops x)
        → Taken moves row at acts index m (tight_by moves row at costs acts P) x (get_or (edges_at tight stops x) p 0)
    these_taken x p h l =
        let inside : p < get_or stops (x + 1) 0 - get_or stops x 0 = omega (arith, part_size tight (get_or stops x 0) (get_or stops (x + 1) 0) (end_in x h)) in
        let s = t.sound x (get_or stops x 0 + p) h (omega arith) (omega arith) in
        rw (part_entry tight (get_or stops x 0) (get_or stops (x + 1) 0) p inside) (edge_taken long x _ h _ refl s)

    pub these_all : (j x y : ℕ) → j < m → x < length P → tight_by moves row at costs acts P j x ≡ suc y →
        let a = get_or acts j 0 in
        Placed (edges_at tight stops x) a × (0 < get_or index a 0) × (get_or index a 0 ≤ suc j) × (get_or moves (a * row + (at + x)) 0 ≡ suc y)
    these_all j x y h l e =
        let led = tight_is P x _ _ y e in
        let p = covers j x y h l led in
        let has : 0 < edge_at moves row at costs index P (get_or acts j 0) x = omega (arith, edge_own j x h) in
        let b = t.all x p.at l p.inside (rw p.is has) in
        let i = w.all j (omega arith) h in
        (rw p.is at (placed_part tight (get_or stops x 0) (get_or stops (x + 1) 0) _ (end_in x l) b), i.0, i.1, led)

    abbrev pub tight_woven : m ≤ length acts → Woven moves row at acts index tight stops (length P)
    tight_woven acts_long =
        record {
          count = m;
          edges = tight_by moves row at costs acts P;
          few_actions = few;
          few_states = states;
          acts_long = acts_long;
          index_long = long;
          stops_long = stops_long;
          stops_in = λ x h. ((t.rise x h).0, end_in x h);
          ranged = tight_ranged moves row at costs acts m P lent;
          sound = these_taken;
          all = these_all;
        }

-- ---- what settles along them

module _ (moves : List ℕ) (row at : ℕ) (acts index tight stops : List ℕ) (n : ℕ) where
  -- a move, in the part of the moves where those of the leaf begin
  shifted : (a x : ℕ) → get_or (drop at moves) (a * row + (0 + x)) 0 ≡ get_or moves (a * row + (at + x)) 0
  shifted a x =
      let same : at + (a * row + (0 + x)) ≡ a * row + (at + x) = omega arith in
      get_or-drop at moves (a * row + (0 + x)) 0 ∙ ap (λ i. get_or moves i 0) same

  -- each edge costs 1
  ones_at : (a : ℕ) → a < 256 → ◌≡◌ {A = ℕ} (get_or (replicate 256 1) a 0) 1
  ones_at a h = at_any (replicate 256 1) a 0 1 (omega (arith, length-replicate {A = ℕ} 256 1)) ∙ replicate_at 256 1 a

  module _ (w : Woven moves row at acts index tight stops n) where
    -- an edge leads to a state of the leaf
    stays : (j x : ℕ) → j < w.count → x < n → w.edges j x ≤ n
    stays j x h l = go (w.edges j x) refl
      where
        go : (k : ℕ) → w.edges j x ≡ k → k ≤ n
        go zero e = omega arith
        go (suc y) e = w.ranged j x y h l e

    pub woven_leading : (x : ℕ) → x < n → Leading moves row at index (edges_at tight stops x) x n
    woven_leading x h p l =
        let s = w.sound x p h l in
        (omega (arith, s.small, w.index_long), omega (arith, s.indexed), s.readable, rw s.leads (stays s.act x s.below h))

  pub woven_ways : Woven moves row at acts index tight stops n → Ways (drop at moves) row 0 (replicate 256 1) index tight stops n
  woven_ways w =
      record {
        ends_long = rw zero-add w.stops_long;
        ends_in = λ x h. rw zero-add (w.stops_in x h);
        along = λ x h. rw zero-add (record {
          costs_long = λ j l. omega (arith, (w.sound x j h l).small, length-replicate {A = ℕ} 256 1);
          mets_long = λ j l. omega (arith, (w.sound x j h l).small, w.index_long);
          moves_long = λ j l. omega (arith, (w.sound x j h l).readable, length-drop at moves);
          moves_in = λ j l. let s = w.sound x j h l in rw (shifted _ x, s.leads) (stays w s.act x s.below h);
        });
      }

  pub woven_meant : (w : Woven moves row at acts index tight stops n)
      → Meant (drop at moves) row 0 (replicate 256 1) index tight stops n w.count (λ j. 1) w.edges
  woven_meant w =
      record {
        ranged = w.ranged;
        out = λ x h. subst (Out x) (sym (zero-add x)) (out x h);
        back = λ x h. subst (Back x) (sym (zero-add x)) (back x h);
      }
    where
      -- the edges at place z cover those of x, and are covered by them
      Out : ℕ → ℕ → Type 0
      Out x z =
          let these = edges_at tight stops z in
          Covered w.count (λ j. 1) w.edges (length these) (cost_by (replicate 256 1) these) (move_met (drop at moves) row 0 index these) x

      Back : ℕ → ℕ → Type 0
      Back x z =
          let these = edges_at tight stops z in
          Covered (length these) (cost_by (replicate 256 1) these) (move_met (drop at moves) row 0 index these) w.count (λ j. 1) w.edges x

      out : (x : ℕ) → x < n → Out x x
      out x h j y l e =
          let (p, some, low, led) = w.all j x y l h e in
          record {
            act = p.at;
            below = p.inside;
            leads = rw p.is (gated_open _ _ (λ z. omega arith) ∙ shifted _ x ∙ led);
            price = rw p.is (sym (ones_at (get_or acts j 0) (omega (arith, entry_in index (get_or acts j 0) some, w.index_long))));
          }

      back : (x : ℕ) → x < n → Back x x
      back x h p y l e =
          let s = w.sound x p h l in
          record { act = s.act; below = s.below; leads = sym s.leads ∙ sym (shifted _ x) ∙ (gated_out _ _ y e).1; price = ones_at _ s.small }
