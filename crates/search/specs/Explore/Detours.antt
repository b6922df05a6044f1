-- Detours are dealt with: at a node that a hop made of its parent, whose successors are all dealt with, a hop behind it that is a detour changes
-- nothing of the search. Assumes nothing; what needs it says that the task is valid.
use Rattle.std.specs.Prelude.{◌≡◌, refl, ◌⊎◌, Bool, false, ◌&&◌, ℕ, zero, suc, ◌+◌, ◌≤◌, ◌<◌, leb, eqb, length}
use Rattle.std.proofs.Math.Path.{sym, ap}
use Rattle.std.proofs.Common.{◌∙◌, inl, arith, leb-true, le-leb}
use Rattle.std.proofs.Math.Logic.{inr}
use Rattle.std.proofs.Math.Bool.{true}
use mathlib.Core.List.{List}
use Rattle.loops.specs.Count.{all, sum}
use Rattle.loops.specs.Count.Laws.{and_in, and_out, any_in}
use Rattle.task.specs.declared.Task.{Task}
use Rattle.task.specs.declared.Centre.{Centre}
use Rattle.task.specs.Meaning.{cost}
use Rattle.task.specs.Factors.{centre_action, all_states}
use Rattle.task.specs.Centre.{value_in}
use Rattle.task.specs.Valid.{Valid}
use Rattle.layer.specs.Layer.{leaf_part, next_prices, applies_to, next_centre}
use Rattle.layer.specs.Layer.Laws.{next_length}
use Rattle.search.specs.Node.{Node, next_node, least_of, key, dominates}
use Rattle.search.specs.Node.Laws.{dominates_in}
use Rattle.search.specs.Made.{Made}
use Rattle.search.specs.Begin.{settled_prices, dominates_begin}
use Rattle.search.specs.Hop.{Hop, Detour}
use Rattle.search.specs.Hop.Laws.{Low, next_capped, hop_at, hop_begin, hop_prices, hop_applies, hop_hop, hop_back}
use Rattle.search.specs.Explore.{Search, node_at, below_best, on, offer, turn, begin}
use Rattle.search.specs.Explore.Closure.{Beaten, beaten_up, Handled, Opened}
use Rattle.search.specs.Explore.Laws.{Grows, handled_on}
use Rattle.search.specs.Explore.Rounds.{Holds}
use Rattle.search.specs.Plan.Real.{Rooted}

-- node u was made from a node every successor of which is dealt with
pub record Sprung (t : Task) (s : Search) (u : ℕ) : Type 0 where
  pub inside : (node_at t s u).parent < length s.kept
  pub applied : applies_to t (node_at t s (node_at t s u).parent).spot (node_at t s (node_at t s u).parent).prices (node_at t s u).action ≡ true
  pub made : node_at t s u ≡ next_node t (node_at t s u).parent (node_at t s (node_at t s u).parent) (node_at t s u).action
  pub parent_made : Made t (node_at t s u).parent (node_at t s (node_at t s u).parent)
  pub opened : Opened t s (node_at t s u).parent

-- where an expansion begins, its node is so
pub sprung_begin : (t : Task) (nodes : ℕ) (s : Search) (u : ℕ) → Holds t nodes s → Rooted t s → 0 < u → u < length s.kept → Sprung t (begin u s) u
unfolding begin Handled below_best
sprung_begin t nodes s zero v r l m = absurd (omega arith)
sprung_begin t nodes s (suc u) v r l m =
    let p = (node_at t s (suc u)).parent in
    let inside : p < length s.kept = omega (arith, r.real.lower u m) in
    record {
      inside = inside;
      applied = r.real.applied u m;
      made = r.real.made u m;
      parent_made = v.base.made p inside;
      opened = v.closed p (r.opened u m);
    }

-- ---- what is dealt with

-- an offered node that is dealt with is dropped
pub handled_offer : (t : Task) (nodes : ℕ) (s : Search) (n : Node) → Handled t s n → offer t nodes s n ≡ on s
unfolding Handled offer
handled_offer t nodes s n h = go h (below_best t s (key t n)) refl
  where
    go : Beaten t s (key t n) ⊎ ((m : ℕ) × (m < length s.kept) × (dominates (node_at t s m) n ≡ true)) → (b : Bool) → below_best t s (key t n) ≡ b
        → offer t nodes s n ≡ on s
    go (inl q) b e = rw (q, offer)
    go (inr (m, l, d)) false e = rw (e, offer)
    go (inr (m, l, d)) true e = rw (e, any_in (length s.kept) (λ u. dominates (node_at t s u) n) m l d, offer)

-- what dominates a node dominates it at a higher centre cost
dominates_more : (k m n : Node) → m.spot ≡ n.spot → m.prices ≡ n.prices → m.paid ≤ n.paid → dominates k m ≡ true → dominates k n ≡ true
unfolding dominates
dominates_more k m n e f l d =
    let (p, q) = and_out (all 32 (λ v. eqb (value_in k.spot v) (value_in m.spot v))) _ d in
    let (c, r) = and_out (leb k.paid m.paid) _ q in
    and_in (rw e at p) (and_in (le-leb k.paid n.paid (omega (arith, leb-true k.paid m.paid c))) (rw f at r))

-- what is dealt with is so at a higher centre cost
pub handled_more : (t : Task) (s : Search) (m n : Node) → m.spot ≡ n.spot → m.prices ≡ n.prices → m.paid ≤ n.paid → Handled t s m → Handled t s n
unfolding Handled key
handled_more t s m n e f l h = go h
  where
    high : key t m ≤ key t n
    high = omega (arith, ap (λ (P : List ℕ). sum t.leaves (λ i. least_of (leaf_part t i P))) f)

    go : Beaten t s (key t m) ⊎ ((k : ℕ) × (k < length s.kept) × (dominates (node_at t s k) m ≡ true))
        → Beaten t s (key t n) ⊎ ((k : ℕ) × (k < length s.kept) × (dominates (node_at t s k) n ≡ true))
    go (inl b) = inl (beaten_up t s (key t m) (key t n) high b)
    go (inr (k, i, d)) = inr (k, i, dominates_more (node_at t s k) m n e f l d)

-- ---- detours

-- n is the node that action a made of p, whose number is m, with p's prices
module _ (t : Task) (ok : Valid t) (m u : ℕ) (p n : Node) (a : ℕ) (made : n ≡ next_node t m p a) (same : n.prices ≡ p.prices) where
  -- its centre state is p's behind the action
  next_spot : n.spot ≡ next_centre t a p.spot
  unfolding next_node
  next_spot = ap (λ (n : Node). n.spot) made

  -- it has paid what p has, and the action
  next_paid : n.paid ≡ p.paid + cost t a
  unfolding next_node
  next_paid = ap (λ (n : Node). n.paid) made

  -- its prices are p's, passed and settled
  next_prices_lem : n.prices ≡ next_prices t (next_centre t a p.spot) a p.prices
  unfolding next_node
  next_prices_lem = ap (λ (n : Node). n.prices) made

  -- so there is one for every state of every leaf
  next_full : length n.prices ≡ all_states t
  next_full = rw next_prices_lem (next_length t _ a p.prices)

  -- and none is above the mark
  next_low : Low t n.prices
  next_low = rw next_prices_lem (next_capped t _ a p.prices)

  -- a hop back leads to a node that p dominates
  back_dominated : (b v x y w : ℕ) → Hop t a v x y → Hop t b v w x → Made t m p → applies_to t p.spot p.prices a ≡ true → dominates p (next_node t u n b) ≡ true
  unfolding next_node
  back_dominated b v x y w h k w' e =
      dominates_begin t ok m p w' u n b 0 0
      ∙ dominates_in p _ (record {
        same = sym (ap (λ (c : Centre). next_centre t b c) next_spot ∙ hop_back t a b v x y w x h k p.spot w'.wide (hop_at t a v x y h p.spot p.prices e));
        cheap = omega (arith, next_paid);
        low = λ j _. rw (hop_begin t b v w x k n.prices next_full next_low, same) (omega arith);
      })

  -- a hop on leads where one hop from p does, at no lower cost
  on_handled : (s : Search) (b d v x y w z : ℕ) → Hop t a v x y → Hop t b v w z → Hop t d v x z → cost t d ≤ cost t a + cost t b
      → Handled t s (next_node t m p d) → Handled t s (next_node t u n b)
  unfolding next_node
  on_handled s b d v x y w z h k f less q =
      let spot : next_centre t b n.spot ≡ next_centre t d p.spot = ap (λ (c : Centre). next_centre t b c) next_spot ∙ hop_hop t a b v x y w z h k p.spot d f in
      let new : next_prices t (next_centre t b n.spot) b n.prices ≡ settled_prices t (next_centre t b n.spot) n.prices = hop_prices t b v w z k _ n.prices next_full next_low in
      let old : next_prices t (next_centre t d p.spot) d n.prices ≡ settled_prices t (next_centre t d p.spot) n.prices = hop_prices t d v x z f _ n.prices next_full next_low in
      handled_more t s (next_node t m p d) (next_node t u n b) (sym spot)
      (ap (λ (P : List ℕ). next_prices t (next_centre t d p.spot) d P) (sym same) ∙ old ∙ ap (λ (c : Centre). settled_prices t c n.prices) (sym spot) ∙ sym new)
      (omega (arith, next_paid)) q

  -- where the successors of p are dealt with, and p is kept, so is what a detour leads to
  detour_handled : (s : Search) (b : ℕ) → m < length s.kept → node_at t s m ≡ p → Made t m p → applies_to t p.spot p.prices a ≡ true
      → ((d : ℕ) → d < t.actions → centre_action t d ≡ true → applies_to t p.spot p.prices d ≡ true → Handled t s (next_node t m p d))
      → Detour t a b → Handled t s (next_node t u n b)
  unfolding Handled
  detour_handled s b l q w e opened r = go r.way
    where
      go : (r.z ≡ r.x) ⊎ ((d : ℕ) × (Hop t d r.v r.x r.z × (cost t d ≤ cost t a + cost t b))) → Handled t s (next_node t u n b)
      go (inl f) =
          let k : Hop t b r.v r.w r.x = rw f at r.second in
          inr (m, l, rw q (back_dominated b r.v r.x r.y r.w r.first k w e))
      go (inr (d, (k, less))) =
          let f : applies_to t p.spot p.prices d ≡ true = sym (hop_applies t a d r.v r.x r.y r.z r.first k p.spot p.prices) ∙ e in
          on_handled s b d r.v r.x r.y r.w r.z r.first r.second k less (opened d k.known k.central f)

-- at a node that a hop made, with its parent's prices, a detour has no turn that changes the search
pub detour_turn : (t : Task) → Valid t → (nodes u : ℕ) (s₀ s : Search) → Grows t s₀ s → u < length s₀.kept → Sprung t s₀ u
    → (node_at t s₀ u).prices ≡ (node_at t s₀ (node_at t s₀ u).parent).prices
    → (b : ℕ) → Detour t (node_at t s₀ u).action b → turn t nodes u b s ≡ on s
unfolding turn
detour_turn t ok nodes u s₀ s g l r same b d = go (centre_action t b && applies_to t (node_at t s u).spot (node_at t s u).prices b) refl
  where
    dealt : Handled t s₀ (next_node t u (node_at t s₀ u) b)
    dealt =
        let m = (node_at t s₀ u).parent in
        detour_handled t ok m u (node_at t s₀ m) (node_at t s₀ u) (node_at t s₀ u).action r.made same s₀ b r.inside refl r.parent_made r.applied r.opened d

    go : (c : Bool) → (centre_action t b && applies_to t (node_at t s u).spot (node_at t s u).prices b) ≡ c → turn t nodes u b s ≡ on s
    go false q = rw (q, turn)
    go true q = rw (q, turn, g.node u l) (handled_offer t nodes s (next_node t u (node_at t s₀ u) b) (handled_on t (next_node t u (node_at t s₀ u) b) g dealt))
