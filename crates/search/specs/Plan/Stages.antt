-- The walk back from node to node: a leaf's stages are a way along the node's path, at the price of the state where it ends; and the path's
-- centre conditions hold. Assumes nothing.
use Rattle.std.specs.Prelude.{◌≡◌, refl, ◌⊎◌, ◌&&◌, length}
use Rattle.std.proofs.Math.Path.{sym, ap}
use Rattle.std.proofs.Common.{◌∙◌, inl, inr, arith, length-append}
use mathlib.Core.List.{List, [], ◌∷◌, ◌++◌}
use Prim.Native.Nat.{ℕ, zero, suc, ◌≤◌, ◌<◌}
use Rattle.std.proofs.Math.Dec.{eqb}
use Rattle.std.proofs.Math.ListN.{get_or}
use borrow.Author.Tests.{eqb-true, eq-eqb}
use Rattle.loops.specs.Count.Laws.{and_in, and_out}
use Rattle.task.specs.declared.Task.{Task}
use Rattle.task.specs.declared.Centre.{Centre}
use Rattle.task.specs.Meaning.{initial, factor, condition, cost_of}
use Rattle.task.specs.Factors.{number, states, to}
use Rattle.task.specs.Centre.{centre, centre_meets}
use Rattle.task.specs.Valid.{Valid}
use Rattle.leaf.specs.Price.{mark}
use Rattle.layer.specs.Layer.{start_leaf, leaf_part, next_centre, applies_to}
use Rattle.layer.specs.Layer.Leaf.{start_leaf_cases, pass_leaf_from}
use Rattle.price.specs.Ways.{centre_along, Open, stop, Staged, last, staged_cost}
use Rattle.price.specs.Sequences.{cost_of_snoc}
use Rattle.search.specs.Explore.{Search, node_at}
use Rattle.search.specs.Plan.{Back, begins, back_in, over, stages, path_to}
use Rattle.search.specs.Plan.Lowest.{lowest_is}
use Rattle.search.specs.Plan.Staged.{staged_snoc, staged_cost_snoc, stages_before, stages_last, along_snoc, open_snoc}
use Rattle.search.specs.Plan.Real.{Real, first_spot, first_paid, made_spot, made_paid, node_part, begins_length, begins_cap}
use Rattle.search.specs.Plan.WayBack.{Led, back_works}

-- the price of state x of the leaf behind i leaves in node u
abbrev pub price_in : Task → Search → ℕ → ℕ → ℕ → ℕ
price_in t s i u x = get_or (leaf_part t i (node_at t s u).prices) x mark

-- each leaf ends in a state whose price in node u is below the mark
abbrev pub Priced : Task → Search → ℕ → (ℕ → ℕ) → Type 0
Priced t s u ys = (i : ℕ) → i < t.leaves → price_in t s i u (ys i) < mark

-- ---- inside a node's layer, and over its action

module _ (t : Task) (ok : Valid t) (s : Search) (r : Real t s) (i : ℕ) (m : i < t.leaves) where
  -- the way back inside the layer of a node, from a state whose price is below the mark
  pub back_in_led : (u y : ℕ) → u < length s.kept → price_in t s i u y < mark
      → Led t (suc i) (node_at t s u).spot (begins t s i u) (leaf_part t i (node_at t s u).prices) y (back_in t s i u y)
  unfolding back_in
  back_in_led u y h p =
      back_works t ok i m (node_at t s u).spot (begins t s i u) (begins_length t s i u) (begins_cap t s i u) (leaf_part t i (node_at t s u).prices) y (node_part t s r i u m h) p

  -- back over the action of a node, from a state that has kept its price: the action leads from there, and the price is the same
  pub over_is : (u z : ℕ) → price_in t s i (suc u) z < mark → get_or (begins t s i (suc u)) z mark ≡ price_in t s i (suc u) z
      → (over t s i (suc u) z < states t (suc i)) × (to t (suc i) (node_at t s (suc u)).action (over t s i (suc u) z) ≡ suc z)
      × (price_in t s i (node_at t s (suc u)).parent (over t s i (suc u) z) ≡ price_in t s i (suc u) z)
  unfolding over begins
  over_is u z h e =
      let n = node_at t s (suc u) in
      let P = leaf_part t i (node_at t s n.parent).prices in
      let Q = leaf_part t i n.prices in
      let (x, hx, f, q) = pass_leaf_from t (suc i) n.action P z (omega arith) in
      let g : get_or P x mark ≡ get_or Q z mark = sym q ∙ e in
      let d =
      lowest_is (states t (suc i)) (λ x. eqb (to t (suc i) n.action x) (suc z) && eqb (get_or P x mark) (get_or Q z mark)) x hx
      (and_in (eq-eqb (to t (suc i) n.action x) (suc z) f) (eq-eqb (get_or P x mark) (get_or Q z mark) g)) in
      let w = and_out (eqb (to t (suc i) n.action (over t s i (suc u) z)) (suc z)) _ d.passes in
      (d.inside, eqb-true (to t (suc i) n.action (over t s i (suc u) z)) (suc z) w.0, eqb-true (get_or P (over t s i (suc u) z) mark) (get_or Q z mark) w.1)

-- ---- the path

-- what the path to node u leaves true
pub record Reached (t : Task) (s : Search) (u : ℕ) (p : List ℕ) : Type 0 where
  pub passable : Open t (centre t (initial t)) p
  pub spot : centre_along t (centre t (initial t)) p ≡ (node_at t s u).spot
  pub paid : cost_of t p ≡ (node_at t s u).paid

module _ (t : Task) (s : Search) (r : Real t s) where
  -- the empty path
  reached_none : Reached t s 0 []
  unfolding centre_along cost_of
  reached_none = record { passable = stop; spot = sym (first_spot t s r); paid = sym (first_paid t s r) }

  -- one more node
  reached_more : (u : ℕ) (p : List ℕ) → suc u < length s.kept → Reached t s (node_at t s (suc u)).parent p → Reached t s (suc u) (p ++ ((node_at t s (suc u)).action ∷ []))
  unfolding applies_to
  reached_more u p h d =
      let a = (node_at t s (suc u)).action in
      let v = node_at t s (node_at t s (suc u)).parent in
      let w = and_out (centre_meets (factor t) (condition t a) v.spot) _ (r.applied u h) in
      record {
        passable = open_snoc t a d.passable (r.known u h) (r.central u h) (rw d.spot w.0);
        spot = along_snoc t (centre t (initial t)) p a ∙ ap (λ (c : Centre). next_centre t a c) d.spot ∙ sym (made_spot t s r u h);
        paid = omega (arith, cost_of_snoc t p a, d.paid, made_paid t s r u h);
      }

  -- the path to a node
  pub path_reached : (fuel u : ℕ) → u ≤ fuel → u < length s.kept → Reached t s u (path_to t s fuel u)
  unfolding path_to
  path_reached zero zero l h = reached_none
  path_reached zero (suc u) l h = absurd (omega arith)
  path_reached (suc fuel) zero l h = reached_none
  path_reached (suc fuel) (suc u) l h =
      reached_more u (path_to t s fuel (node_at t s (suc u)).parent) h
      (path_reached fuel (node_at t s (suc u)).parent (omega (arith, r.lower u h)) (omega (arith, r.lower u h)))

-- ---- the stages

-- there is one stage for each layer
pub stages_length : (t : Task) (s : Search) (i fuel u y : ℕ) → length (stages t s i fuel u y) ≡ suc (length (path_to t s fuel u))
unfolding stages path_to
stages_length t s i zero u y = refl
stages_length t s i (suc fuel) zero y = refl
stages_length t s i (suc fuel) (suc u) y =
    simp length-append (omega (arith, stages_length t s i fuel (node_at t s (suc u)).parent (over t s i (suc u) (back_in t s i (suc u) y).from)))

-- stages that are a way of the leaf behind i leaves along a path to y, at cost k
pub record Walked (t : Task) (i : ℕ) (p : List ℕ) (xs : List (List ℕ)) (y k : ℕ) : Type 0 where
  pub staged : Staged t (suc i) (centre t (initial t)) (number t (suc i) (initial t)) p (λ j. get_or xs j []) y
  pub total : staged_cost t (λ j. get_or xs j []) p ≡ k

module _ (t : Task) (ok : Valid t) (s : Search) (r : Real t s) (i : ℕ) (m : i < t.leaves) where
  -- the layer of node 0
  walked_none : (y : ℕ) → price_in t s i 0 y < mark → Walked t i [] ((back_in t s i 0 y).acts ∷ []) y (price_in t s i 0 y)
  unfolding staged_cost begins
  walked_none y h = go (back_in t s i 0 y) (back_in_led t ok s r i m 0 y r.some h) (start_leaf_cases t (suc i) (back_in t s i 0 y).from)
    where
      go : (b : Back) → Led t (suc i) (node_at t s 0).spot (start_leaf t (suc i)) (leaf_part t i (node_at t s 0).prices) y b
          → (get_or (start_leaf t (suc i)) b.from mark ≡ mark) ⊎ ((b.from ≡ number t (suc i) (initial t)) × (get_or (start_leaf t (suc i)) b.from mark ≡ 0))
          → Walked t i [] (b.acts ∷ []) y (price_in t s i 0 y)
      go b d (inl e) = absurd (omega (arith, d.below, d.kept))
      go b d (inr (e, f)) = record { staged = last (rw (first_spot t s r, e) at d.steps); total = omega (arith, d.total, d.kept) }

  -- one more node
  walked_more : (u y : ℕ) (p : List ℕ) (xs : List (List ℕ)) (b : Back) → suc u < length s.kept → length xs ≡ suc (length p) → Reached t s (node_at t s (suc u)).parent p
      → Led t (suc i) (node_at t s (suc u)).spot (begins t s i (suc u)) (leaf_part t i (node_at t s (suc u)).prices) y b
      → to t (suc i) (node_at t s (suc u)).action (over t s i (suc u) b.from) ≡ suc b.from
      → Walked t i p xs (over t s i (suc u) b.from) (price_in t s i (suc u) b.from)
      → Walked t i (p ++ ((node_at t s (suc u)).action ∷ [])) (xs ++ (b.acts ∷ [])) y (price_in t s i (suc u) y)
  walked_more u y p xs b h n d led e w =
      let a = (node_at t s (suc u)).action in
      let q = stages_last xs b.acts (length p) n in
      let spot : (node_at t s (suc u)).spot ≡ next_centre t a (centre_along t (centre t (initial t)) p) = made_spot t s r u h ∙ ap (λ (c : Centre). next_centre t a c) (sym d.spot) in
      record {
        staged = staged_snoc t (suc i) a (λ j. get_or (xs ++ (b.acts ∷ [])) j []) w.staged (r.known u h) e (rw (spot, ← q) at led.steps) (λ k l. stages_before xs b.acts (length p) k n l);
        total = omega (
          arith,
          staged_cost_snoc t a (λ j. get_or xs j []) (λ j. get_or (xs ++ (b.acts ∷ [])) j []) p (λ k l. stages_before xs b.acts (length p) k n l),
          w.total,
          led.total,
          ap (λ (ys : List ℕ). cost_of t ys) q,
        );
      }

  -- a leaf's stages from node 0 to a node
  pub stages_walked : (fuel u y : ℕ) → u ≤ fuel → u < length s.kept → price_in t s i u y < mark
      → Walked t i (path_to t s fuel u) (stages t s i fuel u y) y (price_in t s i u y)
  unfolding stages path_to
  stages_walked zero zero y l h p = walked_none y p
  stages_walked zero (suc u) y l h p = absurd (omega arith)
  stages_walked (suc fuel) zero y l h p = walked_none y p
  stages_walked (suc fuel) (suc u) y l h p =
      let v = (node_at t s (suc u)).parent in
      let b = back_in t s i (suc u) y in
      let led = back_in_led t ok s r i m (suc u) y h p in
      let (k, e, q) = over_is t ok s r i m u b.from led.below led.kept in
      let low = r.lower u h in
      let w = stages_walked fuel v (over t s i (suc u) b.from) (omega arith) (omega arith) (omega (arith, led.below)) in
      walked_more u y (path_to t s fuel v) (stages t s i fuel v (over t s i (suc u) b.from)) b h (stages_length t s i fuel v (over t s i (suc u) b.from))
      (path_reached t s r fuel v (omega arith) (omega arith)) led e (rw q at w)
