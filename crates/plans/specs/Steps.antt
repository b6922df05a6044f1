-- The walk back from node to node: what is left of the plan, from here, ends as the whole does from the start. Assumes nothing.
use Rattle.std.specs.Prelude.{◌≡◌, refl, List, ◌∷◌, ◌++◌, get_or}
use Rattle.std.proofs.Common.{sym, ap, ap₂, ◌∙◌, not-suc-le-zero, suc-mul, mul-le-mul_right, length-append}
use Prim.Native.Nat.{ℕ, zero, suc, ◌+◌, ◌-◌, ◌*◌, ◌≤◌, ◌<◌}
use native.Mathlib.Omega.{arith}
use Rattle.std.proofs.Math.ListN.{length}
use Rattle.std.proofs.lemmas.List.{length-reverse}
use Rattle.task.specs.declared.Task.{Task}
use Rattle.leaf.specs.Price.{mark}
use Rattle.leaf.specs.Settle.Steps.{price_in_lem}
use Rattle.layer.specs.Layer.{leaf_part}
use Rattle.layer.specs.Board.{Board, Sound, base_on, row_on, states_on}
use Rattle.layer.specs.Board.Laws.{states_on_lem}
use Rattle.search.specs.Explore.{Search, node_at}
use Rattle.search.specs.Plan.{Back, begins, back_in, over}
use Rattle.search.specs.Plan.Backwards.{layer_back, states_before, plan_back, plan_back_last, plan_back_more, plan_back_ext}
use Rattle.search.specs.Plan.Laid.{laid, laid_append}
use Rattle.search.specs.Plan.Stages.{price_in, Priced, back_in_led, over_is}
use Rattle.plans.specs.Walk.{node_on, back_on, WalkableOn, over_on, backs, LayerWalked, NodeWalked}
use Rattle.plans.specs.Fit.{back_short, Grounds, search_on, node_on_lem, inside, parent_below, prices_on_lem, prices_length, walk_on, way_on, over_on_lem}

-- ---- the actions of a layer

-- they depend on the ways below n
backs_ext : (f g : ℕ → Back) (n : ℕ) → ((i : ℕ) → i < n → f i ≡ g i) → backs f n ≡ backs g n
unfolding backs
backs_ext f g zero h = refl
backs_ext f g (suc n) h = rw (h n (omega arith), backs_ext f g n (λ i l. h i (omega arith)))

module _ (b : Board) (sound : Sound b) where
  -- of ways that have no more actions than their leaf has states there are no more than these leaves have
  backs_few : (f : ℕ → Back) (n : ℕ) → n ≤ b.leaves → ((i : ℕ) → i < n → length (f i).acts ≤ states_on b i) → length (backs f n) ≤ base_on b n
  unfolding backs
  backs_few f zero l h = omega arith
  backs_few f (suc n) l h =
      let one : n + 1 ≡ suc n = omega arith in
      let rise : base_on b n ≤ base_on b (suc n) = rw one at (sound.bases_rise n (omega arith)) in
      let here : length (f n).acts ≤ base_on b (suc n) - base_on b n = rw one at (h n (omega arith)) in
      simp (length-append, length-reverse) (omega (arith, here, rise, backs_few f n (omega arith) (λ i k. h i (omega arith))))

  -- a layer has no more of them than there are leaf states
  pub layer_few : (starts T : List ℕ) (u : ℕ) (ys : ℕ → ℕ) → ((i : ℕ) → i < b.leaves → WalkableOn b starts T i u (ys i))
      → length (backs (λ i. back_on b starts T i u (ys i)) b.leaves) ≤ row_on b
  layer_few starts T u ys walks =
      backs_few (λ i. back_on b starts T i u (ys i)) b.leaves (omega arith) (λ i l. back_short b starts T i u (ys i) (walks i l))

-- those of a task's layer
layer_backs : (t : Task) (s : Search) (u : ℕ) (ys : ℕ → ℕ) (n : ℕ) → layer_back t s u ys n ≡ backs (λ i. back_in t s i u (ys i)) n
unfolding layer_back backs
layer_backs t s u ys zero = refl
layer_backs t s u ys (suc n) = rw (layer_backs t s u ys n)

-- ---- a node more

-- what is left at node u, where the leaves end in the states ys and p actions are written, ends as the whole list does from the start
pub record Left (t : Task) (s : Search) (total : ℕ) (whole plan₀ : List ℕ) (u : ℕ) (ys : ℕ → ℕ) (p : ℕ) (plan : List ℕ) : Type 0 where
  pub fuel : ℕ
  pub enough : u ≤ fuel
  pub end : p + length (plan_back t s fuel u ys) ≡ length whole
  pub written : laid total p (plan_back t s fuel u ys) plan ≡ laid total 0 whole plan₀

module _ (t : Task) (s : Search) (total : ℕ) (whole plan₀ : List ℕ) (u : ℕ) (ys : ℕ → ℕ) (f : ℕ → Back) (p : ℕ) (plan : List ℕ) (r : ℕ)
    (ends' plan' : List ℕ) where
  -- a node's layer, its action, and over it
  left_more : (go : ℕ → ℕ → ℕ) → ((i : ℕ) → i < t.leaves → f i ≡ back_in t s i (suc u) (ys i))
      → ((i z : ℕ) → i < t.leaves → go i z ≡ over t s i (suc u) z) → (node_at t s (suc u)).parent < suc u
      → NodeWalked t.leaves f (node_at t s (suc u)).action go total p plan r ends' plan' → Left t s total whole plan₀ (suc u) ys p plan
      → Left t s total whole plan₀ (node_at t s (suc u)).parent (λ i. get_or ends' i 0) r plan'
  unfolding laid
  left_more go ways overs low w l = step l.fuel l.enough l.end l.written
    where
      v : ℕ
      v = (node_at t s (suc u)).parent

      a : ℕ
      a = (node_at t s (suc u)).action

      X : List ℕ
      X = backs f t.leaves

      R : ℕ → List ℕ
      R fuel = plan_back t s fuel v (λ i. get_or ends' i 0)

      states : (i : ℕ) → i < t.leaves → states_before t s (suc u) ys i ≡ get_or ends' i 0
      states i m = sym (w.states i m ∙ overs i (f i).from m ∙ ap (λ (b : Back). over t s i (suc u) b.from) (ways i m))

      parts : (fuel : ℕ) → plan_back t s (suc fuel) (suc u) ys ≡ X ++ (a ∷ R fuel)
      parts fuel =
          plan_back_more t s fuel u ys
          ∙ ap₂ {C = List ℕ} (λ xs rest. xs ++ (a ∷ rest)) (layer_backs t s (suc u) ys t.leaves ∙ sym (backs_ext f _ t.leaves ways))
          (plan_back_ext t s fuel v (states_before t s (suc u) ys) (λ i. get_or ends' i 0) states)

      step : (fuel : ℕ) → suc u ≤ fuel → p + length (plan_back t s fuel (suc u) ys) ≡ length whole
          → laid total p (plan_back t s fuel (suc u) ys) plan ≡ laid total 0 whole plan₀ → Left t s total whole plan₀ v (λ i. get_or ends' i 0) r plan'
      step zero b e q = absurd (not-suc-le-zero b)
      step (suc fuel) b e q =
          record {
            fuel = fuel;
            enough = omega arith;
            end = omega (arith, w.place, simp length-append at (ap length (parts fuel)));
            written =
                rw (w.place, w.written)
                (sym (laid_append total p X (a ∷ R fuel) plan) ∙ sym (ap (λ (xs : List ℕ). laid total p xs plan) (parts fuel)) ∙ q);
          }

  -- the layer of node 0 is the last
  pub left_last : ((i : ℕ) → i < t.leaves → f i ≡ back_in t s i 0 (ys i)) → LayerWalked t.leaves f total p plan r ends' plan'
      → Left t s total whole plan₀ 0 ys p plan → (r ≡ length whole) × (plan' ≡ laid total 0 whole plan₀)
  left_last ways w l =
      let parts : plan_back t s l.fuel 0 ys ≡ backs f t.leaves =
      plan_back_last t s l.fuel ys ∙ layer_backs t s 0 ys t.leaves ∙ sym (backs_ext f _ t.leaves ways) in
      (omega (arith, w.place, l.end, ap length parts), w.written ∙ sym (ap (λ (xs : List ℕ). laid total p xs plan) parts) ∙ l.written)

-- ---- by the tables of a task

module _ (t : Task) (b : Board) (starts T : List ℕ) (count : ℕ) (g : Grounds t b starts T count) (u : ℕ) (ys : ℕ → ℕ) (h : u < count)
    (priced : Priced t (search_on b T count) u ys) where
  -- a leaf of the board is one of the task
  leaf : (i : ℕ) → i < b.leaves → i < t.leaves
  leaf i l = rw g.fits.leaves_is at l

  -- each leaf can be walked back
  pub walks : (i : ℕ) → i < b.leaves → WalkableOn b starts T i u (ys i)
  walks i l = walk_on t b starts T count g i (leaf i l) u (ys i) h (priced i (leaf i l))

  -- by the way of the task
  ways : (i : ℕ) → i < t.leaves → back_on b starts T i u (ys i) ≡ back_in t (search_on b T count) i u (ys i)
  ways i m = way_on t b starts T count g i m u (ys i) h (priced i m)

  -- each way begins in a state that has kept its price
  led : (i : ℕ) → i < t.leaves → (price_in t (search_on b T count) i u (back_on b starts T i u (ys i)).from < mark)
      × (get_or (begins t (search_on b T count) i u) (back_on b starts T i u (ys i)).from mark
      ≡ price_in t (search_on b T count) i u (back_on b starts T i u (ys i)).from)
  led i m =
      let d = back_in_led t g.valid (search_on b T count) g.real i m u (ys i) (inside t b starts T count g u h) (priced i m) in
      rw (ways i m) (d.below, d.kept)

  -- which is one of its leaf
  pub lands : (i : ℕ) → i < b.leaves → (back_on b starts T i u (ys i)).from < states_on b i
  lands i l =
      let m = leaf i l in
      let inside = price_in_lem mark (leaf_part t i (node_at t (search_on b T count) u).prices) _ (led i m).0 in
      let same = ap length (prices_on_lem t b starts T count g i m u h) in
      omega (arith, inside, same, prices_length t b starts T count g i m u h, states_on_lem t b g.fits i m)

-- over a node's action each leaf is in a state of the parent's layer whose price is below the mark, and what is left there ends as the whole
pub node_walked : (t : Task) (b : Board) (starts T : List ℕ) (count : ℕ) (g : Grounds t b starts T count) (u : ℕ) (ys : ℕ → ℕ) → u < count → 0 < u
    → Priced t (search_on b T count) u ys → (total : ℕ) (whole plan₀ : List ℕ) (p : ℕ) (plan : List ℕ) (r : ℕ) (ends' plan' : List ℕ)
    → NodeWalked b.leaves (λ i. back_on b starts T i u (ys i)) (node_on b T u).action (λ i z. over_on b T i u z) total p plan r ends' plan'
    → Left t (search_on b T count) total whole plan₀ u ys p plan
    → Priced t (search_on b T count) (node_on b T u).parent (λ i. get_or ends' i 0)
    × Left t (search_on b T count) total whole plan₀ (node_on b T u).parent (λ i. get_or ends' i 0) r plan'
node_walked t b starts T count g zero ys h z priced total whole plan₀ p plan r ends' plan' w l = absurd (not-suc-le-zero z)
node_walked t b starts T count g (suc u) ys h z priced total whole plan₀ p plan r ends' plan' w l =
    rw (← node_on_lem t b starts T count g (suc u) h) (next, rest)
  where
    s : Search
    s = search_on b T count

    next : Priced t s (node_at t s (suc u)).parent (λ i. get_or ends' i 0)
    next i m =
        let z = (back_on b starts T i (suc u) (ys i)).from in
        let q : get_or ends' i 0 ≡ over t s i (suc u) z = w.states i (rw g.fits.leaves_is m) ∙ over_on_lem t b starts T count g i m u z h in
        let (below, kept) = led t b starts T count g (suc u) ys h priced i m in
        let (_, _, e) = over_is t g.valid s g.real i m u z below kept in
        rw (q, e) below

    rest : Left t s total whole plan₀ (node_at t s (suc u)).parent (λ i. get_or ends' i 0) r plan'
    rest =
        left_more t s total whole plan₀ u ys (λ i. back_on b starts T i (suc u) (ys i)) p plan r ends' plan' (λ i z. over_on b T i (suc u) z)
        (ways t b starts T count g (suc u) ys h priced) (λ i z m. over_on_lem t b starts T count g i m u z h)
        (g.real.lower u (inside t b starts T count g (suc u) h))
        (rw (node_on_lem t b starts T count g (suc u) h, ← g.fits.leaves_is) w) l

-- ---- from the first node to the last

-- at node u, behind p actions: each leaf has a price, and what is left ends as the whole walk from `node` does
pub record Along (t : Task) (s : Search) (node : ℕ) (ends : List ℕ) (total : ℕ) (plan₀ : List ℕ) (u : ℕ) (states : List ℕ) (p : ℕ) (plan : List ℕ)
    : Type 0 where
  pub priced : Priced t s u (λ i. get_or states i 0)
  pub left : Left t s total (plan_back t s node node (λ i. get_or ends i 0)) plan₀ u (λ i. get_or states i 0) p plan

-- where the walk begins
pub along_none : (t : Task) (s : Search) (node : ℕ) (ends : List ℕ) (total : ℕ) (plan : List ℕ) → Priced t s node (λ i. get_or ends i 0)
    → Along t s node ends total plan node ends 0 plan
along_none t s node ends total plan q = record { priced = q; left = record { fuel = node; enough = omega arith; end = omega arith; written = refl } }

module _ (t : Task) (b : Board) (starts T : List ℕ) (count : ℕ) (g : Grounds t b starts T count) (node : ℕ) (ends : List ℕ) (total : ℕ) (plan₀ : List ℕ)
    (u : ℕ) (states : List ℕ) (p : ℕ) (plan : List ℕ) (h : u < count) (a : Along t (search_on b T count) node ends total plan₀ u states p plan)
    (r : ℕ) (states' plan' : List ℕ) where
  -- one node more
  pub along_more : 0 < u → (v : ℕ) → v ≡ (node_on b T u).parent
      → NodeWalked b.leaves (λ i. back_on b starts T i u (get_or states i 0)) (node_on b T u).action (λ i z. over_on b T i u z)
      total p plan r states' plan'
      → Along t (search_on b T count) node ends total plan₀ v states' r plan'
  along_more z v e w =
      let (q, l) = node_walked t b starts T count g u (λ i. get_or states i 0) h z a.priced total _ plan₀ p plan r states' plan' w a.left in
      rw e (record { priced = q; left = l })

  -- its actions are few
  pub along_few : 0 < u → (v : ℕ) → v ≡ (node_on b T u).parent
      → NodeWalked b.leaves (λ i. back_on b starts T i u (get_or states i 0)) (node_on b T u).action (λ i z. over_on b T i u z)
      total p plan r states' plan'
      → (v < u) × (r + v * (row_on b + 1) ≤ p + u * (row_on b + 1))
  along_few z v e w =
      let each = walks t b starts T count g u (λ i. get_or states i 0) h a.priced in
      let few = layer_few b g.sound starts T u (λ i. get_or states i 0) each in
      let below : v < u = omega (arith, parent_below t b starts T count g u z h) in
      (below, omega (arith, w.place, few, suc-mul v (row_on b + 1), mul-le-mul_right (row_on b + 1) below))

  -- node 0 is the last
  pub along_end : u ≡ 0 → LayerWalked b.leaves (λ i. back_on b starts T i u (get_or states i 0)) total p plan r states' plan'
      → let whole = plan_back t (search_on b T count) node node (λ i. get_or ends i 0) in (r ≡ length whole) × (plan' ≡ laid total 0 whole plan₀)
  along_end z w =
      left_last t (search_on b T count) total _ plan₀ 0 (λ i. get_or states i 0) (λ i. back_on b starts T i u (get_or states i 0)) p plan r states' plan'
      (λ i m. ways t b starts T count g u (λ i. get_or states i 0) h a.priced i m
      ∙ ap (λ (v : ℕ). back_in t (search_on b T count) i v (get_or states i 0)) z)
      (rw (← g.fits.leaves_is) w) (rw z at a.left)
