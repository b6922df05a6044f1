-- Ways of all leaves along a path whose centre conditions hold are woven to a sequence that runs. Assumes nothing.
use Rattle.std.specs.Prelude.{◌≡◌, ◌≢◌, ◌⊎◌, true}
use Rattle.std.proofs.Math.Path.{refl, ap}
use Rattle.std.proofs.Common.{sym, ap₂, ◌∙◌, inl, inr, arith, not-suc-le-zero}
use mathlib.Core.List.{List, [], ◌∷◌, ◌++◌}
use Prim.Native.Nat.{ℕ, zero, suc, ◌+◌, ◌≤◌, ◌<◌}
use Rattle.loops.specs.Count.{sum}
use Rattle.loops.specs.Count.Laws.{below_cases, sum_ext}
use Rattle.task.specs.declared.Task.{Task}
use Rattle.task.specs.declared.Centre.{Centre}
use Rattle.task.specs.Meaning.{State, factor, condition, applies, outcome, runs, final, cost_of}
use Rattle.task.specs.Factors.{centre_action, number, to, centre_actions, leaf_cost}
use Rattle.task.specs.Centre.{centre, centre_meets}
use Rattle.task.specs.Valid.{Inside, Valid}
use Rattle.task.specs.Star.{outcome_inside, applies_in, applies_from, leaf_applies_from, centre_next, leaf_centre, leaf_other, leaf_not_centre}
use Rattle.layer.specs.Layer.{joined, next_centre}
use Rattle.price.specs.Sums.{sum_add, gather}
use Rattle.price.specs.Sequences.{runs_cons, runs_join, final_append, final_inside, cost_of_append, centre_actions_append, centre_actions_centre, centre_actions_leaf, leaf_cost_append, leaf_cost_centre, leaf_cost_leaf}
use Rattle.price.specs.Ways.{Open, stop, next, Step, Way, Steps, none, then, Staged, last, over, staged_cost, weave}
use Rattle.price.specs.Ways.Laws.{way_staged}

-- ---- leaf actions alone

-- a sequence of leaf actions that runs from s
pub record Quiet (t : Task) (s : State) (acts : List ℕ) : Type 0 where
  pub carries : runs t s acts ≡ true
  pub still : centre t (final t s acts) ≡ centre t s
  pub centred : centre_actions t acts ≡ []
  pub paid : leaf_cost t acts ≡ cost_of t acts

-- one that takes the leaf behind i leaves to z
record Walked (t : Task) (s : State) (i : ℕ) (acts : List ℕ) (z : ℕ) : Type 0 where
  quiet : Quiet t s acts
  here : number t (suc i) (final t s acts) ≡ z
  others : (j : ℕ) → j ≢ i → number t (suc j) (final t s acts) ≡ number t (suc j) s

-- one that takes each of the first n leaves to its z
record Turned (t : Task) (s : State) (n : ℕ) (acts : List ℕ) (z : ℕ → ℕ) : Type 0 where
  quiet : Quiet t s acts
  low : (i : ℕ) → i < n → number t (suc i) (final t s acts) ≡ z i
  high : (i : ℕ) → n ≤ i → number t (suc i) (final t s acts) ≡ number t (suc i) s

module _ (t : Task) where
  -- no action
  quiet_none : (s : State) → Quiet t s []
  unfolding runs final centre_actions leaf_cost cost_of
  quiet_none s = record { carries = refl; still = refl; centred = refl; paid = refl }

  -- one behind the other
  quiet_join : (s : State) (xs ys : List ℕ) → Quiet t s xs → Quiet t (final t s xs) ys → Quiet t s (xs ++ ys)
  quiet_join s xs ys d e =
      record {
        carries = runs_join t s xs ys d.carries e.carries;
        still = ap (λ (q : State). centre t q) (final_append t s xs ys) ∙ e.still ∙ d.still;
        centred = centre_actions_append t xs ys ∙ ap₂ ◌++◌ d.centred e.centred;
        paid = omega (arith, leaf_cost_append t xs ys, cost_of_append t xs ys, d.paid, e.paid);
      }

  -- what n leaves' actions cost
  pub cost_of_joined : (g : ℕ → List ℕ) (n : ℕ) → cost_of t (joined n g) ≡ sum n (λ i. cost_of t (g i))
  unfolding joined sum cost_of
  cost_of_joined g zero = refl
  cost_of_joined g (suc n) = omega (arith, cost_of_append t (joined n g) (g n), cost_of_joined g n)

module _ (t : Task) (ok : Valid t) where
  -- one leaf action
  step_walks : (s : State) (i a y : ℕ) → i < t.leaves → Inside t s → Step t (suc i) (centre t s) a (number t (suc i) s) y → Walked t s i (a ∷ []) y
  unfolding runs final centre_actions leaf_cost cost_of
  step_walks s i a y l h e =
      let p = leaf_applies_from t ok a i h e.known e.own e.enabled e.takes in
      let c = leaf_not_centre t a i e.own in
      record {
        quiet =
            record {
              carries = runs_cons t s a [] p refl;
              still = leaf_centre t ok s a i e.own;
              centred = centre_actions_leaf t a [] c;
              paid = leaf_cost_leaf t a [] c;
            };
        here = omega (arith, (applies_in t ok a h p).1.1 i l, e.takes);
        others = λ j d. leaf_other t s a i j e.own d;
      }

  -- a leaf's actions one behind the other
  walked_join : (s : State) (i : ℕ) {y z : ℕ} (xs ys : List ℕ) → Walked t s i xs y → Walked t (final t s xs) i ys z → Walked t s i (xs ++ ys) z
  walked_join s i xs ys d e =
      record {
        quiet = quiet_join t s xs ys d.quiet e.quiet;
        here = rw final_append e.here;
        others = λ j n. rw final_append (e.others j n ∙ d.others j n);
      }

  -- a leaf's actions inside a layer
  steps_walk : (i : ℕ) {c : Centre} (s : State) {x z : ℕ} {acts : List ℕ} → i < t.leaves → Inside t s → centre t s ≡ c → number t (suc i) s ≡ x
      → Steps t (suc i) c x acts z → Walked t s i acts z
  unfolding final
  steps_walk i s l h g q none = record { quiet = quiet_none t s; here = q; others = λ j d. refl }
  steps_walk i s l h g q (then {y} {acts} a e r) =
      let d = step_walks s i a y l h (rw (g, q) e) in
      walked_join s i (a ∷ []) acts d (steps_walk i (outcome t a s) l (outcome_inside t ok a e.known h) (d.quiet.still ∙ g) d.here r)

  -- the actions of all leaves inside a layer
  turns : (s : State) (g : ℕ → List ℕ) (z : ℕ → ℕ) → Inside t s → ((i : ℕ) → i < t.leaves → Steps t (suc i) (centre t s) (number t (suc i) s) (g i) (z i))
      → (n : ℕ) → n ≤ t.leaves → Turned t s n (joined n g) z
  unfolding joined final
  turns s g z h w zero m = record { quiet = quiet_none t s; low = λ i k. absurd (not-suc-le-zero k); high = λ i k. refl }
  turns s g z h w (suc n) m = go (turns s g z h w n (omega arith))
    where
      go : Turned t s n (joined n g) z → Turned t s (suc n) (joined n g ++ g n) z
      go d =
          record {
            quiet = quiet_join t s (joined n g) (g n) d.quiet e.quiet;
            low = λ i k. rw final_append (low i (below_cases k));
            high = λ i k. rw final_append (e.others i (omega arith) ∙ d.high i (omega arith));
          }
        where
          e : Walked t (final t s (joined n g)) n (g n) (z n)
          e = steps_walk n (final t s (joined n g)) m (final_inside t ok s (joined n g) h d.quiet.carries) d.quiet.still (d.high n (omega arith)) (w n m)

          low : (i : ℕ) → (i < n) ⊎ (i ≡ n) → number t (suc i) (final t (final t s (joined n g)) (g n)) ≡ z i
          low i (inl k) = e.others i (omega arith) ∙ d.low i k
          low i (inr q) = ap (λ (j : ℕ). number t (suc j) (final t (final t s (joined n g)) (g n))) q ∙ e.here ∙ ap z (sym q)

-- ---- along a path

-- a sequence that runs from s, with just these centre actions, to these leaf states, at this leaf cost
pub record Woven (t : Task) (s : State) (acts path : List ℕ) (z : ℕ → ℕ) (k : ℕ) : Type 0 where
  pub carries : runs t s acts ≡ true
  pub centred : centre_actions t acts ≡ path
  pub lands : (i : ℕ) → i < t.leaves → number t (suc i) (final t s acts) ≡ z i
  pub paid : leaf_cost t acts ≡ k

module _ (t : Task) (l : ℕ) where
  -- the last layer of a way
  staged_last : {c : Centre} {x z : ℕ} {f : ℕ → List ℕ} → Staged t l c x [] f z → Steps t l c x (f 0) z
  staged_last (last r) = r

  -- what a way does from its first layer's end on, over centre action a
  record Onward (c : Centre) (a y : ℕ) (p : List ℕ) (f : ℕ → List ℕ) (z : ℕ) : Type 0 where
    target : ℕ
    takes : to t l a y ≡ suc target
    behind : Staged t l (next_centre t a c) target p (λ k. f (suc k)) z

  staged_over : {c : Centre} {x a z : ℕ} {p : List ℕ} {f : ℕ → List ℕ} → Staged t l c x (a ∷ p) f z → (y : ℕ) × (Steps t l c x (f 0) y × Onward c a y p f z)
  staged_over (over {y} {u} a r m e g) = (y, (r, record { target = u; takes = e; behind = g }))

module _ (t : Task) (ok : Valid t) where
  -- the leaves' actions inside a layer, and a sequence behind them
  woven_layer : (s : State) (g : ℕ → List ℕ) (y : ℕ → ℕ) (acts path : List ℕ) (z : ℕ → ℕ) (k : ℕ) → Turned t s t.leaves (joined t.leaves g) y
      → Woven t (final t s (joined t.leaves g)) acts path z k → Woven t s (joined t.leaves g ++ acts) path z (sum t.leaves (λ i. cost_of t (g i)) + k)
  woven_layer s g y acts path z k d e =
      record {
        carries = runs_join t s (joined t.leaves g) acts d.quiet.carries e.carries;
        centred = centre_actions_append t (joined t.leaves g) acts ∙ ap₂ ◌++◌ d.quiet.centred e.centred;
        lands = λ i l. rw final_append (e.lands i l);
        paid = omega (arith, leaf_cost_append t (joined t.leaves g) acts, d.quiet.paid, cost_of_joined t g t.leaves, e.paid);
      }

  -- a centre action, and a sequence behind it
  woven_centre : (s : State) (a : ℕ) (acts path : List ℕ) (z : ℕ → ℕ) (k : ℕ) → applies t a s ≡ true → centre_action t a ≡ true
      → Woven t (outcome t a s) acts path z k → Woven t s (a ∷ acts) (a ∷ path) z k
  unfolding final
  woven_centre s a acts path z k p c e =
      record {
        carries = runs_cons t s a acts p e.carries;
        centred = centre_actions_centre t a acts c ∙ ap {B = List ℕ} (λ q. a ∷ q) e.centred;
        lands = e.lands;
        paid = leaf_cost_centre t a acts c ∙ e.paid;
      }

  -- the first layer and the first centre action of a path, where the rest of it runs
  module _ (s : State) (f : ℕ → ℕ → List ℕ) (z : ℕ → ℕ) (a : ℕ) (p : List ℕ) (c : Centre) (h : Inside t s) (m : a < t.actions) (b : centre_action t a ≡ true)
      (e : centre_meets (factor t) (condition t a) c ≡ true) (k : ℕ)
      (rest : (s' : State) → Inside t s' → centre t s' ≡ next_centre t a c
      → ((i : ℕ) → i < t.leaves → Staged t (suc i) (next_centre t a c) (number t (suc i) s') p (λ k. f (suc k) i) (z i))
      → Woven t s' (weave t.leaves (λ k. f (suc k)) p) p z k)
    where
      weave_step : (y : ℕ → ℕ) → Turned t s t.leaves (joined t.leaves (f 0)) y → centre t (final t s (joined t.leaves (f 0))) ≡ c
          → ((i : ℕ) → i < t.leaves → Onward t (suc i) c a (y i) p (λ k. f k i) (z i))
          → Woven t s (weave t.leaves f (a ∷ p)) (a ∷ p) z (sum t.leaves (λ i. cost_of t (f 0 i)) + k)
      unfolding weave
      weave_step y d q on =
          woven_layer s (f 0) y (a ∷ weave t.leaves (λ k. f (suc k)) p) (a ∷ p) z k d
          (woven_centre s₁ a _ p z k u b
          (rest (outcome t a s₁) (outcome_inside t ok a m h₁) (centre_next t s₁ a ∙ ap (λ (x : Centre). next_centre t a x) q) λ i l. rw (number_next i l) (on i l).behind))
        where
          s₁ : State
          s₁ = final t s (joined t.leaves (f 0))

          h₁ : Inside t s₁
          h₁ = final_inside t ok s (joined t.leaves (f 0)) h d.quiet.carries

          takes : (i : ℕ) (l : i < t.leaves) → to t (suc i) a (number t (suc i) s₁) ≡ suc (on i l).target
          takes i l = rw (d.low i l) (on i l).takes

          u : applies t a s₁ ≡ true
          u = applies_from t ok a h₁ m (rw q e) (λ i l. ((on i l).target, takes i l))

          number_next : (i : ℕ) (l : i < t.leaves) → number t (suc i) (outcome t a s₁) ≡ (on i l).target
          number_next i l = omega (arith, (applies_in t ok a h₁ u).1.1 i l, takes i l)

  -- the woven sequence runs
  pub weave_runs : (s : State) (f : ℕ → ℕ → List ℕ) (z : ℕ → ℕ) {c : Centre} {p : List ℕ} → Inside t s → centre t s ≡ c → Open t c p
      → ((i : ℕ) → i < t.leaves → Staged t (suc i) c (number t (suc i) s) p (λ k. f k i) (z i))
      → Woven t s (weave t.leaves f p) p z (sum t.leaves (λ i. staged_cost t (λ k. f k i) p))
  unfolding weave staged_cost
  weave_runs s f z h q stop w =
      let d = turns t ok s (f 0) z h (λ i l. rw q (staged_last t (suc i) (w i l))) t.leaves (omega arith) in
      record {
        carries = d.quiet.carries;
        centred = d.quiet.centred;
        lands = λ i l. d.low i l;
        paid = d.quiet.paid ∙ cost_of_joined t (f 0) t.leaves;
      }
  weave_runs s f z {c} h q (next {p} a m b e o) w =
      let (y, on) = gather 0 t.leaves (λ i y. Steps t (suc i) c (number t (suc i) s) (f 0 i) y × Onward t (suc i) c a y p (λ k. f k i) (z i)) (λ i l. staged_over t (suc i) (w i l)) in
      let d = turns t ok s (f 0) y h (λ i l. rw q (on i l).0) t.leaves (omega arith) in
      rw (sum_add t.leaves (λ i. cost_of t (f 0 i)) (λ i. staged_cost t (λ k. f (suc k) i) p))
      (weave_step s f z a p c h m b e (sum t.leaves (λ i. staged_cost t (λ k. f (suc k) i) p))
      (λ s' h' q' w'. weave_runs s' (λ k. f (suc k)) z h' q' o w') y d (d.quiet.still ∙ q) (λ i l. (on i l).1))

  -- ways of all leaves, joined to a sequence
  pub join : (s : State) (z k : ℕ → ℕ) {p : List ℕ} → Inside t s → Open t (centre t s) p
      → ((i : ℕ) → i < t.leaves → Way t (suc i) (centre t s) (number t (suc i) s) p (z i) (k i))
      → (acts : List ℕ) × Woven t s acts p z (sum t.leaves k)
  join s z k {p} h o w =
      let (g, good) =
      gather (λ j. []) t.leaves (λ i g. Staged t (suc i) (centre t s) (number t (suc i) s) p g (z i) × (staged_cost t g p ≡ k i)) (λ i l. way_staged t (suc i) (w i l)) in
      let e = sum_ext t.leaves (λ i. staged_cost t (g i) p) k (λ i l. (good i l).1) in
      (weave t.leaves (λ j i. g i j) p, rw (← e) (weave_runs s (λ j i. g i j) z h refl o (λ i l. (good i l).0)))
