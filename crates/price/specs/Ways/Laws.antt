-- Laws of ways: one behind the other, cut in two, inside the leaf's states, and by their actions. Assumes nothing.
use Rattle.std.specs.Prelude.{◌≡◌, ℕ, zero, suc, ◌+◌, ◌<◌}
use Rattle.std.proofs.Math.Path.{refl}
use mathlib.Core.List.{List, [], ◌∷◌, ◌++◌, append-nil}
use native.Mathlib.Omega.{arith}
use Rattle.task.specs.declared.Task.{Task}
use Rattle.task.specs.declared.Centre.{Centre}
use Rattle.task.specs.Meaning.{cost, cost_of}
use Rattle.task.specs.Factors.{states, to}
use Rattle.task.specs.Valid.{Valid}
use Rattle.task.specs.Star.{to_in}
use Rattle.layer.specs.Layer.{next_centre}
use Rattle.price.specs.Ways.{centre_along, Step, Way, done, move, cross, none, then, Staged, last, over, staged_cost}

module _ (t : Task) (l : ℕ) where
  -- ---- one behind the other

  -- two ways one behind the other
  pub way_append : {c : Centre} {x y z w k : ℕ} {p q : List ℕ} (j : ℕ) → Way t l c x p y w → Way t l (centre_along t c p) y q z k → j ≡ w + k
      → Way t l c x (p ++ q) z j
  unfolding centre_along
  way_append {k} j done v e = let f : j ≡ k = omega arith in rw f v
  way_append {k} j (move {w = w} a s r e) v f = move {k = j} a s (way_append (w + k) r v refl) (omega arith)
  way_append j (cross a m e r) v f = cross a m e (way_append j r v f)

  -- a way along a path that begins with a: inside the first layer, over a, and on
  pub record Head (c : Centre) (x a : ℕ) (p : List ℕ) (z k : ℕ) : Type 0 where
    pub source : ℕ
    pub target : ℕ
    pub front : ℕ
    pub back : ℕ
    pub before : Way t l c x [] source front
    pub known : a < t.actions
    pub takes : to t l a source ≡ suc target
    pub behind : Way t l (next_centre t a c) target p z back
    pub total : k ≡ front + back

  -- every such way is of this form
  pub way_head : {c : Centre} {x a z k : ℕ} {p : List ℕ} → Way t l c x (a ∷ p) z k → Head c x a p z k
  way_head (move b s r e) =
      let d = way_head r in
      record {
        source = d.source;
        target = d.target;
        front = cost t b + d.front;
        back = d.back;
        before = move b s d.before refl;
        known = d.known;
        takes = d.takes;
        behind = d.behind;
        total = omega (arith, d.total);
      }
  way_head (cross {x} {y} {w} a m e r) =
      record { source = x; target = y; front = 0; back = w; before = done; known = m; takes = e; behind = r; total = omega arith }

  -- a way along two paths, cut between them
  pub record Cut (c : Centre) (x : ℕ) (p q : List ℕ) (z k : ℕ) : Type 0 where
    pub middle : ℕ
    pub front : ℕ
    pub back : ℕ
    pub before : Way t l c x p middle front
    pub behind : Way t l (centre_along t c p) middle q z back
    pub total : k ≡ front + back

  -- every way along two paths can be cut
  pub way_cut : {c : Centre} {x z k : ℕ} (p q : List ℕ) → Way t l c x (p ++ q) z k → Cut c x p q z k
  unfolding centre_along
  way_cut {x} {k} [] q w = record { middle = x; front = 0; back = k; before = done; behind = w; total = omega arith }
  way_cut {c = c} (a ∷ p) q w =
      let d = way_head w in
      let e = way_cut {c = next_centre t a c} p q d.behind in
      record {
        middle = e.middle;
        front = d.front + e.front;
        back = e.back;
        before = way_append (d.front + e.front) d.before (cross a d.known d.takes e.before) refl;
        behind = e.behind;
        total = omega (arith, d.total, e.total);
      }

  -- a way along a path that ends with a: along what is before a, over a, and inside the last layer
  pub record Last (c : Centre) (x : ℕ) (p : List ℕ) (a z k : ℕ) : Type 0 where
    pub source : ℕ
    pub target : ℕ
    pub front : ℕ
    pub back : ℕ
    pub before : Way t l c x p source front
    pub known : a < t.actions
    pub takes : to t l a source ≡ suc target
    pub behind : Way t l (next_centre t a (centre_along t c p)) target [] z back
    pub total : k ≡ front + back

  -- every such way is of this form
  pub way_last : {c : Centre} {x z k : ℕ} (p : List ℕ) (a : ℕ) → Way t l c x (p ++ (a ∷ [])) z k → Last c x p a z k
  way_last p a w =
      let d = way_cut p (a ∷ []) w in
      let e = way_head d.behind in
      record {
        source = e.source;
        target = e.target;
        front = d.front + e.front;
        back = e.back;
        before = rw append-nil at (way_append (d.front + e.front) d.before e.before refl);
        known = e.known;
        takes = e.takes;
        behind = e.behind;
        total = omega (arith, d.total, e.total);
      }

  -- ---- inside the leaf's states

  -- a way ends in a state of the leaf
  pub way_in : Valid t → {c : Centre} {x z k : ℕ} {p : List ℕ} → x < states t l → Way t l c x p z k → z < states t l
  way_in ok h done = h
  way_in ok h (move {x} {y} a s r e) = way_in ok (to_in t ok l a x y s.known s.takes) r
  way_in ok h (cross {x} {y} a m e r) = way_in ok (to_in t ok l a x y m e) r

  -- ---- by their actions

  -- the stages xs, f 0, f 1, ..
  abbrev stage : List ℕ → (ℕ → List ℕ) → ℕ → List ℕ
  stage xs f zero = xs
  stage xs f (suc k) = f k

  -- one more action in the first layer
  staged_more : {c : Centre} {x y z : ℕ} {p : List ℕ} {f : ℕ → List ℕ} (a : ℕ) → Step t l c a x y → Staged t l c y p f z
      → Staged t l c x p (stage (a ∷ f 0) (λ k. f (suc k))) z
  staged_more a s (last r) = last (then a s r)
  staged_more a s (over b r m e g) = over b (then a s r) m e g

  -- and its cost more
  staged_cost_more : (a : ℕ) (f : ℕ → List ℕ) (p : List ℕ) → staged_cost t (stage (a ∷ f 0) (λ k. f (suc k))) p ≡ cost t a + staged_cost t f p
  unfolding staged_cost cost_of
  staged_cost_more a f [] = refl
  staged_cost_more a f (b ∷ p) = omega arith

  -- a way, by its actions in each layer
  pub way_staged : {c : Centre} {x z k : ℕ} {p : List ℕ} → Way t l c x p z k → (f : ℕ → List ℕ) × (Staged t l c x p f z × (staged_cost t f p ≡ k))
  unfolding staged_cost cost_of
  way_staged done = (λ k. [], (last none, refl))
  way_staged (move {p} a s r e) =
      let d = way_staged r in
      (stage (a ∷ d.0 0) (λ k. d.0 (suc k)), (staged_more a s d.1.0, omega (arith, staged_cost_more a d.0 p, d.1.1)))
  way_staged (cross {p} a m e r) =
      let d = way_staged r in
      (stage [] d.0, (over a none m e d.1.0, omega (arith, d.1.1)))
