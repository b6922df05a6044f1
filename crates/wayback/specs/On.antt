-- The walk back by tables that fit a task (Fits) is the task's. Assumes nothing.
use Rattle.std.specs.Prelude.{◌≡◌, ◌⊎◌, Bool, true, false, cond, ◌&&◌, List, [], ◌∷◌, ◌++◌, ℕ, zero, suc, ◌+◌, ◌*◌, ◌≤◌, ◌<◌, eqb, length, get_or}
use Rattle.std.proofs.Math.Path.{refl}
use Rattle.std.proofs.Common.{sym, ap, ◌∙◌, inl, inr, true≢false, add_assoc, arith, length-append, eq-eqb, eqb-true}
use Rattle.loops.specs.Count.{any}
use Rattle.loops.specs.Count.Laws.{test_cases, any_ext}
use Rattle.task.specs.declared.Task.{Task}
use Rattle.task.specs.declared.Centre.{Centre}
use Rattle.task.specs.Meaning.{cost, factor, condition}
use Rattle.task.specs.Factors.{states, to, leaf_action}
use Rattle.task.specs.Centre.{centre_meets}
use Rattle.task.specs.Valid.{Valid}
use Rattle.leaf.specs.Price.{mark}
use Rattle.leaf.specs.Settle.Walks.{Capped}
use Rattle.leaf.specs.Settle.Steps.{price_in_lem}
use Rattle.layer.specs.Layer.{enabled_to, enabled, settle_leaf}
use Rattle.layer.specs.Layer.Leaf.{enabled_at, leaf_length}
use Rattle.layer.specs.Board.{Board, Fits, Sound, row_on, base_on, enabled_on}
use Rattle.layer.specs.Board.Laws.{states_on_lem, enabled_on_lem}
use Rattle.layer.specs.Board.Turns.{leaf_lent}
use Rattle.search.specs.Plan.{lowest, tight, tight_to, depths, source, back}
use Rattle.search.specs.Plan.Depths.{tight_in, tight_out, tight_to_in, tight_to_out, depth_all}
use Rattle.wayback.specs.Steps.{tight_at, tight_by, depths_by, source_by, entry_by, origin_by, back_by, way_by, table_depths, table_back, Walkable}
use Rattle.wayback.specs.Lowest.{lowest_ext}
use Rattle.wayback.specs.Sources.{depths_ext, depths_sourced, back_ext}
use Rattle.wayback.specs.Tight.{tight_ranged}

-- ---- of a task

-- the task's tight edges, by the actions of a list
abbrev edges_in : Task → ℕ → List ℕ → List ℕ → ℕ → ℕ → ℕ
edges_in t l acts P j x = tight_to t l P (get_or acts j 0) x

-- an edge leads to y just where the action does, at the right price
tight_is : (t : Task) (l : ℕ) (P : List ℕ) (a x y : ℕ) → eqb (tight_to t l P a x) (suc y) ≡ tight t l P a x y
tight_is t l P a x y = go (test_cases (eqb (tight_to t l P a x) (suc y))) (test_cases (tight t l P a x y))
  where
    go : (eqb (tight_to t l P a x) (suc y) ≡ true) ⊎ (eqb (tight_to t l P a x) (suc y) ≡ false) → (tight t l P a x y ≡ true) ⊎ (tight t l P a x y ≡ false)
        → eqb (tight_to t l P a x) (suc y) ≡ tight t l P a x y
    go (inl e) w = let u = tight_to_out t l P a x y (eqb-true _ _ e) in e ∙ sym (tight_in t l P a x y u.0 u.1)
    go (inr e) (inl f) = let u = tight_out t l P a x y f in absurd (true≢false (sym (eq-eqb _ _ (tight_to_in t l P a x y u.0 u.1)) ∙ e))
    go (inr e) (inr f) = e ∙ sym f

-- where an action leads to y, only the price counts
tight_price : (t : Task) (l : ℕ) (P : List ℕ) (a x y : ℕ) → to t l a x ≡ suc y → tight t l P a x y ≡ eqb (get_or P x mark + cost t a) (get_or P y mark)
unfolding tight
tight_price t l P a x y e = rw (eq-eqb (to t l a x) (suc y) e)

-- an edge of a task is that of its move
tight_to_at : (t : Task) (l : ℕ) (P : List ℕ) (a x : ℕ) → tight_at P x (cost t a) (to t l a x) ≡ tight_to t l P a x
unfolding tight_at tight_to
tight_to_at t l P a x = go (to t l a x) refl
  where
    go : (z : ℕ) → to t l a x ≡ z → tight_at P x (cost t a) (to t l a x) ≡ tight_to t l P a x
    go zero e = rw (e, tight_at, tight_to)
    go (suc y) e = rw (e, tight_at, tight_to, tight_price t l P a x y e)

-- the way back of a task is that by its edges
back_is : (t : Task) (l : ℕ) (acts P D : List ℕ) (k y : ℕ) → back_by (edges_in t l acts P) acts (length acts) (length P) D k y ≡ back t l acts P D k y
unfolding back_by back
back_is t l acts P D zero y = refl
back_is t l acts P D (suc k) y = rw (back_is t l acts P D k (origin_by (edges_in t l acts P) (length acts) (length P) D k y), origin, entry)
  where
    test : (j x : ℕ) → source_by (edges_in t l acts P) D k y j x ≡ source t l P D k y (get_or acts j 0) x
    test j x = unfold source_by source in rw (tight_is t l P (get_or acts j 0) x y)

    entry : entry_by (edges_in t l acts P) (length acts) (length P) D k y ≡ lowest (length acts) (λ j. any (length P) (source t l P D k y (get_or acts j 0)))
    entry = lowest_ext (length acts) _ _ (λ j _. any_ext (length P) _ _ (λ x _. test j x))

    origin : origin_by (edges_in t l acts P) (length acts) (length P) D k y
        ≡ lowest (length P) (source t l P D k y (get_or acts (entry_by (edges_in t l acts P) (length acts) (length P) D k y) 0))
    origin = lowest_ext (length P) _ _ (λ x _. test (entry_by (edges_in t l acts P) (length acts) (length P) D k y) x)

-- there are no more enabled actions than actions
enabled_few : (t : Task) (l : ℕ) (c : Centre) (n : ℕ) → length (enabled_to t l c n) ≤ n
unfolding enabled_to
enabled_few t l c zero = omega arith
enabled_few t l c (suc a) = go (leaf_action t a l && centre_meets (factor t) (condition t a) c) (enabled_few t l c a)
  where
    go : (b : Bool) → length (enabled_to t l c a) ≤ a → length (cond b (enabled_to t l c a ++ (a ∷ [])) (enabled_to t l c a)) ≤ suc a
    go true h = simp length-append (omega arith)
    go false h = omega arith

-- ---- of tables that fit it

-- the lowest state with this price that an action leads to z, by the action's moves from where they begin
pub over_on_lem : (t : Task) (b : Board) (f : Fits t b) (i a : ℕ) (P : List ℕ) (z p : ℕ) → i < t.leaves → a < t.actions → length P ≡ states t (suc i)
    → lowest (length P) (λ x. eqb (get_or b.moves (a * row_on b + base_on b i + x) 0) (suc z) && eqb (get_or P x mark) p)
    ≡ lowest (states t (suc i)) (λ x. eqb (to t (suc i) a x) (suc z) && eqb (get_or P x mark) p)
over_on_lem t b f i a P z p l h e = rw e (lowest_ext (states t (suc i)) _ _ (λ x k. rw (add_assoc, f.moves_is i a x l h k)))

module _ (t : Task) (b : Board) (f : Fits t b) (i : ℕ) (leaf : i < t.leaves) (c : Centre) (acts : List ℕ) (m : ℕ)
    (these : acts ≡ enabled t (suc i) c) (many : m ≡ length acts) where
  -- an edge by the tables is the task's
  tight_on : (P : List ℕ) → length P ≡ states t (suc i) → (j x : ℕ) → j < m → x < length P
      → tight_by b.moves (row_on b) (base_on b i) b.costs acts P j x ≡ edges_in t (suc i) acts P j x
  tight_on P l j x h k =
      let known : get_or acts j 0 < t.actions = rw these (enabled_at t (suc i) c j (omega (arith, ap length these))).0 in
      rw (f.costs_is (get_or acts j 0) known, f.moves_is i (get_or acts j 0) x leaf known (omega arith)) (tight_to_at t (suc i) P (get_or acts j 0) x)

  -- the depths by the tables are the task's
  pub depths_on : (B P : List ℕ) → length P ≡ states t (suc i)
      → table_depths b.moves (row_on b) (base_on b i) b.costs acts m B P ≡ depths t (suc i) acts B P
  unfolding depths_by depths
  depths_on B P l = depths_ext _ m B P (edges_in t (suc i) acts P) (tight_on P l) ∙ rw many

  -- the way back by the tables is the task's
  pub back_on_lem : (B P : List ℕ) (y : ℕ) → length P ≡ states t (suc i) → Walkable b.moves (row_on b) (base_on b i) b.costs acts m B P y
      → table_back b.moves (row_on b) (base_on b i) b.costs acts m B P y
      ≡ back t (suc i) acts P (depths t (suc i) acts B P) (get_or (depths t (suc i) acts B P) y mark) y
  unfolding way_by
  back_on_lem B P y l w =
      let T = tight_by b.moves (row_on b) (base_on b i) b.costs acts P in
      let D = depths_by T m B P in
      let ranged = tight_ranged b.moves (row_on b) (base_on b i) b.costs acts m P w.lent in
      back_ext (length P) m T D (edges_in t (suc i) acts P) (tight_on P l) (depths_sourced T m B P ranged) acts (get_or D y mark) y refl w.deep
      ∙ rw (depths_on B P l, many) (back_is t (suc i) acts P (depths t (suc i) acts B P) (get_or (depths t (suc i) acts B P) y mark) y)

  -- in a settled layer every state with a price can be walked back from
  pub walkable_on : Valid t → Sound b → (B P : List ℕ) (y : ℕ) → length B ≡ states t (suc i) → Capped mark B → P ≡ settle_leaf t (suc i) c B
      → get_or P y mark < mark → Walkable b.moves (row_on b) (base_on b i) b.costs acts m B P y
  walkable_on ok sound B P y l cap e h =
      let long : length P ≡ states t (suc i) = ap length e ∙ leaf_length t (suc i) c B ∙ l in
      let on : acts ≡ enabled_on b i c b.actions =
      these ∙ sym (ap (enabled_on b i c) f.actions_is ∙ enabled_on_lem t b f i c t.actions leaf (omega arith)) in
      record {
        lent = rw (long, ← states_on_lem t b f i leaf) (leaf_lent b i c acts m on many sound (rw f.leaves_is leaf));
        few_actions = omega (arith, enabled_few t (suc i) c t.actions, ap length these, ok.fields.few_actions);
        few_states = omega (arith, ok.whole.few_states i leaf);
        same = l ∙ sym long;
        inside = price_in_lem mark P y h;
        deep = rw (depths_on B P long, these, e) (depth_all t ok i leaf c B l cap y (rw e at h));
      }
