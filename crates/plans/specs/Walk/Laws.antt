-- Laws of rows and goal states by tables, as the code reads them. Assumes nothing.
use Rattle.std.specs.Prelude.{◌≡◌, refl, cond, ◌&&◌, List, ℕ, zero, suc, ◌+◌, ◌-◌, ◌*◌, ◌≤◌, ◌<◌, ltb, eqb, length, get_or, set, take, drop, replicate}
use Rattle.std.proofs.Common.{sym, ◌∙◌, not-suc-le-zero, mul-le-mul, mul-le-mul_left, arith, length-drop, length-take, length-take-le, drop-drop}
use Rattle.std.proofs.Math.Path.{ap}
use Rattle.leaf.specs.Price.{mark}
use Rattle.leaf.specs.Settle.Turns.{at_any}
use Rattle.leaf.specs.Pass.{pass}
use Rattle.layer.specs.Layer.Front.{part_take}
use Rattle.layer.specs.Board.{Board, Sound, base_on, row_on, states_on, pass_on}
use Rattle.layer.specs.Board.Turns.{base_in, leaf_passed}
use Rattle.search.specs.Node.Laws.{list_entry}
use Rattle.search.specs.Plan.{lowest}
use Rattle.rows.specs.Row.{spot_of, node_of, row_in, node_in}
use Rattle.keys.specs.Scan.{goals_by}
use Rattle.wayback.specs.Steps.{table_back, Walkable}
use Rattle.wayback.specs.Ready.{back_kept}
use Rattle.wayback.specs.Walked.{Walked}
use Rattle.plans.specs.Walk.{node_on, prices_on, acts_on, begins_on, back_from, WalkableFrom, back_on, WalkableOn, over_on, RowIn, Roomy}

-- ---- rows

-- the prices of a leaf are a part of its node's row
pub prices_at : (b : Board) (T : List ℕ) (i u : ℕ) → Sound b → i < b.leaves
    → take (40 + base_on b (i + 1) - (40 + base_on b i)) (drop (40 + base_on b i) (row_in (row_on b) T u)) ≡ prices_on b T i u
unfolding node_of
prices_at b T i u sound l =
    let row = row_in (row_on b) T u in
    let many : 40 + base_on b (i + 1) - (40 + base_on b i) ≡ states_on b i = omega arith in
    rw many (sym (part_take (states_on b i) (base_on b i) (row_on b) (drop 40 row) (omega (arith, sound.bases_rise i l, base_in b sound i l))
    ∙ ap (take (states_on b i)) (drop-drop (base_on b i) 40 row)))

-- and there is one for each of its states
pub prices_many : (b : Board) (T : List ℕ) (i u : ℕ) → Sound b → i < b.leaves → RowIn (row_on b) T u → length (prices_on b T i u) ≡ states_on b i
prices_many b T i u sound l h =
    ap length (sym (prices_at b T i u sound l))
    ∙ simp (length-take, length-drop) (omega (arith, sound.bases_rise i l, base_in b sound i l))

-- all prices of a node are the rest of its row
pub row_prices : (S : ℕ) (T : List ℕ) (u n : ℕ) → n ≡ S → take n (drop 40 (row_in S T u)) ≡ (node_in S T u).prices
unfolding node_of
row_prices S T u n e = rw e refl

-- and its centre state is read from there
pub spot_at : (S : ℕ) (T : List ℕ) (u : ℕ) {row : List ℕ} → row ≡ row_in S T u → spot_of row ≡ (node_in S T u).spot
unfolding node_of
spot_at S T u e = ap spot_of e

-- ---- the same as parts of the table

module _ (S : ℕ) (T : List ℕ) (u : ℕ) where
  -- the centre state, from the words of row u
  pub spot_of_row : (n : ℕ) → n ≡ 40 + S → spot_of (take n (drop (u * (40 + S)) T)) ≡ (node_in S T u).spot
  unfolding node_of
  spot_of_row n e = rw e

  -- n prices of node u, from the m-th on
  pub prices_of_part : (n m : ℕ) → m + n ≤ S → take n (drop m (node_in S T u).prices) ≡ take n (drop (u * (40 + S) + (40 + m)) T)
  unfolding node_of
  prices_of_part n m h =
      part_take n m S (drop 40 (row_in S T u)) h
      ∙ ap (take n) (drop-drop m 40 (row_in S T u))
      ∙ part_take n (40 + m) (40 + S) (drop (u * (40 + S)) T) (omega arith)
      ∙ ap (take n) (drop-drop (40 + m) (u * (40 + S)) T)

-- all prices of a node
pub row_prices_at : (S : ℕ) (T : List ℕ) (u n : ℕ) → n ≡ S → take n (drop (u * (40 + S) + 40) T) ≡ (node_in S T u).prices
unfolding node_of
row_prices_at S T u n e =
    rw (e, ← drop-drop 40 (u * (40 + S)) T) (sym (part_take S 40 (40 + S) (drop (u * (40 + S)) T) (omega arith)))

-- the prices of a leaf in row u
abbrev pub slice_on : Board → List ℕ → ℕ → ℕ → List ℕ
slice_on b T i u = take (states_on b i) (drop (u * (40 + row_on b) + (40 + base_on b i)) T)

module _ (b : Board) (sound : Sound b) (T : List ℕ) (i u : ℕ) (l : i < b.leaves) where
  -- they are those of the node
  pub slice_is : slice_on b T i u ≡ prices_on b T i u
  slice_is = sym (prices_of_part (row_on b) T u (states_on b i) (base_on b i) (omega (arith, sound.bases_rise i l, base_in b sound i l)))

  -- and there is one for each state
  pub slice_length : RowIn (row_on b) T u → length (slice_on b T i u) ≡ states_on b i
  slice_length h = length-take-le (states_on b i) _ (simp length-drop (omega (arith, sound.bases_rise i l, base_in b sound i l)))

-- ---- what a layer began with

-- node 0: the mark at all states but the initial one
pub begins_first : (b : Board) (starts T : List ℕ) (i u : ℕ) (out : List ℕ) → u ≡ 0 → out ≡ replicate (states_on b i) mark
    → set out (get_or starts i 0) 0 ≡ begins_on b starts T i u
unfolding begins_on
begins_first b starts T i u out z e = rw (z, e)

-- another node: what passed over its action
begins_later : (b : Board) (starts T : List ℕ) (i u : ℕ) → 0 < u
    → begins_on b starts T i u ≡ pass_on b i (node_on b T u).action (prices_on b T i (node_on b T u).parent)
unfolding begins_on
begins_later b starts T i zero z = absurd (not-suc-le-zero z)
begins_later b starts T i (suc u) z = refl

-- the prices of its parent pass, by the action's moves from where they begin
pub begins_passed : (b : Board) (starts T : List ℕ) (i u p a : ℕ) (P : List ℕ) → 0 < u → p ≡ (node_on b T u).parent → a ≡ (node_on b T u).action
    → P ≡ prices_on b T i p → length P ≡ states_on b i
    → pass mark (length P) (λ x. get_or b.moves (a * row_on b + base_on b i + x) 0) P (length P) ≡ begins_on b starts T i u
begins_passed b starts T i u p a P z e q prices many =
    leaf_passed b i a P many ∙ rw (prices, e, q) (sym (begins_later b starts T i u z))

-- the same by the part of the table where the parent's prices stand
pub begins_passed_at : (b : Board) (starts T : List ℕ) (i u p a : ℕ) → Sound b → i < b.leaves → 0 < u → RowIn (row_on b) T p
    → p ≡ (node_on b T u).parent → a ≡ (node_on b T u).action
    → pass mark (length (slice_on b T i p)) (λ x. get_or b.moves (a * row_on b + base_on b i + x) 0) (slice_on b T i p) (length (slice_on b T i p))
    ≡ begins_on b starts T i u
begins_passed_at b starts T i u p a sound l z row e q =
    begins_passed b starts T i u p a (slice_on b T i p) z e q (slice_is b sound T i p l) (slice_length b sound T i p l row)

-- ---- one leaf's walk

-- from a state that has kept its price, by the prices of the leaf as they are lent, nothing is walked
pub kept_here : (b : Board) (T : List ℕ) (i u : ℕ) (B P : List ℕ) (y : ℕ) → P ≡ prices_on b T i u → WalkableFrom b T i u B y → (total p : ℕ) (plan : List ℕ)
    → cond (ltb (get_or P y mark) mark && eqb (get_or B y mark) (get_or P y mark)) 0 mark ≡ 0
    → Walked (back_from b T i u B y) total p plan y p plan
kept_here b T i u B P y prices w total p plan e = back_kept _ _ _ _ _ _ _ _ _ w total p plan (rw prices at e)

-- the enabled actions and the prices of the leaf, as they are lent
module _ (b : Board) (T : List ℕ) (i u : ℕ) (B acts P : List ℕ) (y : ℕ) (these : acts ≡ acts_on b T i u) (prices : P ≡ prices_on b T i u) where
  pub walkable_here : WalkableFrom b T i u B y → Walkable b.moves (row_on b) (base_on b i) b.costs acts (length acts) B P y
  walkable_here w = rw (these, prices) w

  pub walked_here : (total p : ℕ) (plan : List ℕ) (z q : ℕ) (after : List ℕ)
      → Walked (table_back b.moves (row_on b) (base_on b i) b.costs acts (length acts) B P y) total p plan z q after
      → Walked (back_from b T i u B y) total p plan z q after
  walked_here total p plan z q after w = rw (these, prices) at w

-- what the layer began with, as it is lent
module _ (b : Board) (starts T : List ℕ) (i u : ℕ) (B : List ℕ) (y : ℕ) (begun : B ≡ begins_on b starts T i u) where
  pub begun_walkable : WalkableOn b starts T i u y → WalkableFrom b T i u B y
  begun_walkable w = rw begun w

  pub begun_walked : (total p : ℕ) (plan : List ℕ) (z q : ℕ) (after : List ℕ)
      → Walked (back_from b T i u B y) total p plan z q after → Walked (back_on b starts T i u y) total p plan z q after
  begun_walked total p plan z q after w = rw begun at w

-- ---- room to work in

-- entries enough for all leaf states are enough for each leaf, and so are 255 times 256
pub roomy_small : (b : Board) → Sound b → (k : ℕ) → b.actions * row_on b ≤ k → Roomy b.leaves b.actions b.bases k
roomy_small b sound k h i l =
    let few : states_on b i ≤ row_on b = omega (arith, base_in b sound i l) in
    omega (arith, mul-le-mul_left b.actions few)

pub roomy_large : (b : Board) → Sound b → Roomy b.leaves b.actions b.bases 65280
roomy_large b sound i l = omega (arith, mul-le-mul sound.few_actions (sound.few_states i l))

-- ---- over a node's action

-- the lowest state of the parent's layer, by the prices as they are lent
pub over_here : (b : Board) (T : List ℕ) (i u p a z price : ℕ) (P Q : List ℕ) → p ≡ (node_on b T u).parent → a ≡ (node_on b T u).action
    → P ≡ prices_on b T i p → Q ≡ prices_on b T i u → z < length Q → price ≡ get_or Q z 0
    → lowest (length P) (λ x. eqb (get_or b.moves (a * row_on b + base_on b i + x) 0) (suc z) && eqb (get_or P x mark) price) ≡ over_on b T i u z
unfolding over_on
over_here b T i u p a z price P Q e q f prices inside g =
    let own : price ≡ get_or (prices_on b T i u) z mark = g ∙ at_any Q z 0 mark inside ∙ ap (λ (R : List ℕ). get_or R z mark) prices in
    rw (f, own, e, q)

-- the same of any state z, by its price
pub over_at : (b : Board) (T : List ℕ) (i u p a z price : ℕ) (P : List ℕ) → p ≡ (node_on b T u).parent → a ≡ (node_on b T u).action → P ≡ prices_on b T i p
    → price ≡ get_or (prices_on b T i u) z mark
    → lowest (length P) (λ x. eqb (get_or b.moves (a * row_on b + base_on b i + x) 0) (suc z) && eqb (get_or P x mark) price) ≡ over_on b T i u z
unfolding over_on
over_at b T i u p a z price P e q f g = rw (f, g, e, q)

-- ---- goal states

-- the price of a goal state, by its own price and the table's entry
pub goal_price : (goals P : List ℕ) (x : ℕ) → x < length P → get_or (goals_by goals P) x mark ≡ cond (eqb (get_or goals x 0) 0) mark (get_or P x 0)
unfolding goals_by
goal_price goals P x h =
    list_entry (length P) _ x mark h ∙ ap (cond (eqb (get_or goals x 0) 0) mark) (at_any P x mark 0 h)
