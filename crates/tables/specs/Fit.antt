-- The tables of a valid task fit the task and can be indexed: what the layers and the search ask of them. Assumes nothing.
use Rattle.std.specs.Prelude.{◌≡◌, refl, Bool, false, not, ◌⊎◌, List, ℕ, zero, suc, ◌+◌, ◌-◌, ◌*◌, ◌≤◌, ◌<◌, eqb, length, get_or, replicate}
use Rattle.std.proofs.Math.Path.{sym}
use Rattle.std.proofs.Common.{◌∙◌, inl, inr, zero-add, mul-le-mul_right, arith}
use Rattle.std.proofs.Math.Bool.{true, true≢false}
use Rattle.std.proofs.Math.Numerals.{add-one}
use Rattle.std.proofs.Math.Decide.{ℕ_discrete}
use Rattle.std.proofs.lemmas.List.{get_or-replicate}
use borrow.Author.Tests.{eq-eqb, ne_eqb}
use Rattle.loops.specs.Count.{sum}
use Rattle.loops.specs.Count.Laws.{or_in_left, or_in_right, any_in, sum_more}
use Rattle.task.specs.declared.Task.{Task}
use Rattle.task.specs.Meaning.{free, size, factor, goal, condition, effect}
use Rattle.task.specs.Factors.{star_pairs, centre_action, leaf_action, states, all_states, values_of, meets_in, gate, to}
use Rattle.task.specs.Valid.{Valid}
use Rattle.task.specs.Star.{leaf_not_centre, leaf_one, to_in, number_lt}
use Rattle.layer.specs.Layer.{base}
use Rattle.layer.specs.Board.{Board, Sound, Fits, states_on}
use Rattle.layer.specs.Board.Laws.{states_on_lem}
use Rattle.digits.specs.Moves.{Small, to_with}
use Rattle.digits.specs.Digits.{entries, start_of, Row}
use Rattle.tables.specs.Tables.{KindIs, Bases, Starts, Costs, Kinds, Moves, Goals}

-- ---- kinds

-- the pairs of action a are of kind k
abbrev pub KindOf : Task → ℕ → ℕ → Type 0
KindOf t a k = KindIs t.variables (factor t) t.leaves (condition t a) (effect t a) k

not_true_false : (b : Bool) → (b ≡ true → ⊥) → b ≡ false
not_true_false true h = absurd (h refl)
not_true_false false h = refl

module _ (t : Task) (ok : Valid t) (a : ℕ) (la : a < t.actions) where
  -- the action is of one kind or the other
  pub star_holds : star_pairs t.variables (factor t) t.leaves (condition t a) (effect t a) ≡ true
  unfolding star_pairs centre_action leaf_action
  star_holds = go (ok.whole.star a la)
    where
      go : (centre_action t a ≡ true) ⊎ ((i : ℕ) × ((i < t.leaves) × (leaf_action t a (suc i) ≡ true)))
          → star_pairs t.variables (factor t) t.leaves (condition t a) (effect t a) ≡ true
      go (inl e) = or_in_left _ e
      go (inr (i, (l, e))) = or_in_right (centre_action t a) (any_in t.leaves _ i l e)

  -- the kind is a leaf's number just where the action is a leaf action of the leaf
  pub kind_is : (i k : ℕ) → KindOf t a k → eqb k (i + 1) ≡ leaf_action t a (suc i)
  unfolding KindIs centre_action leaf_action
  kind_is i k (inl w) =
      rw (w.0, ne_eqb 0 (i + 1) (λ q. omega arith))
      (sym (not_true_false (leaf_action t a (suc i)) (λ e. true≢false (sym w.1 ∙ leaf_not_centre t a i e))))
  kind_is i k (inr (j, (l, (q, e)))) = go (ℕ_discrete i j)
    where
      e' : leaf_action t a (suc j) ≡ true
      e' = rw add-one at e

      go : Dec (i ≡ j) → eqb k (i + 1) ≡ leaf_action t a (suc i)
      go (yes p) = rw p (eq-eqb k (j + 1) q ∙ sym e')
      go (no d) =
          ne_eqb k (i + 1) (λ r. omega arith)
          ∙ sym (not_true_false (leaf_action t a (suc i)) (λ e''. d (leaf_one t ok a i j la e'' e')))

  -- it is 0 just where the action is a centre action
  pub kind_none : (k : ℕ) → KindOf t a k → eqb k 0 ≡ centre_action t a
  unfolding KindIs centre_action leaf_action
  kind_none k (inl w) = rw w.0 (sym w.1)
  kind_none k (inr (j, (l, (q, e)))) = ne_eqb k 0 (λ r. omega arith) ∙ sym (leaf_not_centre t a j (rw add-one at e))

-- ---- moves

-- what an action makes of a leaf state can be counted in small numbers
pub small_is : (t : Task) → Valid t → (a : ℕ) → a < t.actions → (i : ℕ) → i < t.leaves
    → Small t.variables (factor t) (size t) (effect t a) (suc i)
unfolding states
small_is t ok a la i l =
    record {
      sized = λ v m. omega (arith, ok.fields.size_low v m);
      inside = ok.fields.effect_in a la;
      few = ok.whole.few_states i l;
    }

-- ---- goals

-- what an action makes of a state is 0 just where the test fails
gate_none : (b : Bool) (y : ℕ) {x : ℕ} → x ≡ gate b y → eqb x 0 ≡ not b
gate_none true y e = rw e (ne_eqb (suc y) 0 (λ q. omega arith))
gate_none false y e = rw e (eq-eqb 0 0 refl)

-- an action with no effects makes small numbers
pub still_small : (t : Task) → Valid t → (i : ℕ) → i < t.leaves → Small t.variables (factor t) (size t) (entries (replicate 32 free)) (suc i)
unfolding states
still_small t ok i l =
    record {
      sized = λ v m. omega (arith, ok.fields.size_low v m);
      inside = λ v m. inl (get_or-replicate 32 v free 0 (omega (arith, ok.fields.few_variables)));
      few = ok.whole.few_states i l;
    }

-- it passes just where its conditions, the goal's pairs, are met
pub goals_are : (t : Task) (xs : List ℕ) → length xs ≡ 1024
    → Row t.variables (factor t) (size t) (entries t.goal) (entries (replicate 32 free)) 0 t.leaves xs → Goals t xs
unfolding start_of base states values_of meets_in to_with
goals_are t xs e row =
    record {
      long = e;
      is = λ i x l m.
          gate_none (meets_in t (suc i) (goal t) (values_of t (suc i) x)) _ (simp zero-add at (row i x l m));
    }

-- ---- the board

-- the tables of a task
abbrev pub board_of : Task → List ℕ → List ℕ → List ℕ → List ℕ → Board
board_of t bases moves costs kinds =
    record {
      leaves = t.leaves;
      actions = t.actions;
      bases = bases;
      moves = moves;
      costs = costs;
      kinds = kinds;
      factors = t.factors;
      conditions = t.conditions;
    }

-- one leaf more
base_more : (t : Task) (i : ℕ) → base t (i + 1) ≡ base t i + states t (suc i)
unfolding base
base_more t i = sum_more i _

-- before the first leaf
base_none : (t : Task) → base t 0 ≡ 0
unfolding base sum
base_none t = refl

-- S by the table of bases
pub row_of : (t : Task) (bases : List ℕ) → Bases t bases → get_or bases t.leaves 0 ≡ all_states t
unfolding base all_states
row_of t bases s = s.is t.leaves (omega arith)

-- each leaf's initial state is one of its states
pub start_in : (t : Task) → Valid t → (b : Board) → Fits t b → (starts : List ℕ) → Starts t starts → (i : ℕ) → i < b.leaves → get_or starts i 0 < states_on b i
start_in t ok b f starts s i l =
    let m : i < t.leaves = omega (arith, f.leaves_is) in
    omega (arith, s.is i m, number_lt t (suc i) ok.fields.initial_inside, states_on_lem t b f i m)

-- the moves of the largest task
pub moves_fit : (t : Task) → Valid t → t.actions * all_states t ≤ 261120
moves_fit t ok = omega (arith, mul-le-mul_right (all_states t) ok.fields.few_actions, ok.whole.few_all_states)

module _ (t : Task) (ok : Valid t) (bases moves costs kinds : List ℕ) (isb : Bases t bases) where
  -- a leaf's states by the tables
  states_is : (i : ℕ) → i < t.leaves → get_or bases (i + 1) 0 - get_or bases i 0 ≡ states t (suc i)
  states_is i l = rw (isb.is (i + 1) (omega arith), isb.is i (omega arith), base_more t i) (omega arith)

  -- an entry of the moves
  move_is : Moves t moves → (i a x : ℕ) → i < t.leaves → a < t.actions → x < states t (suc i)
      → get_or moves (a * get_or bases t.leaves 0 + (get_or bases i 0 + x)) 0 ≡ to t (suc i) a x
  move_is ism i a x l la m = rw (row_of t bases isb, isb.is i (omega arith)) (ism i a x l la m)

  -- what an action makes of a leaf state is at most the count of states
  to_few : (i a x : ℕ) → a < t.actions → (y : ℕ) → to t (suc i) a x ≡ y → y ≤ states t (suc i)
  to_few i a x la zero e = omega arith
  to_few i a x la (suc y) e = to_in t ok (suc i) a x y la e

  -- the tables stand for the task
  pub tables_stand : Moves t moves → Costs t costs → Kinds t kinds → Fits t (board_of t bases moves costs kinds)
  tables_stand ism isc isk =
      record {
        leaves_is = refl;
        actions_is = refl;
        bases_is = isb.is;
        moves_is = move_is ism;
        costs_is = isc.is;
        kinds_is = isk.leaf;
        kinds_centre = isk.centre;
        factors_is = refl;
        conditions_is = refl;
      }

  -- the tables can be indexed
  pub tables_sound : Moves t moves → Costs t costs → Kinds t kinds → t.actions * all_states t ≤ length moves
      → length t.factors ≡ 32 → length t.conditions ≡ 8192 → Sound (board_of t bases moves costs kinds)
  tables_sound ism isc isk long fl cl =
      record {
        few_leaves = ok.fields.few_leaves;
        few_actions = ok.fields.few_actions;
        bases_long = isb.long;
        bases_first = isb.is 0 (omega arith) ∙ base_none t;
        bases_rise = λ i l. omega (arith, isb.is (i + 1) (omega arith), isb.is i (omega arith), base_more t i);
        few_states = λ i l. rw (states_is i l) (ok.whole.few_states i l);
        few_all = rw (row_of t bases isb) ok.whole.few_all_states;
        moves_long = rw (row_of t bases isb) long;
        moves_in = λ i a x l la m.
            let m' : x < states t (suc i) = rw (states_is i l) at m in
            rw (states_is i l, move_is ism i a x l la m') (to_few i a x la _ refl);
        costs_long = isc.long;
        kinds_long = isk.long;
        factors_long = fl;
        conditions_long = cl;
      }

  -- both
  pub tables_fit : Moves t moves → Costs t costs → Kinds t kinds → t.actions * all_states t ≤ length moves
      → length t.factors ≡ 32 → length t.conditions ≡ 8192
      → Fits t (board_of t bases moves costs kinds) × Sound (board_of t bases moves costs kinds)
  tables_fit ism isc isk long fl cl = (tables_stand ism isc isk, tables_sound ism isc isk long fl cl)
