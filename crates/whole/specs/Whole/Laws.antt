-- Laws of what is tested over the whole of a task: the capped count of a leaf's states, and what an accepted task meets. Assumes nothing.
use Rattle.std.specs.Prelude.{◌≡◌, refl, Bool, true, false, ◌⊎◌, ℕ, zero, suc, ◌+◌, ◌*◌, ◌≤◌, ◌<◌, min, eqb}
use Rattle.std.proofs.Math.Path.{sym}
use Rattle.std.proofs.Math.Logic.{inl, inr, ⊎_elim}
use Rattle.std.proofs.Math.Nat.{min-eq_left, min-eq_right}
use Rattle.std.proofs.Common.{mul-zero, le-mul_of_pos_right, arith}
use Rattle.std.proofs.Math.Numerals.{add-one}
use Rattle.std.proofs.Math.Decide.{dec_le}
use Rattle.std.proofs.Math.Dec.{leb}
use borrow.Author.Tests.{leb-true, eqb-true, le-leb, lt-leb}
use Rattle.loops.specs.Count.{all, any, sum}
use Rattle.loops.specs.Count.Laws.{and_out, or_out, or_in_right, all_not, all_more, all_out, any_in, any_more, any_out}
use Rattle.task.specs.declared.Task.{Task}
use Rattle.task.specs.Meaning.{Partial, size, factor, condition, effect}
use Rattle.task.specs.Factors.{touches, states_to, leaf_pairs, star_pairs, centre_action, leaf_action, states, all_states}
use Rattle.task.specs.Valid.{WholeValid}
use Rattle.fields.specs.declared.Refusal.TheVariants.{FactorEmpty, TooManyStates, NotStar}
use Rattle.whole.specs.Verdict.{Accepted, Refused}
use Rattle.whole.specs.Whole.{factors_used, states_few, all_star, whole_of, whole_task}

-- ---- the count of a leaf's states, capped

-- a cap may be put on before a product as well as after it
pub capped_product : (k p s : ℕ) → min (min p k * s) k ≡ min (p * s) k
capped_product k p zero = simp mul-zero
capped_product k p (suc s) = go (dec_le p k)
  where
    go : Dec (p ≤ k) → min (min p k * suc s) k ≡ min (p * suc s) k
    go (yes h) = rw (min-eq_left h)
    go (no d) =
        let m : k ≤ p = omega arith in
        let a : k ≤ k * suc s = le-mul_of_pos_right k (omega arith) in
        let b : k ≤ p * suc s = omega (arith, le-mul_of_pos_right {m = suc s} p (omega arith)) in
        rw (min-eq_right m, min-eq_right a, min-eq_right b)

module _ (fac siz : ℕ → ℕ) (g v : ℕ) where
  -- a turn of the loop, at a variable of the factor
  pub capped_in : eqb (fac v) g ≡ true → min (min (states_to fac siz g v) 257 * siz v) 257 ≡ min (states_to fac siz g (v + 1)) 257
  unfolding states_to
  capped_in e = rw (add-one, e) (capped_product 257 (states_to fac siz g v) (siz v))

  -- and at any other
  pub capped_out : eqb (fac v) g ≡ false → min (states_to fac siz g v) 257 ≡ min (states_to fac siz g (v + 1)) 257
  unfolding states_to
  capped_out e = rw (add-one, e)

-- ---- the states of all leaves

module _ (n : ℕ) (siz fac : ℕ → ℕ) where
  -- a turn of the loop: each leaf so far has few states, and so has the next
  pub few_more : (i : ℕ) → all i (λ k. leb (states_to fac siz (suc k) n) 256) ≡ true → states_to fac siz (i + 1) n ≤ 256
      → all (i + 1) (λ k. leb (states_to fac siz (suc k) n) 256) ≡ true
  few_more i h l = all_more i _ h (le-leb _ _ (rw add-one at l))

  -- a turn of the loop: the states of one leaf more
  pub states_more : (i x y : ℕ) → x ≡ sum i (λ k. states_to fac siz (suc k) n) → y ≡ states_to fac siz (i + 1) n
      → x + y ≡ sum (i + 1) (λ k. states_to fac siz (suc k) n)
  unfolding sum
  states_more i x y p q = rw (p, q, add-one)

  -- one leaf has too many states
  pub few_not : (leaves i : ℕ) → i < leaves → 256 < states_to fac siz (i + 1) n → states_few n leaves siz fac ≡ false
  unfolding states_few
  few_not leaves i l h = rw (all_not leaves (λ k. leb (states_to fac siz (suc k) n) 256) i l (lt-leb _ _ (rw add-one at h)))

  -- no leaf has: the states of all leaves together decide
  pub few_together : (leaves : ℕ) → all leaves (λ k. leb (states_to fac siz (suc k) n) 256) ≡ true
      → states_few n leaves siz fac ≡ leb (sum leaves (λ k. states_to fac siz (suc k) n)) 1024
  unfolding states_few
  few_together leaves h = rw h

-- ---- centre actions and leaf actions

module _ (n : ℕ) (fac : ℕ → ℕ) (leaves : ℕ) (p q : Partial) where
  -- an effect on the centre
  pub star_centre : touches n fac 0 q ≡ true → true ≡ star_pairs n fac leaves p q
  unfolding star_pairs
  star_centre e = rw e

  -- the pairs of a leaf action of one leaf
  pub star_leaf : (i : ℕ) → i < leaves → leaf_pairs n fac p q (i + 1) ≡ true → true ≡ star_pairs n fac leaves p q
  unfolding star_pairs
  star_leaf i l e = sym (or_in_right (touches n fac 0 q) (any_in leaves _ i l (rw add-one at e)))

  -- neither
  pub star_none : touches n fac 0 q ≡ false → any leaves (λ k. leaf_pairs n fac p q (suc k)) ≡ false → false ≡ star_pairs n fac leaves p q
  unfolding star_pairs
  star_none e h = rw (e, h)

module _ (n : ℕ) (fac : ℕ → ℕ) (p q : Partial) where
  -- a turn of the loop: the pairs are a leaf action's of no leaf so far, nor of the next
  pub star_more : (i : ℕ) → any i (λ k. leaf_pairs n fac p q (suc k)) ≡ false → leaf_pairs n fac p q (i + 1) ≡ false
      → any (i + 1) (λ k. leaf_pairs n fac p q (suc k)) ≡ false
  star_more i h e = any_more i _ h (rw add-one at e)

-- ---- the verdict

module _ (n leaves actions : ℕ) (siz fac : ℕ → ℕ) (con eff : ℕ → Partial) where
  -- 9: the centre or a leaf has no variable
  pub whole_empty : factors_used n leaves fac ≡ false → whole_of n leaves actions siz fac con eff ≡ Refused FactorEmpty
  unfolding whole_of
  whole_empty e = rw e

  -- 10: too many leaf states
  pub whole_many : factors_used n leaves fac ≡ true → states_few n leaves siz fac ≡ false
      → whole_of n leaves actions siz fac con eff ≡ Refused TooManyStates
  unfolding whole_of
  whole_many e f = rw (e, f)

  -- 11: an action that is neither
  pub whole_other : factors_used n leaves fac ≡ true → states_few n leaves siz fac ≡ true → all_star n leaves actions fac con eff ≡ false
      → whole_of n leaves actions siz fac con eff ≡ Refused NotStar
  unfolding whole_of
  whole_other e f g = rw (e, f, g)

  -- none of these
  pub whole_passed : factors_used n leaves fac ≡ true → states_few n leaves siz fac ≡ true → all_star n leaves actions fac con eff ≡ true
      → whole_of n leaves actions siz fac con eff ≡ Accepted
  unfolding whole_of
  whole_passed e f g = rw (e, f, g)

  -- only then is the verdict that the task is accepted
  pub whole_out : whole_of n leaves actions siz fac con eff ≡ Accepted
      → (factors_used n leaves fac ≡ true) × (states_few n leaves siz fac ≡ true) × (all_star n leaves actions fac con eff ≡ true)
  whole_out e = go _ _ _ refl refl refl
    where
      go : (a b d : Bool) → factors_used n leaves fac ≡ a → states_few n leaves siz fac ≡ b → all_star n leaves actions fac con eff ≡ d
          → (a ≡ true) × (b ≡ true) × (d ≡ true)
      go true true true p q r = (refl, refl, refl)
      go true true false p q r = let z : ◌≡◌ {A = ℕ} 0 1 = cc (whole_other p q r) in absurd (omega arith)
      go true false d p q r = let z : ◌≡◌ {A = ℕ} 0 1 = cc (whole_many p q) in absurd (omega arith)
      go false b d p q r = let z : ◌≡◌ {A = ℕ} 0 1 = cc (whole_empty p) in absurd (omega arith)

-- ---- an accepted task

module _ (t : Task) where
  -- the three tests pass
  pub whole_accepted : whole_task t ≡ Accepted
      → (factors_used t.variables t.leaves (factor t) ≡ true)
      × (states_few t.variables t.leaves (size t) (factor t) ≡ true)
      × (all_star t.variables t.leaves t.actions (factor t) (condition t) (effect t) ≡ true)
  whole_accepted e = whole_out t.variables t.leaves t.actions (size t) (factor t) (condition t) (effect t) e

  -- a test that passes, said of the task
  used_out : factors_used t.variables t.leaves (factor t) ≡ true
      → (g : ℕ) → g ≤ t.leaves → (v : ℕ) × ((v < t.variables) × (factor t v ≡ g))
  unfolding factors_used
  used_out e g l =
      let w = any_out t.variables _ (all_out (t.leaves + 1) _ e g (omega arith)) in
      (w.0, (w.1.0, eqb-true _ _ w.1.1))

  few_out : states_few t.variables t.leaves (size t) (factor t) ≡ true → (i : ℕ) → i < t.leaves → states t (suc i) ≤ 256
  unfolding states_few states
  few_out e i l = leb-true _ _ (all_out t.leaves _ (and_out _ _ e).0 i l)

  together_out : states_few t.variables t.leaves (size t) (factor t) ≡ true → all_states t ≤ 1024
  unfolding states_few states all_states
  together_out e = leb-true _ _ (and_out (all t.leaves (λ i. leb (states t (suc i)) 256)) _ e).1

  star_out : all_star t.variables t.leaves t.actions (factor t) (condition t) (effect t) ≡ true
      → (a : ℕ) → a < t.actions → (centre_action t a ≡ true) ⊎ ((i : ℕ) × ((i < t.leaves) × (leaf_action t a (suc i) ≡ true)))
  unfolding all_star star_pairs centre_action leaf_action
  star_out e a l = ⊎_elim (λ q. inl q) (λ q. inr (any_out t.leaves _ q)) (or_out _ _ (all_out t.actions _ e a l))

  -- an accepted task has what a valid task has of the whole
  pub whole_valid : whole_task t ≡ Accepted → WholeValid t
  whole_valid e =
      let w = whole_accepted e in
      record { factor_used = used_out w.0; few_states = few_out w.1; few_all_states = together_out w.1; star = star_out w.2 }
