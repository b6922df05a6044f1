-- What is tested over the whole of a task depends on the entries of its variables alone. Assumes nothing.
use Rattle.std.specs.Prelude.{◌≡◌, refl, true, false, ◌&&◌, ◌||◌, List, ℕ, zero, suc, ◌+◌, ◌≤◌, ◌<◌, leb, length, get_or, take, slice_range}
use Rattle.std.proofs.Common.{sym, ap, ap₂, ◌∙◌, arith}
use Rattle.std.proofs.lemmas.List.{length-take-le, get_or-take}
use Rattle.loops.specs.Count.Laws.{all_ext, any_ext, sum_ext}
use Rattle.loops.specs.Slices.{slice_at}
use Rattle.task.specs.declared.Task.{Task}
use Rattle.task.specs.Meaning.{Partial, size, factor, condition, effect}
use Rattle.task.specs.Factors.{touches, within, states_to, leaf_pairs, star_pairs}
use Rattle.fields.specs.declared.Refusal.TheVariants.{FactorEmpty, TooManyStates, NotStar}
use Rattle.whole.specs.Verdict.{Accepted, Refused}
use Rattle.whole.specs.Whole.{factors_used, states_few, all_star, whole_task}
use Rattle.whole.specs.Whole.Laws.{whole_empty, whole_many, whole_other, whole_passed}

-- f and g agree below n
abbrev pub Agree : ℕ → (ℕ → ℕ) → (ℕ → ℕ) → Type 0
Agree n f g = (v : ℕ) → v < n → f v ≡ g v

pub states_ext : (n : ℕ) (fac fac' siz siz' : ℕ → ℕ) (g : ℕ) → Agree n fac fac' → Agree n siz siz' → states_to fac siz g n ≡ states_to fac' siz' g n
unfolding states_to
states_ext zero fac fac' siz siz' g e h = refl
states_ext (suc n) fac fac' siz siz' g e h =
    let r = states_ext n fac fac' siz siz' g (λ v l. e v (omega arith)) (λ v l. h v (omega arith)) in
    rw (e n (omega arith), h n (omega arith), r)

module _ (n : ℕ) (fac fac' : ℕ → ℕ) (same : Agree n fac fac') where
  pub touches_ext : (g : ℕ) (p p' : Partial) → Agree n p p' → touches n fac g p ≡ touches n fac' g p'
  unfolding touches
  touches_ext g p p' e = any_ext n _ _ (λ v l. rw (same v l, e v l))

  pub within_ext : (g h : ℕ) (p p' : Partial) → Agree n p p' → within n fac g h p ≡ within n fac' g h p'
  unfolding within
  within_ext g h p p' e = all_ext n _ _ (λ v l. rw (same v l, e v l))

  pub leaf_pairs_ext : (p p' q q' : Partial) (l : ℕ) → Agree n p p' → Agree n q q' → leaf_pairs n fac p q l ≡ leaf_pairs n fac' p' q' l
  unfolding leaf_pairs
  leaf_pairs_ext p p' q q' l e h = ap₂ ◌&&◌ (within_ext l l q q' h) (within_ext l 0 p p' e)

  pub star_ext : (leaves : ℕ) (p p' q q' : Partial) → Agree n p p' → Agree n q q' → star_pairs n fac leaves p q ≡ star_pairs n fac' leaves p' q'
  unfolding star_pairs
  star_ext leaves p p' q q' e h = ap₂ ◌||◌ (touches_ext 0 q q' h) (any_ext leaves _ _ (λ i l. leaf_pairs_ext p p' q q' (suc i) e h))

  pub used_ext : (leaves : ℕ) → factors_used n leaves fac ≡ factors_used n leaves fac'
  unfolding factors_used
  used_ext leaves = all_ext (leaves + 1) _ _ (λ g l. any_ext n _ _ (λ v m. rw (same v m)))

  pub few_ext : (leaves : ℕ) (siz siz' : ℕ → ℕ) → Agree n siz siz' → states_few n leaves siz fac ≡ states_few n leaves siz' fac'
  unfolding states_few
  few_ext leaves siz siz' e =
      let each = λ (i : ℕ). states_ext n fac fac' siz siz' (suc i) same e in
      ap₂ ◌&&◌ (all_ext leaves _ _ (λ i l. ap (λ (s : ℕ). leb s 256) (each i))) (ap (λ (s : ℕ). leb s 1024) (sum_ext leaves _ _ (λ i l. each i)))

  pub all_star_ext : (leaves actions : ℕ) (p q : ℕ → Partial) → all_star n leaves actions fac p q ≡ all_star n leaves actions fac' p q
  unfolding all_star
  all_star_ext leaves actions p q = all_ext actions _ _ (λ a l. star_ext leaves (p a) (p a) (q a) (q a) (λ v m. refl) (λ v m. refl))

-- the pairs that a row of the two tables has, as parts of these
pub row_star : (n : ℕ) (fac : ℕ → ℕ) (leaves row : ℕ) (cs es : List ℕ) → star_pairs n fac leaves (λ v. get_or (slice_range cs row (row + n)) v 0) (λ v. get_or (slice_range es row (row + n)) v 0)
    ≡ star_pairs n fac leaves (λ v. get_or cs (row + v) 0) (λ v. get_or es (row + v) 0)
row_star n fac leaves row cs es =
    star_ext n fac fac (λ v l. refl) leaves _ _ _ _ (λ v l. slice_at cs row (row + n) v (omega arith)) (λ v l. slice_at es row (row + n) v (omega arith))

-- ---- the verdict, by the tests of the slices that hold the entries of a task's variables

module _ (t : Task) (n leaves : ℕ) (l : n ≤ length t.factors) (same : n ≡ t.variables) (same' : leaves ≡ t.leaves) where
  abbrev front : List ℕ → ℕ → ℕ
  front xs v = get_or (take n xs) v 0

  front_is : (xs : List ℕ) → Agree n (front xs) (λ v. get_or xs v 0)
  front_is xs v m = get_or-take n xs v 0 m

  used : factors_used (length (take n t.factors)) leaves (front t.factors) ≡ factors_used t.variables t.leaves (factor t)
  used = rw (length-take-le n t.factors l, ← same, ← same') (used_ext n _ _ (front_is t.factors) leaves)

  few : states_few (length (take n t.factors)) leaves (front t.sizes) (front t.factors) ≡ states_few t.variables t.leaves (size t) (factor t)
  few = rw (length-take-le n t.factors l, ← same, ← same') (few_ext n _ _ (front_is t.factors) leaves _ _ (front_is t.sizes))

  star : (actions : ℕ) → actions ≡ t.actions → all_star (length (take n t.factors)) leaves actions (front t.factors) (condition t) (effect t)
      ≡ all_star t.variables t.leaves t.actions (factor t) (condition t) (effect t)
  star actions e = rw (length-take-le n t.factors l, ← same, ← same', ← e) (all_star_ext n _ _ (front_is t.factors) leaves actions _ _)

  pub empty_task : factors_used (length (take n t.factors)) leaves (front t.factors) ≡ false → Refused FactorEmpty ≡ whole_task t
  empty_task a = sym (whole_empty _ _ _ _ _ _ _ (sym used ∙ a))

  pub many_task : factors_used (length (take n t.factors)) leaves (front t.factors) ≡ true
      → states_few (length (take n t.factors)) leaves (front t.sizes) (front t.factors) ≡ false → Refused TooManyStates ≡ whole_task t
  many_task a b = sym (whole_many _ _ _ _ _ _ _ (sym used ∙ a) (sym few ∙ b))

  pub other_task : (actions : ℕ) → actions ≡ t.actions → factors_used (length (take n t.factors)) leaves (front t.factors) ≡ true
      → states_few (length (take n t.factors)) leaves (front t.sizes) (front t.factors) ≡ true
      → all_star (length (take n t.factors)) leaves actions (front t.factors) (condition t) (effect t) ≡ false → Refused NotStar ≡ whole_task t
  other_task actions e a b d = sym (whole_other _ _ _ _ _ _ _ (sym used ∙ a) (sym few ∙ b) (sym (star actions e) ∙ d))

  pub passed_task : (actions : ℕ) → actions ≡ t.actions → factors_used (length (take n t.factors)) leaves (front t.factors) ≡ true
      → states_few (length (take n t.factors)) leaves (front t.sizes) (front t.factors) ≡ true
      → all_star (length (take n t.factors)) leaves actions (front t.factors) (condition t) (effect t) ≡ true → Accepted ≡ whole_task t
  passed_task actions e a b d = sym (whole_passed _ _ _ _ _ _ _ (sym used ∙ a) (sym few ∙ b) (sym (star actions e) ∙ d))

-- ---- what the tests of a row's slices say of the whole tables

module _ (n : ℕ) (factors : List ℕ) (l : n ≤ length factors) where
  front_of : Agree n (λ v. get_or (take n factors) v 0) (λ v. get_or factors v 0)
  front_of v m = get_or-take n factors v 0 m

  pub states_row : (sizes : List ℕ) (g : ℕ) → states_to (λ v. get_or (take n factors) v 0) (λ v. get_or (take n sizes) v 0) g (length (take n factors))
      ≡ states_to (λ v. get_or factors v 0) (λ v. get_or sizes v 0) g n
  states_row sizes g = rw (length-take-le n factors l) (states_ext n _ _ _ _ g front_of (λ v m. get_or-take n sizes v 0 m))

  module _ (row : ℕ) where
    part_of : (xs : List ℕ) → Agree n (λ v. get_or (slice_range xs row (row + n)) v 0) (λ v. get_or xs (row + v) 0)
    part_of xs v m = slice_at xs row (row + n) v (omega arith)

    pub touches_row : (es : List ℕ) → touches (length (take n factors)) (λ v. get_or (take n factors) v 0) 0 (λ v. get_or (slice_range es row (row + n)) v 0)
        ≡ touches n (λ v. get_or factors v 0) 0 (λ v. get_or es (row + v) 0)
    touches_row es = rw (length-take-le n factors l) (touches_ext n _ _ front_of 0 _ _ (part_of es))

    pub leaf_pairs_row : (cs es : List ℕ) (leaf : ℕ)
        → leaf_pairs (length (take n factors)) (λ v. get_or (take n factors) v 0) (λ v. get_or (slice_range cs row (row + n)) v 0) (λ v. get_or (slice_range es row (row + n)) v 0) leaf
        ≡ leaf_pairs n (λ v. get_or factors v 0) (λ v. get_or cs (row + v) 0) (λ v. get_or es (row + v) 0) leaf
    leaf_pairs_row cs es leaf = rw (length-take-le n factors l) (leaf_pairs_ext n _ _ front_of _ _ _ _ leaf (part_of cs) (part_of es))
