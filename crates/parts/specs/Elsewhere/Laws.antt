-- Laws of what a lent slice holds outside the entries that are read into it. Assumes nothing.
use Rattle.std.specs.Prelude.{refl, List, ℕ, ◌+◌, ◌≤◌, ◌<◌, set}
use Rattle.std.proofs.Common.{◌∙◌, arith, length-set, get_or-set_other}
use Rattle.parts.specs.Elsewhere.{Elsewhere}

-- nothing is set
pub elsewhere_none : {base n : ℕ} {xs : List ℕ} → Elsewhere base n xs xs
elsewhere_none = record { long = refl; below = λ k h. refl; behind = λ k h. refl }

-- one of the entries is set
pub elsewhere_set : {base n : ℕ} (xs : List ℕ) (i x : ℕ) → base ≤ i → i < base + n → Elsewhere base n xs (set xs i x)
elsewhere_set xs i x l m =
    record {
      long = length-set xs i x;
      below = λ k h. get_or-set_other xs i k x 0 (λ e. omega arith);
      behind = λ k h. get_or-set_other xs i k x 0 (λ e. omega arith);
    }

-- one reading after another
pub elsewhere_then : {base n : ℕ} {xs ys zs : List ℕ} → Elsewhere base n xs ys → Elsewhere base n ys zs → Elsewhere base n xs zs
elsewhere_then a b =
    record {
      long = b.long ∙ a.long;
      below = λ k h. b.below k h ∙ a.below k h;
      behind = λ k h. b.behind k h ∙ a.behind k h;
    }

-- among more entries
pub elsewhere_wider : {base n from m : ℕ} {xs ys : List ℕ} → from ≤ base → base + n ≤ from + m → Elsewhere base n xs ys → Elsewhere from m xs ys
elsewhere_wider l h a =
    record { long = a.long; below = λ k g. a.below k (omega arith); behind = λ k g. a.behind k (omega arith) }
