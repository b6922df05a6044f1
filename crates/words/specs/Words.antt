-- Laws of copying the first words of a list. Assumes nothing.
use Rattle.std.specs.Prelude.{◌≡◌, List, ◌++◌, ℕ, suc, ◌+◌, ◌<◌, length, get_or, set, take, drop}
use Rattle.std.proofs.Common.{sym, ap, ◌∙◌, add-one, arith, length-take-le, take-suc, drop-cons}
use Rattle.std.proofs.lemmas.List.{set_at}
use Rattle.std.proofs.Math.Seq.{append_snoc}

-- one word more is copied
pub copy_more : (d s : List ℕ) (j : ℕ) → j < length d → j < length s → set (take j s ++ drop j d) j (get_or s j 0) ≡ take (j + 1) s ++ drop (j + 1) d
copy_more d s j hd hs =
    ap (λ r. set (take j s ++ r) j (get_or s j 0)) (drop-cons d j 0 hd)
    ∙ set_at (take j s) (get_or d j 0) (drop (suc j) d) (get_or s j 0) j (length-take-le j s (omega arith))
    ∙ sym (append_snoc (take j s) (get_or s j 0) (drop (suc j) d))
    ∙ ap (λ xs. xs ++ drop (suc j) d) (sym (take-suc s j 0 hs))
    ∙ rw add-one
