-- The pairs that begin further on are those of the whole lists from there on: what holds of the ones holds of the others. Assumes nothing.
use Rattle.std.specs.Prelude.{◌≡◌, List, ℕ, get_or, drop}
use Rattle.std.proofs.Common.{sym, ap, subst, ◌∙◌}
use Rattle.std.proofs.lemmas.List.{get_or-drop}
use Rattle.task.specs.Meaning.{Partial}
use Rattle.digits.specs.Digits.{entries, entries_from}

entries_behind : (at : ℕ) (xs ys : List ℕ) → ys ≡ drop at xs → entries ys ≡ entries_from at xs
entries_behind at xs ys e = λ i k. (ap (λ (zs : List ℕ). get_or zs k 0) e ∙ get_or-drop at xs k 0) i

module _ (P : Partial → Partial → Type 0) (at : ℕ) (cs es cs' es' : List ℕ) (c : cs' ≡ drop at cs) (e : es' ≡ drop at es) where
  -- of the pairs themselves, then of their part of the whole
  pub from_behind : P (entries cs') (entries es') → P (entries_from at cs) (entries_from at es)
  from_behind h = subst (λ p. P p (entries_from at es)) (entries_behind at cs cs' c) (subst (λ q. P (entries cs') q) (entries_behind at es es' e) h)

  -- and the other way
  pub to_behind : P (entries_from at cs) (entries_from at es) → P (entries cs') (entries es')
  to_behind h = subst (λ p. P p (entries es')) (sym (entries_behind at cs cs' c)) (subst (λ q. P (entries_from at cs) q) (sym (entries_behind at es es' e)) h)
