-- The same edges under other numbers lower the same prices. Assumes nothing.
use Rattle.std.specs.Prelude.{◌≡◌, ◌⊎◌, List, ℕ, ◌≤◌, ◌<◌, length, get_or}
use Rattle.std.proofs.Common.{sym, ◌∙◌, inl, inr, le_antisymm, arith, ext_get_or}
use Rattle.leaf.specs.Settle.{relax}
use Rattle.leaf.specs.Settle.Steps.{Hit, relax_length, relax_from, relax_below, relax_hit}
use Rattle.sweeps.specs.Sweeps.{Covered}

module _ (M x d : ℕ) (P : List ℕ) where
  -- edges that cover those of other actions lower no less
  relax_least : (m : ℕ) (cost : ℕ → ℕ) (to : ℕ → ℕ → ℕ) (m' : ℕ) (cost' : ℕ → ℕ) (to' : ℕ → ℕ → ℕ) → Covered m cost to m' cost' to' x
      → (u : ℕ) → u < length P → get_or (relax M cost' to' x d P m') u M ≤ get_or (relax M cost to x d P m) u M
  relax_least m cost to m' cost' to' c u l = go (relax_from M cost to x d P m u)
    where
      go : {q : ℕ} → (q ≡ get_or P u M) ⊎ (Hit cost to x d m u q × (q ≤ get_or P u M)) → get_or (relax M cost' to' x d P m') u M ≤ q
      go (inl e) = omega (arith, relax_below M cost' to' x d P m' u)
      go (inr (h, g)) =
          let e = c h.act u h.below h.leads in
          omega (arith, h.price, e.price, relax_hit M cost' to' x d P m' e.act u l e.below e.leads)

  -- actions with the same edges from x lower alike
  pub relax_same : (m : ℕ) (cost : ℕ → ℕ) (to : ℕ → ℕ → ℕ) (m' : ℕ) (cost' : ℕ → ℕ) (to' : ℕ → ℕ → ℕ) → Covered m cost to m' cost' to' x
      → Covered m' cost' to' m cost to x → relax M cost' to' x d P m' ≡ relax M cost to x d P m
  relax_same m cost to m' cost' to' out back =
      ext_get_or M _ _ (relax_length M cost' to' x d P m' ∙ sym (relax_length M cost to x d P m))
      (λ u h.
      let l : u < length P = omega (arith, relax_length M cost' to' x d P m') in
      le_antisymm (relax_least m cost to m' cost' to' out u l) (relax_least m' cost' to' m cost to back u l))
