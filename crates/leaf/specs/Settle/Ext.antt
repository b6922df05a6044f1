-- Settling depends on the actions and states there are, and on nothing else: costs and moves that agree there settle alike. Assumes nothing.
use Rattle.std.specs.Prelude.{◌≡◌, get_or, set, replicate}
use Rattle.std.proofs.Math.Path.{refl}
use Rattle.std.proofs.Common.{◌∙◌, arith}
use mathlib.Core.List.{List}
use Prim.Native.Nat.{ℕ, zero, suc, ◌<◌}
use Rattle.std.proofs.Math.ListN.{length}
use Rattle.leaf.specs.Settle.{pick, relax, settle, settled}
use Rattle.leaf.specs.Settle.Steps.{pick_in, relax_length}

-- relaxing depends on the costs of the actions below i and on what they make of state x
pub relax_ext : (M : ℕ) (cost cost' : ℕ → ℕ) (to to' : ℕ → ℕ → ℕ) (x d : ℕ) (P : List ℕ) (i : ℕ) → ((j : ℕ) → j < i → cost j ≡ cost' j)
    → ((j : ℕ) → j < i → to j x ≡ to' j x) → relax M cost to x d P i ≡ relax M cost' to' x d P i
unfolding relax
relax_ext M cost cost' to to' x d P zero hc ht = refl
relax_ext M cost cost' to to' x d P (suc i) hc ht =
    rw (hc i (omega arith), ht i (omega arith), relax_ext M cost cost' to to' x d P i (λ j l. hc j (omega arith)) (λ j l. ht j (omega arith)))

module _ (M m n : ℕ) (cost cost' : ℕ → ℕ) (to to' : ℕ → ℕ → ℕ) (costs : (j : ℕ) → j < m → cost j ≡ cost' j)
    (moves : (j x : ℕ) → j < m → x < n → to j x ≡ to' j x) where
  -- rounds depend on the costs of the actions below m and on what they make of the n states
  pub settle_ext : (k : ℕ) (P D : List ℕ) → length P ≡ n → settle M m cost to k P D ≡ settle M m cost' to' k P D
  unfolding settle
  settle_ext zero P D l = refl
  settle_ext (suc k) P D l = go (pick M P D (length P)) refl (settle_ext k)
    where
      go : (r : ℕ) → pick M P D (length P) ≡ r
          → ((R E : List ℕ) → length R ≡ n → settle M m cost to k R E ≡ settle M m cost' to' k R E)
          → settle M m cost to (suc k) P D ≡ settle M m cost' to' (suc k) P D
      go zero e rec = rw (e, settle)
      go (suc x) e rec =
          let same = relax_ext M cost cost' to to' x (get_or P x M) P m costs (λ j h. moves j x h (omega (arith, pick_in M P D (length P) x e))) in
          rw (e, settle, ← same) (rec (relax M cost to x (get_or P x M) P m) (set D x 1) (relax_length M cost to x (get_or P x M) P m ∙ l))

  -- settling depends on the same
  pub settled_ext : (P : List ℕ) → length P ≡ n → settled M m cost to P ≡ settled M m cost' to' P
  unfolding settled
  settled_ext P l = settle_ext (length P) P (replicate (length P) 0) l
