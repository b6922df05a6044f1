-- Laws of tight edges. Assumes nothing.
use Rattle.std.specs.Prelude.{◌≡◌, Bool, List, eqb, length}
use Rattle.std.proofs.Math.Bool.{true, false, cond}
use Prim.Native.Nat.{ℕ, zero, suc, ◌+◌, ◌-◌, ◌≤◌, ◌<◌}
use Rattle.std.proofs.Common.{not-suc-le-zero, eq-eqb, ne_eqb}
use native.Mathlib.Omega.{arith}
use Rattle.std.proofs.Math.Decide.{dec_lt, ℕ_discrete}
use Rattle.std.proofs.Math.ListN.{get_or}
use Rattle.leaf.specs.Price.{mark}
use Rattle.leaf.specs.Settle.Walks.{Ranged}
use Rattle.leaf.specs.Settle.Turns.{at_any}
use Rattle.leaf.specs.Lent.{Lent, cost_by, move_by}
use Rattle.wayback.specs.Steps.{tight_at, tight_by}

module _ (P : List ℕ) (x c : ℕ) where
  -- no state
  pub tight_none : (k : ℕ) → k ≡ 0 → tight_at P x c k ≡ 0
  unfolding tight_at
  tight_none k e = rw e

  -- the right price
  pub tight_hit : (k : ℕ) → 0 < k → k ≤ length P → x < length P → get_or P x 0 + c ≡ get_or P (k - 1) 0 → tight_at P x c k ≡ k
  unfolding tight_at
  tight_hit zero z h l e = absurd (not-suc-le-zero z)
  tight_hit (suc y) z h l e =
      let back : suc y - 1 ≡ y = omega arith in
      let p : get_or P x mark + c ≡ get_or P y mark = omega (arith, at_any P x 0 mark l, at_any P y 0 mark h, rw back at e) in
      rw (eq-eqb (get_or P x mark + c) (get_or P y mark) p)

  -- another price
  pub tight_miss : (k : ℕ) → 0 < k → k ≤ length P → x < length P → (get_or P x 0 + c ≡ get_or P (k - 1) 0 → ⊥) → tight_at P x c k ≡ 0
  unfolding tight_at
  tight_miss zero z h l n = absurd (not-suc-le-zero z)
  tight_miss (suc y) z h l n =
      let back : suc y - 1 ≡ y = omega arith in
      let p : get_or P x mark + c ≡ get_or P y mark → ⊥ = λ e. n (rw (back, at_any P x 0 mark l, at_any P y 0 mark h) e) in
      rw (ne_eqb (get_or P x mark + c) (get_or P y mark) p)

  -- so an edge is at the right price
  pub tight_right : (k : ℕ) → k ≤ length P → x < length P → 0 < tight_at P x c k → get_or P x 0 + c ≡ get_or P (k - 1) 0
  tight_right k h l t = go (ℕ_discrete (get_or P x 0 + c) (get_or P (k - 1) 0)) (dec_lt 0 k)
    where
      go : Dec (get_or P x 0 + c ≡ get_or P (k - 1) 0) → Dec (0 < k) → get_or P x 0 + c ≡ get_or P (k - 1) 0
      go (yes e) d = e
      go (no n) (yes z) = absurd (omega (arith, tight_miss k z h l n))
      go (no n) (no z) = absurd (omega (arith, tight_none k (omega arith)))

  -- an edge leads where the move leads, or nowhere
  pub tight_le : (k : ℕ) → tight_at P x c k ≤ k
  unfolding tight_at
  tight_le zero = omega arith
  tight_le (suc y) = go (eqb (get_or P x mark + c) (get_or P y mark))
    where
      go : (b : Bool) → cond b (suc y) 0 ≤ suc y
      go true = omega arith
      go false = omega arith

-- a tight edge leads where the move leads
pub tight_is : (P : List ℕ) (x c k y : ℕ) → tight_at P x c k ≡ suc y → k ≡ suc y
unfolding tight_at
tight_is P x c zero y e = omega arith
tight_is P x c (suc z) y e = go (eqb (get_or P x mark + c) (get_or P z mark)) e
  where
    go : (b : Bool) → cond b (suc z) 0 ≡ suc y → suc z ≡ suc y
    go true e = e
    go false e = omega arith

-- edges by lent tables stay in range
pub tight_ranged : (moves : List ℕ) (row at : ℕ) (costs acts : List ℕ) (m : ℕ) (P : List ℕ) → Lent moves row at costs acts m (length P)
    → Ranged (length P) m (tight_by moves row at costs acts P)
tight_ranged moves row at costs acts m P lent j x y h k e = omega (arith, tight_le P x (cost_by costs acts j) (move_by moves row at acts j x), lent.moves_in j x h k)
