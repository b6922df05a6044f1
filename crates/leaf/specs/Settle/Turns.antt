-- The loops of settling, a turn at a time: one price lowered, one action. Assumes nothing.
use Rattle.std.specs.Prelude.{◌≡◌, length, get_or, set, take, replicate}
use Rattle.std.proofs.Math.Path.{refl}
use Rattle.std.proofs.Common.{ap, not-suc-le-zero, le_of_suc-le-suc, add-one, arith}
use mathlib.Core.List.{List, [], ◌∷◌}
use Prim.Native.Nat.{ℕ, zero, suc, ◌+◌, ◌-◌, ◌≤◌, ◌<◌, min}
use Rattle.std.proofs.Math.Decide.{dec_le}
use Rattle.std.proofs.Math.ListN.{get_or-eq_default}
use Rattle.std.proofs.lemmas.List.{set-get_or}
use Rattle.leaf.specs.Settle.{lower, pick, relax, settle, settled}

-- ---- lists

-- an entry of the list, whatever stands for the entries behind its end
pub at_any : (P : List ℕ) (i d e : ℕ) → i < length P → get_or P i d ≡ get_or P i e
at_any [] i d e h = absurd (not-suc-le-zero h)
at_any (p ∷ P) zero d e h = refl
at_any (p ∷ P) (suc i) d e h = at_any P i d e (le_of_suc-le-suc h)

-- what bounds the entries of a list bounds also what stands for those behind its end
pub at_most : (M : ℕ) (P : List ℕ) → ((i : ℕ) → get_or P i 0 ≤ M) → (i : ℕ) → get_or P i M ≤ M
at_most M P h i = go (dec_le (suc i) (length P))
  where
    go : Dec (i < length P) → get_or P i M ≤ M
    go (yes l) = rw (at_any P i M 0 l) (h i)
    go (no l) = let far : length P ≤ i = omega arith in omega (arith, get_or-eq_default P M far)

pub take_replicate : (n m a : ℕ) → n ≤ m → take n (replicate m a) ≡ replicate n a
take_replicate zero m a h = refl
take_replicate (suc n) zero a h = absurd (not-suc-le-zero h)
take_replicate (suc n) (suc m) a h = ap (λ (l : List ℕ). a ∷ l) (take_replicate n m a (le_of_suc-le-suc h))

-- ---- lower

pub lower_none : (M : ℕ) (P : List ℕ) (k v : ℕ) → k ≡ 0 → lower M P k v ≡ P
unfolding lower
lower_none M P k v e = rw e

pub lower_here : (M : ℕ) (P : List ℕ) (k v : ℕ) → 0 < k → k ≤ length P → v < get_or P (k - 1) 0 → lower M P k v ≡ set P (k - 1) v
unfolding lower
lower_here M P zero v z h l = absurd (not-suc-le-zero z)
lower_here M P (suc t) v z h l =
    let back : suc t - 1 ≡ t = omega arith in
    let least : min (get_or P t M) v ≡ v = omega (arith, at_any P t M 0 h, rw back at l) in
    rw (back, least)

pub lower_kept : (M : ℕ) (P : List ℕ) (k v : ℕ) → 0 < k → k ≤ length P → get_or P (k - 1) 0 ≤ v → lower M P k v ≡ P
unfolding lower
lower_kept M P zero v z h l = absurd (not-suc-le-zero z)
lower_kept M P (suc t) v z h l =
    let back : suc t - 1 ≡ t = omega arith in
    let least : min (get_or P t M) v ≡ get_or P t M = omega (arith, at_any P t M 0 h, rw back at l) in
    rw least (set-get_or P t M)

-- where no price is above M, a cap at M changes nothing
pub lower_capped : (M : ℕ) (P : List ℕ) (k v : ℕ) → ((i : ℕ) → get_or P i 0 ≤ M) → lower M P k (min v M) ≡ lower M P k v
unfolding lower
lower_capped M P zero v h = refl
lower_capped M P (suc t) v h = ap (set P t) (omega (arith, at_most M P h t))

-- ---- relax

module _ (M : ℕ) (cost : ℕ → ℕ) (to : ℕ → ℕ → ℕ) (x d : ℕ) (P : List ℕ) where
  -- a turn of the loop, where no price is above M
  pub relax_more : (j k v : ℕ) (Q : List ℕ) → Q ≡ relax M cost to x d P j → ((i : ℕ) → get_or Q i 0 ≤ M) → k ≡ to j x → v ≡ min (d + cost j) M
      → lower M Q k v ≡ relax M cost to x d P (j + 1)
  unfolding relax
  relax_more j k v Q q h e f = rw (add-one, relax, ← q, e, f) (lower_capped M Q (to j x) (d + cost j) h)

-- ---- no actions

module _ (M : ℕ) (cost : ℕ → ℕ) (to : ℕ → ℕ → ℕ) where
  -- without actions no round changes a price
  settle_none : (k : ℕ) (P D : List ℕ) → settle M 0 cost to k P D ≡ P
  unfolding settle relax
  settle_none zero P D = refl
  settle_none (suc k) P D = go (pick M P D (length P)) refl (settle_none k)
    where
      go : (r : ℕ) → pick M P D (length P) ≡ r → ((R E : List ℕ) → settle M 0 cost to k R E ≡ R) → settle M 0 cost to (suc k) P D ≡ P
      go zero e rec = rw (e, settle)
      go (suc x) e rec = rw (e, settle) (rec P (set D x 1))

  -- without actions the prices are settled as they are
  pub settled_none : (P : List ℕ) → settled M 0 cost to P ≡ P
  unfolding settled
  settled_none P = settle_none (length P) P _
