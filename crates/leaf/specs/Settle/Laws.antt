-- Laws of settling: it ends with prices that are the least costs of walks from the start prices, and with no others. Assumes nothing.
-- The words for walks and prices stand in Walks, the laws of single steps in Steps, what holds after each round in Rounds.
use Rattle.std.specs.Prelude.{◌≡◌, ◌⊎◌, set}
use Rattle.std.proofs.Math.Path.{refl, sym}
use Rattle.std.proofs.Common.{◌∙◌, inl, inr, le_antisymm, le_trans, length-set, ext_get_or}
use mathlib.Core.List.{List}
use Prim.Native.Nat.{ℕ, zero, suc, ◌+◌, ◌*◌, ◌≤◌, ◌<◌}
use Rattle.std.proofs.Math.Decide.{dec_le}
use native.Mathlib.Omega.{arith}
use Rattle.std.proofs.Math.ListN.{length, get_or}
use Rattle.std.proofs.lemmas.List.{length-replicate}
use Rattle.leaf.specs.Settle.{pick, settle, settled}
use Rattle.leaf.specs.Settle.Steps.{price_in_lem, pick_some, Hit, relax_length, relax_from, relax_below}
use Rattle.leaf.specs.Settle.Walks.{Walk, stand, step, Realised, Real, Ranged, Capped, Below, Closed}
use Rattle.leaf.specs.Settle.Rounds.{round, Settling, closed_out, closed_stop, settling_start, settling_next}

-- ---- settle

module _ (M m : ℕ) (cost : ℕ → ℕ) (to : ℕ → ℕ → ℕ) where
  -- what Q says of the rounds left, the prices and the flags at the start, and keeps saying after each round, gives R of the result
  pub settle_ind : (Q : ℕ → List ℕ → List ℕ → Type 0) (R : List ℕ → Type 0)
      → ((P D : List ℕ) → Q zero P D → R P)
      → ((k : ℕ) (P D : List ℕ) → pick M P D (length P) ≡ zero → Q (suc k) P D → R P)
      → ((k : ℕ) (P D : List ℕ) (x : ℕ) → pick M P D (length P) ≡ suc x → Q (suc k) P D → Q k (round M m cost to x P) (set D x 1))
      → (k : ℕ) (P D : List ℕ) → Q k P D → R (settle M m cost to k P D)
  unfolding settle
  settle_ind Q R out stop next zero P D q = out P D q
  settle_ind Q R out stop next (suc k) P D q =
      go (pick M P D (length P)) refl (λ x. settle_ind Q R out stop next k (round M m cost to x P) (set D x 1))
    where
      go : (r : ℕ) → pick M P D (length P) ≡ r
          → ((x : ℕ) → Q k (round M m cost to x P) (set D x 1) → R (settle M m cost to k (round M m cost to x P) (set D x 1)))
          → R (settle M m cost to (suc k) P D)
      go zero e rec = rw (e, settle) (stop k P D e q)
      go (suc x) e rec = rw (e, settle) (rec x (next k P D x e q))

-- ---- Walk and Closed

-- a walk that begins in range ends there
pub walk_in : (n m : ℕ) (cost : ℕ → ℕ) (to : ℕ → ℕ → ℕ) → Ranged n m to → {x y w : ℕ} → x < n → Walk m cost to x y w → y < n
walk_in n m cost to ranged h stand = h
walk_in n m cost to ranged h (step a r l e) = ranged a _ _ l (walk_in n m cost to ranged h r) e

module _ (M n m : ℕ) (cost : ℕ → ℕ) (to : ℕ → ℕ → ℕ) (ranged : Ranged n m to) where
  -- no walk leads to a state at less than its price in a closed list
  pub closed_least : {x y w : ℕ} (P : List ℕ) → Closed M n m cost to P → x < n → Walk m cost to x y w → get_or P y M ≤ get_or P x M + w
  unfolding Closed
  closed_least P c h stand = omega arith
  closed_least P c h (step a r l e) = omega (arith, closed_least P c h r, c _ a _ (walk_in n m cost to ranged h r) l e)

  -- a closed list below P has no higher price than one that is realised from P
  pub closed_below : (P Q R : List ℕ) → length P ≡ n → Capped M Q → Below M Q P → Closed M n m cost to Q → Real M m cost to P R → Below M Q R
  closed_below P Q R l c b q r u = go (dec_le M (get_or R u M))
    where
      go : Dec (M ≤ get_or R u M) → get_or Q u M ≤ get_or R u M
      go (yes h) = omega (arith, c u)
      go (no h) =
          let w = r u (omega arith) in
          let i : w.from < n = omega (arith, price_in_lem M P w.from (omega (arith, w.sum))) in
          omega (arith, w.sum, b w.from, closed_least Q q i w.walk)

-- ---- settled

module _ (M m : ℕ) (cost : ℕ → ℕ) (to : ℕ → ℕ → ℕ) where
  -- settling keeps the count of states
  pub settled_length : (P : List ℕ) → length (settled M m cost to P) ≡ length P
  unfolding settled
  settled_length P =
      settle_ind M m cost to (λ k R D. length R ≡ length P) (λ R. length R ≡ length P) (λ R D h. h) (λ k R D e h. h)
      (λ k R D x e h. relax_length M cost to x (get_or R x M) R m ∙ h) (length P) P _ refl

  -- no price rises
  pub settled_below : (P : List ℕ) → Below M (settled M m cost to P) P
  unfolding settled
  settled_below P u =
      settle_ind M m cost to (λ k R D. get_or R u M ≤ get_or P u M) (λ R. get_or R u M ≤ get_or P u M) (λ R D h. h) (λ k R D e h. h)
      (λ k R D x e h. omega (arith, relax_below M cost to x (get_or R x M) R m u)) (length P) P _ (omega arith)

  -- no price is above M, where none was
  pub settled_cap : (P : List ℕ) → Capped M P → Capped M (settled M m cost to P)
  settled_cap P c u = omega (arith, settled_below P u, c u)

  -- a round from prices that are realised: so are the prices afterwards
  pub round_real : (P R : List ℕ) (x : ℕ) → Real M m cost to P R → get_or R x M < M → Real M m cost to P (round M m cost to x R)
  round_real P R x r lx u = go (relax_from M cost to x (get_or R x M) R m u)
    where
      go : {q : ℕ} → (q ≡ get_or R u M) ⊎ (Hit cost to x (get_or R x M) m u q × (q ≤ get_or R u M)) → q < M → Realised M m cost to P u q
      go (inl e) l = rw e (r u (omega arith))
      go (inr (h, g)) l =
          let w = r x lx in
          record { from = w.from; toll = w.toll + cost h.act; walk = step h.act w.walk h.below h.leads; sum = omega (arith, w.sum, h.price) }

  -- a price below M is what a walk costs, added to the start price of the state where it begins
  pub settled_real : (P : List ℕ) → Real M m cost to P (settled M m cost to P)
  unfolding settled
  settled_real P =
      settle_ind M m cost to (λ k R D. (length D ≡ length R) × Real M m cost to P R) (Real M m cost to P) (λ R D h. h.1) (λ k R D e h. h.1)
      (λ k R D x e h. (length-set D x 1 ∙ h.0 ∙ sym (relax_length M cost to x (get_or R x M) R m), round_real P R x h.1 (pick_some M R D x h.0 e).some))
      (length P) P _ (length-replicate (length P) 0, λ u h. record { from = u; toll = 0; walk = stand; sum = omega arith })

  -- a round raises the highest price below M by the highest cost at most
  round_bound : (C E k x : ℕ) (P : List ℕ) → ((a : ℕ) → a < m → cost a ≤ C) → ((u : ℕ) → get_or P u M < M → get_or P u M + suc k * C ≤ E) → get_or P x M < M
      → (u : ℕ) → get_or (round M m cost to x P) u M < M → get_or (round M m cost to x P) u M + k * C ≤ E
  round_bound C E k x P hc h lx u = go (relax_from M cost to x (get_or P x M) P m u)
    where
      go : {q : ℕ} → (q ≡ get_or P u M) ⊎ (Hit cost to x (get_or P x M) m u q × (q ≤ get_or P u M)) → q < M → q + k * C ≤ E
      go (inl e) l = omega (arith, h u (omega arith))
      go (inr (t, g)) l = omega (arith, h x lx, t.price, hc t.act t.below)

  -- start prices of B at most and costs of C at most: no price below M is above B and one cost for each state
  pub settled_bound : (B C : ℕ) (P : List ℕ) → ((a : ℕ) → a < m → cost a ≤ C) → ((u : ℕ) → get_or P u M < M → get_or P u M ≤ B)
      → (u : ℕ) → get_or (settled M m cost to P) u M < M → get_or (settled M m cost to P) u M ≤ B + length P * C
  unfolding settled
  settled_bound B C P hc b =
      settle_ind M m cost to (λ k R D. (length D ≡ length R) × ((u : ℕ) → get_or R u M < M → get_or R u M + k * C ≤ B + length P * C))
      (λ R. (u : ℕ) → get_or R u M < M → get_or R u M ≤ B + length P * C) (λ R D h u l. omega (arith, h.1 u l)) (λ k R D e h u l. omega (arith, h.1 u l))
      (λ k R D x e h. (length-set D x 1 ∙ h.0 ∙ sym (relax_length M cost to x (get_or R x M) R m), round_bound C (B + length P * C) k x R hc h.1 (pick_some M R D x h.0 e).some))
      (length P) P _ (length-replicate (length P) 0, λ u h. omega (arith, b u h))

  -- where no start price is below b, no price is
  pub settled_floor : (b : ℕ) (P : List ℕ) → ((u : ℕ) → b ≤ get_or P u M) → (u : ℕ) → b ≤ get_or (settled M m cost to P) u M
  unfolding settled
  settled_floor b P =
      settle_ind M m cost to (λ k R D. (u : ℕ) → b ≤ get_or R u M) (λ R. (u : ℕ) → b ≤ get_or R u M) (λ R D h. h) (λ k R D e h. h)
      (λ k R D x e h u. floor x R h u (relax_from M cost to x (get_or R x M) R m u)) (length P) P _
    where
      floor : (x : ℕ) (R : List ℕ) → ((u : ℕ) → b ≤ get_or R u M) → (u : ℕ) {q : ℕ} → (q ≡ get_or R u M) ⊎ (Hit cost to x (get_or R x M) m u q × (q ≤ get_or R u M)) → b ≤ q
      floor x R h u (inl e) = omega (arith, h u)
      floor x R h u (inr (t, l)) = omega (arith, t.price, h x)

-- ---- settled, where actions stay in range

module _ (M n m : ℕ) (cost : ℕ → ℕ) (to : ℕ → ℕ → ℕ) (ranged : Ranged n m to) where
  -- no action leads to a state at less than its price
  pub settled_closed : (P : List ℕ) → length P ≡ n → Capped M P → Closed M n m cost to (settled M m cost to P)
  unfolding settled
  settled_closed P l c =
      settle_ind M m cost to (Settling M n m cost to) (Closed M n m cost to) (closed_out M n m cost to ranged) (λ k. closed_stop M n m cost to ranged (suc k))
      (λ k R D x e v. settling_next M n m cost to ranged k x R D v (pick_some M R D x (omega (arith, v.prices, v.flags)) e))
      (length P) P _ (settling_start M n m cost to ranged P l c)

  -- no walk from a state leads to another for less than its settled price, counted from the start price
  pub settled_least : {x y w : ℕ} (P : List ℕ) → length P ≡ n → Capped M P → x < n → Walk m cost to x y w
      → get_or (settled M m cost to P) y M ≤ get_or P x M + w
  settled_least {x} P l c h r = omega (arith, settled_below M m cost to P x, closed_least M n m cost to ranged _ (settled_closed P l c) h r)

  -- lower start prices settle at lower prices
  pub settled_mono : (P R : List ℕ) → length P ≡ n → length R ≡ n → Capped M P → Below M P R → Below M (settled M m cost to P) (settled M m cost to R)
  settled_mono P R l k c h =
      closed_below M n m cost to ranged R _ (settled M m cost to R) k (settled_cap M m cost to P c) (λ u. le_trans (settled_below M m cost to P u) (h u))
      (settled_closed P l c) (settled_real M m cost to R)

  -- prices below the start prices that are closed and realised are the settled ones
  pub settled_unique : (P Q : List ℕ) → length P ≡ n → length Q ≡ n → Capped M P → Capped M Q → Below M Q P → Closed M n m cost to Q
      → Real M m cost to P Q → Q ≡ settled M m cost to P
  settled_unique P Q l k c d b q r =
      ext_get_or M Q _ (k ∙ sym l ∙ sym (settled_length M m cost to P))
      (λ u _. le_antisymm
      (closed_below M n m cost to ranged P Q (settled M m cost to P) l d b q (settled_real M m cost to P) u)
      (closed_below M n m cost to ranged P (settled M m cost to P) Q l (settled_cap M m cost to P c) (settled_below M m cost to P) (settled_closed P l c) r u))
