-- What holds after each round of settling, and why the prices are closed in the end. Only Laws uses it. Assumes nothing.
use Rattle.std.specs.Prelude.{◌≡◌, refl, ◌≢◌, ◌⊎◌, List, [], ◌∷◌, ℕ, zero, suc, ◌+◌, ◌≤◌, ◌<◌, length, set, replicate}
use Rattle.std.proofs.Common.{sym, ap, ◌∙◌, inl, inr, not-suc-le-zero, arith, length-set}
use Rattle.std.proofs.Math.ListN.{get_or}
use Rattle.std.proofs.lemmas.List.{length-replicate}
use Rattle.leaf.specs.Settle.{key_at, pick, relax}
use Rattle.leaf.specs.Settle.Steps.{set_cases, replicate_at, key_at_cases, Picked, pick_none, relax_length, relax_below, relax_above, relax_hit}
use Rattle.leaf.specs.Settle.Walks.{Ranged, Capped, Below, Closed}

-- a round: the prices after state x is settled
abbrev pub round : (M m : ℕ) (cost : ℕ → ℕ) (to : ℕ → ℕ → ℕ) → ℕ → List ℕ → List ℕ
round M m cost to x P = relax M cost to x (get_or P x M) P m

-- ---- flags

-- how many states are not settled
unfoldable pub opens : List ℕ → ℕ
opens [] = zero
opens (zero ∷ D) = suc (opens D)
opens (suc f ∷ D) = opens D

-- settling one leaves one fewer open
opens_set : (D : List ℕ) (x : ℕ) → x < length D → get_or D x 0 ≡ 0 → suc (opens (set D x 1)) ≡ opens D
unfolding opens
opens_set [] x h e = absurd (not-suc-le-zero h)
opens_set (zero ∷ D) zero h e = refl
opens_set (suc f ∷ D) zero h e = omega arith
opens_set (zero ∷ D) (suc x) h e = ap suc (opens_set D x (omega arith) e)
opens_set (suc f ∷ D) (suc x) h e = opens_set D x (omega arith) e

-- where none is open, each is settled
opens_none : (D : List ℕ) (u : ℕ) → opens D ≡ 0 → u < length D → get_or D u 0 ≢ 0
unfolding opens
opens_none [] u o h e = not-suc-le-zero h
opens_none (zero ∷ D) u o h e = omega arith
opens_none (suc f ∷ D) zero o h e = omega arith
opens_none (suc f ∷ D) (suc u) o h e = opens_none D u o (omega arith) e

-- at the start all are open
opens_start : (n : ℕ) → opens (replicate n 0) ≡ n
unfolding opens
opens_start zero = refl
opens_start (suc n) = ap suc (opens_start n)

-- ---- what holds after each round

-- settled states have the lowest prices, and no action leads from one of them to a state at less than its price
pub record Settling (M n m : ℕ) (cost : ℕ → ℕ) (to : ℕ → ℕ → ℕ) (k : ℕ) (P D : List ℕ) : Type 0 where
  pub prices : length P ≡ n
  pub flags : length D ≡ n
  pub few : opens D ≤ k
  pub cap : Capped M P
  pub low : (x u : ℕ) → get_or D x 0 ≢ 0 → get_or P x M ≤ key_at M P D u
  pub edge : (x a y : ℕ) → get_or D x 0 ≢ 0 → x < n → a < m → to a x ≡ suc y → get_or P y M ≤ get_or P x M + cost a

module _ (M n m : ℕ) (cost : ℕ → ℕ) (to : ℕ → ℕ → ℕ) (ranged : Ranged n m to) where
  -- with no round left, every state is settled
  pub closed_out : (P D : List ℕ) → Settling M n m cost to 0 P D → Closed M n m cost to P
  unfolding Closed
  closed_out P D v x a y h l e = v.edge x a y (opens_none D x (omega (arith, v.few)) (omega (arith, v.flags))) h l e

  -- where no state is picked, open states have the price M
  pub closed_stop : (k : ℕ) (P D : List ℕ) → pick M P D (length P) ≡ zero → Settling M n m cost to k P D → Closed M n m cost to P
  unfolding Closed
  closed_stop k P D z v x a y h l e = go (key_at_cases M P D x)
    where
      go : ((get_or D x 0 ≡ 0) × (key_at M P D x ≡ get_or P x M)) ⊎ ((get_or D x 0 ≢ 0) × (key_at M P D x ≡ M)) → get_or P y M ≤ get_or P x M + cost a
      go (inl (o, k)) = omega (arith, v.cap y, pick_none M P D x (omega (arith, v.prices, v.flags)) z)
      go (inr (o, k)) = v.edge x a y o h l e

  module _ (k x : ℕ) (P D : List ℕ) (v : Settling M n m cost to (suc k) P D) (q : Picked M P D x) where
    -- the prices and the flags after the round
    abbrev P' : List ℕ
    P' = round M m cost to x P

    abbrev D' : List ℕ
    D' = set D x 1

    -- no price rises
    below : Below M P' P
    below u = relax_below M cost to x (get_or P x M) P m u

    -- a state no dearer than x keeps its price
    keep : (u : ℕ) → get_or P u M ≤ get_or P x M → get_or P' u M ≡ get_or P u M
    keep u h = omega (arith, below u, relax_above M cost to x (get_or P x M) P m u)

    -- what is settled now was settled before, or is x
    was : (s : ℕ) → get_or D' s 0 ≢ 0 → (get_or D s 0 ≢ 0) ⊎ (s ≡ x)
    was s h = go (set_cases D x 1 s 0)
      where
        go : (get_or D' s 0 ≡ get_or D s 0) ⊎ ((s ≡ x) × (get_or D' s 0 ≡ 1)) → (get_or D s 0 ≢ 0) ⊎ (s ≡ x)
        go (inl e) = inl (omega arith)
        go (inr (e, f)) = inr e

    -- the price of what stays open is no lower than that of x
    open_above : (u : ℕ) → get_or D' u 0 ≡ 0 → get_or P x M ≤ get_or P' u M
    open_above u o = go (set_cases D x 1 u 0) (key_at_cases M P D u)
      where
        go : (get_or D' u 0 ≡ get_or D u 0) ⊎ ((u ≡ x) × (get_or D' u 0 ≡ 1))
            → ((get_or D u 0 ≡ 0) × (key_at M P D u ≡ get_or P u M)) ⊎ ((get_or D u 0 ≢ 0) × (key_at M P D u ≡ M)) → get_or P x M ≤ get_or P' u M
        go (inl e) (inl h) = omega (arith, q.least u, relax_above M cost to x (get_or P x M) P m u)
        go (inl e) (inr h) = omega arith
        go (inr h) c = omega arith

    -- the price of what is settled is no higher than that of x
    shut_below : (s : ℕ) → get_or D' s 0 ≢ 0 → get_or P s M ≤ get_or P x M
    shut_below s h = go (was s h)
      where
        go : (get_or D s 0 ≢ 0) ⊎ (s ≡ x) → get_or P s M ≤ get_or P x M
        go (inl g) = omega (arith, v.low s x g, q.is_key)
        go (inr e) = rw e (omega arith)

    -- settled states still have the lowest prices
    next_low : (s u : ℕ) → get_or D' s 0 ≢ 0 → get_or P' s M ≤ key_at M P' D' u
    next_low s u h = go (key_at_cases M P' D' u)
      where
        go : ((get_or D' u 0 ≡ 0) × (key_at M P' D' u ≡ get_or P' u M)) ⊎ ((get_or D' u 0 ≢ 0) × (key_at M P' D' u ≡ M)) → get_or P' s M ≤ key_at M P' D' u
        go (inl (o, k)) = omega (arith, keep s (shut_below s h), shut_below s h, open_above u o)
        go (inr (o, k)) = omega (arith, below s, v.cap s)

    -- no action leads from a settled state to one at less than its price
    next_edge : (s a y : ℕ) → get_or D' s 0 ≢ 0 → s < n → a < m → to a s ≡ suc y → get_or P' y M ≤ get_or P' s M + cost a
    next_edge s a y h b l e = go (was s h)
      where
        go : (get_or D s 0 ≢ 0) ⊎ (s ≡ x) → get_or P' y M ≤ get_or P' s M + cost a
        go (inl g) = omega (arith, v.edge s a y g b l e, below y, keep s (shut_below s h))
        go (inr f) =
            let hit = relax_hit M cost to x (get_or P x M) P m a y (omega (arith, ranged a s y l b e, v.prices)) l (ap (to a) (sym f) ∙ e) in
            omega (arith, keep s (shut_below s h), ap (λ z. get_or P z M) f)

    -- a round later
    pub settling_next : Settling M n m cost to k P' D'
    settling_next = record {
      prices = relax_length M cost to x (get_or P x M) P m ∙ v.prices;
      flags = length-set D x 1 ∙ v.flags;
      few = omega (arith, opens_set D x (omega (arith, q.inside, v.prices, v.flags)) q.is_open, v.few);
      cap = λ u. omega (arith, v.cap u, below u);
      low = next_low;
      edge = next_edge;
    }

  -- at the start no state is settled
  pub settling_start : (P : List ℕ) → length P ≡ n → Capped M P → Settling M n m cost to (length P) P (replicate (length P) 0)
  settling_start P l c = record {
    prices = l;
    flags = length-replicate (length P) 0 ∙ l;
    few = omega (arith, opens_start (length P));
    cap = c;
    low = λ x u h. absurd (h (replicate_at (length P) 0 x));
    edge = λ x a y h. absurd (h (replicate_at (length P) 0 x));
  }
