-- Settling by sweeps: the first goes through all states, and a flag marks each state as dirty (not 0) whose price fell since it last lowered others.
-- Every other sweep goes through the dirty states. Where no price falls in a sweep of a state that had its turn, the prices are the settled ones.
-- Assumes nothing.
-- M, m, cost and to are as in settling; n is the count of states.
use Rattle.std.specs.Prelude.{◌≡◌, refl, ◌⊎◌, Bool, true, false, ◌||◌, List, [], ◌∷◌, ℕ, zero, suc, ◌+◌, ◌≤◌, ◌<◌, length, get_or, set}
use Rattle.std.proofs.Common.{sym, ap, ◌∙◌, inl, inr, true≢false, not-suc-le-zero, arith, get_or-set_same, get_or-set_other}
use Rattle.std.proofs.Math.Decide.{dec_lt, ℕ_discrete}
use Rattle.leaf.specs.Settle.{relax, settled}
use Rattle.leaf.specs.Settle.Steps.{set_cases, relax_length, relax_below, relax_hit}
use Rattle.leaf.specs.Settle.Walks.{stand, Real, Ranged, Capped, Below, Closed}
use Rattle.leaf.specs.Settle.Laws.{round_real, settled_unique}

-- ---- total

-- the sum of all prices
unfoldable pub total : List ℕ → ℕ
total [] = 0
total (p ∷ P) = p + total P

-- where a price falls, the sum does
total_set : (P : List ℕ) (t v : ℕ) → t < length P → v < get_or P t 0 → total (set P t v) < total P
unfolding total
total_set [] t v h l = absurd (not-suc-le-zero h)
total_set (p ∷ P) zero v h l = omega arith
total_set (p ∷ P) (suc t) v h l = omega (arith, total_set P t v (omega arith) l)

-- ---- flags

-- what is clean once x is set clean: x, or what was clean before
set_clean : (D : List ℕ) (x u : ℕ) → get_or (set D x 0) u 0 ≡ 0 → (u ≡ x) ⊎ (get_or D u 0 ≡ 0)
set_clean D x u e = go (ℕ_discrete u x)
  where
    go : Dec (u ≡ x) → (u ≡ x) ⊎ (get_or D u 0 ≡ 0)
    go (yes q) = inl q
    go (no q) = inr (sym (get_or-set_other D x u 0 0 q) ∙ e)

-- what was clean stays so
clean_set : (D : List ℕ) (x u : ℕ) → get_or D u 0 ≡ 0 → get_or (set D x 0) u 0 ≡ 0
clean_set D x u e = go (set_cases D x 0 u 0)
  where
    go : (get_or (set D x 0) u 0 ≡ get_or D u 0) ⊎ ((u ≡ x) × (get_or (set D x 0) u 0 ≡ 0)) → get_or (set D x 0) u 0 ≡ 0
    go (inl q) = q ∙ e
    go (inr q) = q.1

-- ---- prices that fell

-- neither of two tests holds
pub or_false : (a b : Bool) → (a || b) ≡ false → (a ≡ false) × (b ≡ false)
or_false true b e = absurd (true≢false e)
or_false false b e = (refl, e)

-- a sum that falls from p to q and on to r, in one of the steps at least
sum_falls : (a b : Bool) (p q r : ℕ) → (a ≡ true → q < p) → (b ≡ true → r < q) → q ≤ p → r ≤ q → (a || b) ≡ true → r < p
sum_falls true b p q r f g l m e = omega (arith, f refl)
sum_falls false b p q r f g l m e = omega (arith, g e)

-- prices Q and flags E after prices P and flags D, and whether a price fell of a state up to x: then the sum fell, else those states are as they were.
-- The sum did not rise. What is clean was clean, and its price is as it was.
pub record Fell (M x : ℕ) (P D : List ℕ) (r : Bool) (Q E : List ℕ) : Type 0 where
  pub kept : (u : ℕ) → get_or E u 0 ≡ 0 → (get_or D u 0 ≡ 0) × (get_or Q u M ≡ get_or P u M)
  pub low : total Q ≤ total P
  pub falls : r ≡ true → total Q < total P
  pub same : r ≡ false → (u : ℕ) → u ≤ x → (get_or Q u M ≡ get_or P u M) × (get_or E u 0 ≡ get_or D u 0)

module _ (M x : ℕ) where
  -- nothing changed
  pub fell_none : (P D : List ℕ) → Fell M x P D false P D
  fell_none P D = record { kept = λ u e. (e, refl); low = omega arith; falls = λ e. absurd (true≢false (sym e)); same = λ e u l. (refl, refl) }

  -- one price fell, and its state is dirty
  pub fell_one : (P D : List ℕ) (t v : ℕ) (r : Bool) → t < length P → t < length D → v < get_or P t 0 → (r ≡ false → x < t)
      → Fell M x P D r (set P t v) (set D t 1)
  fell_one P D t v r h g l ahead =
      record {
        kept = λ u. kept u (ℕ_discrete u t);
        low = omega (arith, total_set P t v h l);
        falls = λ e. total_set P t v h l;
        same = λ e u o. let apart : u ≡ t → ⊥ = λ q. omega (arith, ahead e) in (get_or-set_other P t u v M apart, get_or-set_other D t u 1 0 apart);
      }
    where
      kept : (u : ℕ) → Dec (u ≡ t) → get_or (set D t 1) u 0 ≡ 0 → (get_or D u 0 ≡ 0) × (get_or (set P t v) u M ≡ get_or P u M)
      kept u (yes q) e = absurd (omega (arith, rw q at e, get_or-set_same D t 1 0 g))
      kept u (no q) e = (sym (get_or-set_other D t u 1 0 q) ∙ e, get_or-set_other P t u v M q)

  -- one step after the other
  pub fell_join : (P D Q E Q' E' : List ℕ) (a b : Bool) → Fell M x P D a Q E → Fell M x Q E b Q' E' → Fell M x P D (a || b) Q' E'
  fell_join P D Q E Q' E' a b f g =
      record {
        kept = λ u e. let k = g.kept u e in let l = f.kept u k.0 in (l.0, k.1 ∙ l.1);
        low = omega (arith, f.low, g.low);
        falls = sum_falls a b (total P) (total Q) (total Q') f.falls g.falls f.low g.low;
        same = λ e u l.
            let none = or_false a b e in
            let k = g.same none.1 u l in
            let o = f.same none.0 u l in
            (k.0 ∙ o.0, k.1 ∙ o.1);
      }

-- ---- what holds all along

-- state u need not be visited again: it is clean, or it is not reached
abbrev pub Idle : ℕ → ℕ → List ℕ → List ℕ → Type 0
Idle M u Q E = (get_or E u 0 ≡ 0) ⊎ (M ≤ get_or Q u M)

-- the states below k are those below j, and those from x to y
abbrev pub Reach : ℕ → ℕ → ℕ → ℕ → Type 0
Reach j k x y = (u : ℕ) → u < k → (u < j) ⊎ ((x ≤ u) × (u < y))

-- states that stand next to those before
pub reach_next : (x y : ℕ) → Reach x y x y
reach_next x y u l = go (dec_lt u x)
  where
    go : Dec (u < x) → (u < x) ⊎ ((x ≤ u) × (u < y))
    go (yes h) = inl h
    go (no h) = inr (omega arith, l)

module _ (M n m : ℕ) (cost : ℕ → ℕ) (to : ℕ → ℕ → ℕ) where
  -- prices Q and flags D on the way from the start prices P, with the states below k visited: no price is above its start price or M, each below M
  -- is what a walk costs, and no action leads from a clean state that was visited to one at less than its price
  pub record Sweeping (k : ℕ) (P Q D : List ℕ) : Type 0 where
    pub prices : length Q ≡ n
    pub cap : Capped M Q
    pub below : Below M Q P
    pub real : Real M m cost to P Q
    pub clean : (x a y : ℕ) → get_or D x 0 ≡ 0 → x < k → x < n → a < m → to a x ≡ suc y → get_or Q y M ≤ get_or Q x M + cost a

  -- the states from x to y were visited by rising number, where the states below j had been, and those below k have been now. Whether a price fell of a
  -- state that had its turn: then the sum fell, else these states need not be visited again, nor those before them that needed not. The sum did not rise.
  pub record Swept (j k x y : ℕ) (P D : List ℕ) (r : Bool) (Q E : List ℕ) : Type 0 where
    pub keeps : (R : List ℕ) → Sweeping j R P D → Sweeping k R Q E
    pub low : total Q ≤ total P
    pub falls : r ≡ true → total Q < total P
    pub idle : r ≡ false → (u : ℕ) → u < y → (x ≤ u) ⊎ Idle M u P D → Idle M u Q E

  -- ---- visits

  -- a clean state that had been visited: nothing happens
  pub visit_clean : (k x : ℕ) (P D : List ℕ) → get_or D x 0 ≡ 0 → Swept k k x (x + 1) P D false P D
  visit_clean k x P D e =
      record { keeps = λ R s. s; low = omega arith; falls = λ h. absurd (true≢false (sym h)); idle = λ _. idle }
    where
      idle : (u : ℕ) → u < x + 1 → (x ≤ u) ⊎ Idle M u P D → Idle M u P D
      idle u l (inl h) = let q : u ≡ x = omega arith in rw q (inl e)
      idle u l (inr w) = w

  -- states that are not reached: nothing happens
  pub visit_far : (j k x y : ℕ) (P D : List ℕ) → Reach j k x y → ((u : ℕ) → x ≤ u → u < y → M ≤ get_or P u M) → Swept j k x y P D false P D
  visit_far j k x y P D reach far =
      record { keeps = keeps; low = omega arith; falls = λ e. absurd (true≢false (sym e)); idle = λ _. idle }
    where
      idle : (u : ℕ) → u < y → (x ≤ u) ⊎ Idle M u P D → Idle M u P D
      idle u l (inl h) = inr (far u h l)
      idle u l (inr w) = w

      keeps : (R : List ℕ) → Sweeping j R P D → Sweeping k R P D
      keeps R s = record { prices = s.prices; cap = s.cap; below = s.below; real = s.real; clean = λ u a z e h. go u a z e (reach u h) }
        where
          go : (u a z : ℕ) → get_or D u 0 ≡ 0 → (u < j) ⊎ ((x ≤ u) × (u < y)) → u < n → a < m → to a u ≡ suc z → get_or P z M ≤ get_or P u M + cost a
          go u a z e (inl h) l g t = s.clean u a z e h l g t
          go u a z e (inr h) l g t = omega (arith, s.cap z, far u h.0 h.1)

  -- a state that is reached: its actions lower prices
  pub visit_near : Ranged n m to → (j k x : ℕ) (P D Q E : List ℕ) (r : Bool) → Reach j k x (x + 1) → length P ≡ n → x < length D → get_or P x M < M
      → Q ≡ relax M cost to x (get_or P x M) P m → Fell M x P (set D x 0) r Q E → Swept j k x (x + 1) P D r Q E
  visit_near ranged j k x P D Q E r reach l h near q f = record { keeps = keeps; low = f.low; falls = f.falls; idle = idle }
    where
      lower : (u : ℕ) → get_or Q u M ≤ get_or P u M
      lower u = rw q (relax_below M cost to x (get_or P x M) P m u)

      idle : r ≡ false → (u : ℕ) → u < x + 1 → (x ≤ u) ⊎ Idle M u P D → Idle M u Q E
      idle e u i (inl o) = let z : u ≡ x = omega arith in inl ((f.same e u (omega arith)).1 ∙ rw z (get_or-set_same D x 0 0 h))
      idle e u i (inr (inl o)) = inl ((f.same e u (omega arith)).1 ∙ clean_set D x u o)
      idle e u i (inr (inr o)) = inr (rw (f.same e u (omega arith)).0 o)

      keeps : (R : List ℕ) → Sweeping j R P D → Sweeping k R Q E
      keeps R s =
          record {
            prices = rw q (relax_length M cost to x (get_or P x M) P m ∙ l);
            cap = λ u. omega (arith, lower u, s.cap u);
            below = λ u. omega (arith, lower u, s.below u);
            real = rw q (round_real M m cost to R P x s.real near);
            clean = λ u a y e i. let o = f.kept u e in go u a y o.1 (reach u i) (set_clean D x u o.0);
          }
        where
          own : (u a y : ℕ) → get_or Q u M ≡ get_or P u M → u ≡ x → u < n → a < m → to a u ≡ suc y → get_or Q y M ≤ get_or Q u M + cost a
          own u a y o z b g t =
              let hit = relax_hit M cost to x (get_or P x M) P m a y (omega (arith, ranged a u y g b t)) g (ap (to a) (sym z) ∙ t) in
              let price = ap (λ w. get_or P w M) z in
              let made : get_or Q y M ≤ get_or P x M + cost a = rw q hit in
              omega arith

          go : (u a y : ℕ) → get_or Q u M ≡ get_or P u M → (u < j) ⊎ ((x ≤ u) × (u < x + 1)) → (u ≡ x) ⊎ (get_or D u 0 ≡ 0) → u < n → a < m → to a u ≡ suc y
              → get_or Q y M ≤ get_or Q u M + cost a
          go u a y o (inr i) w b g t = own u a y o (omega arith) b g t
          go u a y o (inl i) (inl z) b g t = own u a y o z b g t
          go u a y o (inl i) (inr z) b g t = omega (arith, lower y, s.clean u a y z i b g t)

  -- ---- sweeps

  -- no state
  pub swept_none : (j x : ℕ) (P D : List ℕ) → Swept j j x x P D false P D
  swept_none j x P D = record { keeps = λ R s. s; low = omega arith; falls = λ e. absurd (true≢false (sym e)); idle = λ _. idle }
    where
      idle : (u : ℕ) → u < x → (x ≤ u) ⊎ Idle M u P D → Idle M u P D
      idle u l (inl h) = absurd (omega arith)
      idle u l (inr w) = w

  -- states, and then those behind them
  pub swept_join : (i j k x y z : ℕ) (P D Q E Q' E' : List ℕ) (a b : Bool) → Swept i j x y P D a Q E → Swept j k y z Q E b Q' E'
      → Swept i k x z P D (a || b) Q' E'
  swept_join i j k x y z P D Q E Q' E' a b w v =
      record {
        keeps = λ R s. v.keeps R (w.keeps R s);
        low = omega (arith, w.low, v.low);
        falls = sum_falls a b (total P) (total Q) (total Q') w.falls v.falls w.low v.low;
        idle = λ e u l h. let none = or_false a b e in v.idle none.1 u l (go none.0 u h (dec_lt u y));
      }
    where
      go : a ≡ false → (u : ℕ) → (x ≤ u) ⊎ Idle M u P D → Dec (u < y) → (y ≤ u) ⊎ Idle M u Q E
      go e u h (yes l) = inr (w.idle e u l h)
      go e u h (no l) = inl (omega arith)

  -- ---- settling

  -- at the start no state was visited
  pub sweeping_start : (P D : List ℕ) → length P ≡ n → Capped M P → Sweeping 0 P P D
  sweeping_start P D l c =
      record {
        prices = l;
        cap = c;
        below = λ u. omega arith;
        real = λ u _. record { from = u; toll = 0; walk = stand; sum = omega arith };
        clean = λ x a y e h. absurd (not-suc-le-zero h);
      }

  -- a sweep over all states at which no price fell of one that had its turn: the prices are the settled ones
  pub sweeping_end : Ranged n m to → (j : ℕ) (P Q D Q' E : List ℕ) {r : Bool} → length P ≡ n → Capped M P → Sweeping j P Q D → Swept j n 0 n Q D r Q' E → r ≡ false
      → Q' ≡ settled M m cost to P
  unfolding Closed
  sweeping_end ranged j P Q D Q' E l c s w e =
      settled_unique M n m cost to ranged P Q' l z.prices c z.cap z.below (λ x a y h g t. go x a y h g t (w.idle e x h (inl (omega arith)))) z.real
    where
      z : Sweeping n P Q' E
      z = w.keeps P s

      go : (x a y : ℕ) → x < n → a < m → to a x ≡ suc y → Idle M x Q' E → get_or Q' y M ≤ get_or Q' x M + cost a
      go x a y h g t (inl o) = z.clean x a y o h h g t
      go x a y h g t (inr far) = omega (arith, z.cap y)
