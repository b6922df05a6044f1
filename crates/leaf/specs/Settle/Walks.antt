-- The words in which the laws of settling are stated: walks of one leaf inside one layer, and what prices can be. Definitions alone.
-- M, m, cost and to are as in settling; n is the count of states.
use Rattle.std.specs.Prelude.{◌≡◌, List, ℕ, suc, ◌+◌, ◌≤◌, ◌<◌, get_or}

-- a walk from x to a state, of actions below m, and its cost
pub data Walk (m : ℕ) (cost : ℕ → ℕ) (to : ℕ → ℕ → ℕ) (x : ℕ) : ℕ → ℕ → Type 0 where
  stand : Walk m cost to x x 0
  step : {y z w : ℕ} (a : ℕ) → Walk m cost to x y w → a < m → to a y ≡ suc z → Walk m cost to x z (w + cost a)

-- p is what a walk to u costs, added to the price in P of the state where it begins
pub record Realised (M m : ℕ) (cost : ℕ → ℕ) (to : ℕ → ℕ → ℕ) (P : List ℕ) (u p : ℕ) : Type 0 where
  pub from : ℕ
  pub toll : ℕ
  pub walk : Walk m cost to from u toll
  pub sum : p ≡ get_or P from M + toll

-- each price of Q below M is realised from P
abbrev pub Real : (M m : ℕ) (cost : ℕ → ℕ) (to : ℕ → ℕ → ℕ) → List ℕ → List ℕ → Type 0
Real M m cost to P Q = (u : ℕ) → get_or Q u M < M → Realised M m cost to P u (get_or Q u M)

-- every action leads from states below n to states below n
abbrev pub Ranged : (n m : ℕ) (to : ℕ → ℕ → ℕ) → Type 0
Ranged n m to = (a x y : ℕ) → a < m → x < n → to a x ≡ suc y → y < n

-- no price is above M
abbrev pub Capped : ℕ → List ℕ → Type 0
Capped M P = (u : ℕ) → get_or P u M ≤ M

-- no price of Q is above that of P
abbrev pub Below : ℕ → List ℕ → List ℕ → Type 0
Below M Q P = (u : ℕ) → get_or Q u M ≤ get_or P u M

-- no action leads to a state at less than its price
unfoldable pub Closed : (M n m : ℕ) (cost : ℕ → ℕ) (to : ℕ → ℕ → ℕ) → List ℕ → Type 0
Closed M n m cost to P = (x a y : ℕ) → x < n → a < m → to a x ≡ suc y → get_or P y M ≤ get_or P x M + cost a
