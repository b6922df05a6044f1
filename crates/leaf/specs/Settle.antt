-- Settling a leaf's prices inside one layer: "leaf actions whose centre conditions hold lower prices until each is the cheapest way."
-- This is Dijkstra's algorithm over a list of prices. Actions are numbered 0 to m - 1 here; `to a x` is one more than the state that action a
-- makes of x, or 0 where it does not apply. M is the unreachable mark: it only acts as a cap. The code settles by sweeps, to the same prices (Sweeps).
pub mod Walks
pub mod Steps
pub mod Rounds
pub mod Laws
pub mod Ext
pub mod Turns
pub mod Sweeps
use Rattle.std.specs.Prelude.{cond, List, ℕ, zero, suc, ◌+◌, min, ltb, length, get_or, set, replicate}

-- the price of the state k - 1 is v, where that is lower; k is 0 for no state
unfoldable pub lower : ℕ → List ℕ → ℕ → ℕ → List ℕ
lower M P zero v = P
lower M P (suc t) v = set P t (min (get_or P t M) v)

-- a state's place in the queue: its price, or M once it is settled (flag not 0; the field says: closed)
unfoldable pub key : ℕ → ℕ → ℕ → ℕ
key M zero p = p
key M (suc f) p = M

unfoldable pub key_at : ℕ → List ℕ → List ℕ → ℕ → ℕ
key_at M P D u = key M (get_or D u 0) (get_or P u M)

-- the key of a pick, which is one more than a state, or 0 for none
unfoldable pub key_of : ℕ → List ℕ → List ℕ → ℕ → ℕ
key_of M P D zero = M
key_of M P D (suc x) = key_at M P D x

-- the pick among the states below i: the least key below M, the lowest state on ties
unfoldable pub pick : ℕ → List ℕ → List ℕ → ℕ → ℕ
pick M P D zero = zero
pick M P D (suc i) = cond (ltb (key_at M P D i) (key_of M P D (pick M P D i))) (suc i) (pick M P D i)

module _ (M : ℕ) (cost : ℕ → ℕ) (to : ℕ → ℕ → ℕ) where
  -- the actions below i lower the prices of what they make of state x, whose price is d
  unfoldable pub relax : ℕ → ℕ → List ℕ → ℕ → List ℕ
  relax x d P zero = P
  relax x d P (suc i) = lower M (relax x d P i) (to i x) (d + cost i)

module _ (M m : ℕ) (cost : ℕ → ℕ) (to : ℕ → ℕ → ℕ) where
  -- at most k rounds, from prices P and flags D
  unfoldable pub settle : ℕ → List ℕ → List ℕ → List ℕ
  settle zero P D = P
  settle (suc k) P D =
      elim (pick M P D (length P)) [ zero ↦ P | suc x ↦ settle k (relax M cost to x (get_or P x M) P m) (set D x 1) ]

  -- as many rounds as there are states, from no state settled
  unfoldable pub settled : List ℕ → List ℕ
  settled P = settle (length P) P (replicate (length P) 0)
