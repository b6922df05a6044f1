-- A state sets out, and states one behind the other are visited. Assumes nothing.
use Rattle.std.specs.Prelude.{◌≡◌, Bool, false, ◌||◌, List, ℕ, ◌+◌, ◌≤◌, ◌<◌, length, get_or, set}
use Rattle.std.proofs.Common.{arith}
use Rattle.leaf.specs.Price.{mark}
use Rattle.leaf.specs.Settle.{relax}
use Rattle.leaf.specs.Settle.Turns.{at_any}
use Rattle.leaf.specs.Settle.Walks.{Ranged}
use Rattle.leaf.specs.Settle.Sweeps.{Fell, Swept, Reach, visit_far, visit_near, swept_join}
use Rattle.settle.specs.Settling.{Meaning, SweptBy}

module _ (n m : ℕ) (cost : ℕ → ℕ) (to : ℕ → ℕ → ℕ) (j k x : ℕ) (P D : List ℕ) (inside : x < length P) (reach : Reach j k x (x + 1)) where
  -- the state is not reached: nothing happens
  pub set_out_far : mark ≤ get_or P x 0 → Swept mark n m cost to j k x (x + 1) P D false P D
  set_out_far far =
      let own = at_any P x 0 mark inside in
      visit_far mark n m cost to j k x (x + 1) P D reach (λ u h l. let q : u ≡ x = omega arith in rw q (omega arith))

  -- it is reached: its actions lower prices
  pub set_out_near : (Q E : List ℕ) (r : Bool) → Ranged n m to → length P ≡ n → length P ≤ length D → get_or P x 0 < mark
      → Q ≡ relax mark cost to x (get_or P x mark) P m → Fell mark x P (set D x 0) r Q E → Swept mark n m cost to j k x (x + 1) P D r Q E
  set_out_near Q E r stays long room near lowers told =
      let own = at_any P x 0 mark inside in
      visit_near mark n m cost to stays j k x P D Q E r reach long (omega arith) (omega arith) lowers told

-- states, and then those behind them
pub swept_on : (meant : Meaning) (n i j k x y z : ℕ) (P D Q E Q' E' : List ℕ) (a b : Bool) → SweptBy meant n i j x y P D a Q E → SweptBy meant n j k y z Q E b Q' E'
    → SweptBy meant n i k x z P D (a || b) Q' E'
swept_on meant n i j k x y z P D Q E Q' E' a b w v m cost to h = swept_join mark n m cost to i j k x y z P D Q E Q' E' a b (w m cost to h) (v m cost to h)
