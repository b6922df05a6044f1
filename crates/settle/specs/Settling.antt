-- Settling by actions of which a fact tells what they mean: how many they are, what they cost and where they lead.
use Rattle.std.specs.Prelude.{◌≡◌, Bool, List, ℕ, get_or}
use Rattle.leaf.specs.Price.{mark}
use Rattle.leaf.specs.Settle.{relax, settled}
use Rattle.leaf.specs.Settle.Sweeps.{Swept}

-- a fact of how many actions there are, what each costs and what it makes of a state
abbrev pub Meaning : Type 1
Meaning = ℕ → (ℕ → ℕ) → (ℕ → ℕ → ℕ) → Type 0

-- some actions are meant
pub record Aim (meaning : Meaning) : Type 0 where
  pub count : ℕ
  pub cost : ℕ → ℕ
  pub to : ℕ → ℕ → ℕ
  pub meant : meaning count cost to

-- the actions that are meant make prices Q of P, from state x
abbrev pub Lowers : Meaning → ℕ → (P Q : List ℕ) → Type 0
Lowers meant x P Q = (m : ℕ) (cost : ℕ → ℕ) (to : ℕ → ℕ → ℕ) → meant m cost to → Q ≡ relax mark cost to x (get_or P x mark) P m

-- by the actions that are meant, the states from x to y were visited
abbrev pub SweptBy : Meaning → (n j k x y : ℕ) → (P D : List ℕ) → Bool → (Q E : List ℕ) → Type 0
SweptBy meant n j k x y P D r Q E = (m : ℕ) (cost : ℕ → ℕ) (to : ℕ → ℕ → ℕ) → meant m cost to → Swept mark n m cost to j k x y P D r Q E

-- prices Q are what P settle to by the actions that are meant
abbrev pub SettledBy : Meaning → (P Q : List ℕ) → Type 0
SettledBy meant P Q = (m : ℕ) (cost : ℕ → ℕ) (to : ℕ → ℕ → ℕ) → meant m cost to → Q ≡ settled mark m cost to P
