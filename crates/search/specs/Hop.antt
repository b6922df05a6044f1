-- Hops: centre actions that move one centre variable and leave all leaves alone, such as the drives of a carriage. A hop behind a hop is a detour where
-- it goes back, or where one hop goes all the way at no higher cost. Nobody but the code and its proof looks at these.
pub mod Laws
use Rattle.std.specs.Prelude.{◌≡◌, ◌⊎◌, true, ℕ, suc, ◌+◌, ◌≤◌, ◌<◌}
use Rattle.task.specs.declared.Task.{Task}
use Rattle.task.specs.Meaning.{free, factor, condition, effect, cost}
use Rattle.task.specs.Factors.{centre_action, states, to}

-- centre action a has the one condition that centre variable v is x, and the one effect that v becomes z; each state of each leaf stays as it is
pub record Hop (t : Task) (a v x z : ℕ) : Type 0 where
  pub known : a < t.actions
  pub central : centre_action t a ≡ true
  pub stays : (i y : ℕ) → i < t.leaves → y < states t (suc i) → to t (suc i) a y ≡ suc y
  pub within : v < 32
  pub own : factor t v ≡ 0
  pub from : condition t a v ≡ x
  pub from_named : x ≡ free → ⊥
  pub into : effect t a v ≡ z
  pub into_named : z ≡ free → ⊥
  pub conditions_free : (w : ℕ) → w < 32 → (w ≡ v → ⊥) → condition t a w ≡ free
  pub effects_free : (w : ℕ) → w < 32 → (w ≡ v → ⊥) → effect t a w ≡ free

-- hop b behind hop a is a detour
pub record Detour (t : Task) (a b : ℕ) : Type 0 where
  pub v : ℕ
  pub x : ℕ
  pub y : ℕ
  pub w : ℕ
  pub z : ℕ
  pub first : Hop t a v x y
  pub second : Hop t b v w z
  pub way : (z ≡ x) ⊎ ((d : ℕ) × (Hop t d v x z × (cost t d ≤ cost t a + cost t b)))
