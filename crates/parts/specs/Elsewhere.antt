-- What a slice that is lent to be read into holds afterwards, whatever the answer is.
pub mod Laws
use Rattle.std.specs.Prelude.{◌≡◌, List, ℕ, ◌+◌, ◌≤◌, ◌<◌, length, get_or}

-- whatever was read into a lent slice, refused or not: outside the n entries from entry base on it is as it was, and it is as long
pub record Elsewhere (base n : ℕ) (old new : List ℕ) : Type 0 where
  pub long : length new ≡ length old
  pub below : (k : ℕ) → k < base → get_or new k 0 ≡ get_or old k 0
  pub behind : (k : ℕ) → base + n ≤ k → get_or new k 0 ≡ get_or old k 0
