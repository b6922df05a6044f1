-- Drive times in hundredths of a second, by distance in cm: the travel, and the pause behind it. Follows "Drive times" and the change request "The
-- carriage settles".
pub mod Laws
use Rattle.std.specs.Prelude.{◌≡◌, true, false, cond, ℕ, zero, suc, ◌+◌, ◌*◌, ◌/◌, ◌≤◌, ◌<◌, leb, eqb}

-- ---- travel

-- "the least whole t with t × t ≥ n"
pub record LeastRoot (n t : ℕ) : Type 0 where
  pub enough : n ≤ t * t
  pub least : (u : ℕ) → n ≤ u * u → t ≤ u

-- "For 0 to 400 cm the time is the least whole t with t × t ≥ 400 × distance; above 400 it is 200 plus half the distance, rounded up."
pub record TravelRule (distance t : ℕ) : Type 0 where
  pub root : distance ≤ 400 → LeastRoot (400 * distance) t
  pub line : 400 < distance → t ≡ 200 + (distance + 1) / 2

-- the first of t, t + 1, .. whose square is at least n, of so many tried
unfoldable pub root_from : ℕ → ℕ → ℕ → ℕ
root_from zero t n = t
root_from (suc tried) t n = elim (leb n (t * t)) [ true ↦ t | false ↦ root_from tried (suc t) n ]

-- the travel that the rule gives a distance
unfoldable pub travel_time : ℕ → ℕ
travel_time distance = elim (leb distance 400) [ true ↦ root_from 400 0 (400 * distance) | false ↦ 200 + (distance + 1) / 2 ]

-- ---- drives

-- "The rail maker now holds the carriage still for a quarter second after each drive before the tray may move."
abbrev pub pause : ℕ
pause = 25

-- "The drive time of every distance from 1 cm gains 25; 0 cm stays 0."
pub record DriveRule (distance t : ℕ) : Type 0 where
  pub none : distance ≡ 0 → t ≡ 0
  pub some : 1 ≤ distance → (u : ℕ) × (TravelRule distance u × (t ≡ u + pause))

-- the time that the rule gives a distance
unfoldable pub drive_time : ℕ → ℕ
drive_time distance = cond (eqb distance 0) 0 (travel_time distance + pause)
