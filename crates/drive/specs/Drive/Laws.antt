-- Laws of the drive times: the named time meets the rule, and is at most 737 for a record's distances. Assumes nothing.
use Rattle.std.specs.Prelude.{◌≡◌, refl, Bool, true, false, ℕ, zero, suc, ◌+◌, ◌*◌, ◌/◌, ◌≤◌, ◌<◌, leb}
use Rattle.std.proofs.Common.{mul-le-mul, add-zero, add-suc, suc-add, not-suc-le-zero, arith, leb-true, leb-false, ne_eqb}
use Rattle.std.proofs.Math.Decide.{ℕ_discrete}
use Rattle.drive.specs.Drive.{LeastRoot, TravelRule, root_from, travel_time, pause, DriveRule, drive_time}

-- ---- travel

-- t is at most each u whose square reaches n, if no number below t has such a square
root_least : (n t : ℕ) → ((u : ℕ) → u < t → u * u < n) → (u : ℕ) → n ≤ u * u → t ≤ u
root_least n t below u h = go (leb t u) refl
  where
    go : (b : Bool) → leb t u ≡ b → t ≤ u
    go true e = leb-true t u e
    go false e = omega (arith, below u (leb-false t u e))

-- the numbers up to t have squares below n, if t has
below_next : (n t : ℕ) → t * t < n → (u : ℕ) → u < suc t → u * u < n
below_next n t h u l =
    let q : u * u ≤ t * t = mul-le-mul (omega arith) (omega arith) in
    omega arith

-- the search finds the least root, if no number below its start has a square that reaches n, and its end has one
pub root_found : (tried t n : ℕ) → ((u : ℕ) → u < t → u * u < n) → n ≤ (t + tried) * (t + tried) → LeastRoot n (root_from tried t n)
unfolding root_from
root_found zero t n below h = record { enough = rw add-zero at h; least = root_least n t below }
root_found (suc tried) t n below h =
    go (leb n (t * t)) refl (λ b. root_found tried (suc t) n b (rw (suc-add, ← add-suc) h))
  where
    go :
        (b : Bool) →
        leb n (t * t) ≡ b →
        (((u : ℕ) → u < suc t → u * u < n) → LeastRoot n (root_from tried (suc t) n)) →
        LeastRoot n (elim b [ true ↦ t | false ↦ root_from tried (suc t) n ])
    go true e later = record { enough = leb-true n (t * t) e; least = root_least n t below }
    go false e later = later (below_next n t (leb-false n (t * t) e))

-- the named travel meets the rule
pub travel_rule : (d : ℕ) → TravelRule d (travel_time d)
unfolding travel_time
travel_rule d = go (leb d 400) refl
  where
    go : (b : Bool) → leb d 400 ≡ b → TravelRule d (elim b [ true ↦ root_from 400 0 (400 * d) | false ↦ 200 + (d + 1) / 2 ])
    go true e =
        record {
          root = λ h. root_found 400 0 (400 * d) (λ u l. absurd (not-suc-le-zero l)) (omega arith);
          line = λ h. absurd (omega (arith, leb-true d 400 e));
        }
    go false e = record { root = λ h. absurd (omega (arith, leb-false d 400 e)); line = λ h. refl }

-- the travel of a record's distances takes at most 712
pub travel_bound : (d : ℕ) → d ≤ 1023 → travel_time d ≤ 712
travel_bound d h = go (leb d 400) refl
  where
    go : (b : Bool) → leb d 400 ≡ b → travel_time d ≤ 712
    go true e =
        let s : d ≤ 400 = leb-true d 400 e in
        let r : travel_time d ≤ 400 = ((travel_rule d).root s).least 400 (omega arith) in
        omega arith
    go false e =
        let s : 400 < d = leb-false d 400 e in
        omega (arith, (travel_rule d).line s)

-- ---- drives

-- no drive takes no time
pub drive_none : drive_time 0 ≡ 0
unfolding drive_time
drive_none = refl

-- any other takes its travel and the pause
pub drive_some : (d : ℕ) → 1 ≤ d → drive_time d ≡ travel_time d + pause
unfolding drive_time
drive_some d l = rw (ne_eqb d 0 (λ e. omega arith)) refl

-- the named time meets the rule
pub drive_rule : (d : ℕ) → DriveRule d (drive_time d)
drive_rule d = record { none = λ e. rw e drive_none; some = λ l. (travel_time d, (travel_rule d, drive_some d l)) }

-- a record's distances take at most 737
pub drive_bound : (d : ℕ) → d ≤ 1023 → drive_time d ≤ 737
drive_bound d h = go (ℕ_discrete d 0)
  where
    go : Dec (d ≡ 0) → drive_time d ≤ 737
    go (yes e) = rw (e, drive_none) (omega arith)
    go (no n) = omega (arith, drive_some d (omega arith), travel_bound d h)
