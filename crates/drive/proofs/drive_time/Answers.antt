-- `drive::drive_time` meets its contract. One test, computed over the whole table, gives each entry; beyond the table the line goes on.
-- Assumes nothing.
use Rattle.std.proofs.Common.{◌≡◌, refl, Bool, true, List, ℕ, ◌<◌, arith, T, eqb, eqb→eq, length, get_or}
use Rattle.loops.specs.Table.{every, every_at}
use Rattle.drive.specs.Drive.{DriveRule, root_from, travel_time, drive_time}
use Rattle.drive.specs.Drive.Laws.{travel_rule, drive_some, drive_rule}
use Rattle.drive.proofs.drive_time.Goals as goal

-- the test of one entry: it is the time of its place
abbrev right : ℕ → ℕ → Bool
right k x = eqb x (drive_time k)

-- a table that passes the test has the time at each place
entry : (xs : List ℕ) (k : ℕ) → T (every right 0 xs) → k < length xs → get_or xs k 0 ≡ drive_time k
entry xs k t h = eqb→eq (get_or xs k 0) (drive_time k) (every_at right xs t k h)

-- what is equal to the time meets the rule
meets : (d r : ℕ) → r ≡ drive_time d → DriveRule d r
meets d r e = rw e (drive_rule d)

-- `rw` finds the table in the goal, so it is not written here again; `passed` is the test of the whole of it, which computes to `true`
pub returns-then-distance-lt1024 : goal.returns-then-distance-lt1024
unfolding drive_time travel_time root_from
returns-then-distance-lt1024 c =
    let inside : c.args.distance < 1024 = omega arith in
    let passed : T true = tt in
    rw entry record { rule = drive_rule c.args.distance; named = refl }

pub returns-else-distance-lt1024 : goal.returns-else-distance-lt1024
returns-else-distance-lt1024 c =
    let d = c.args.distance in
    let beyond : 400 < d = omega arith in
    let line = (travel_rule d).line beyond in
    let some = drive_some d (omega arith) in
    record { rule = meets d _ (omega (arith, some, line)); named = omega (arith, some, line) }
