-- What the definitions make of the example task "One pair to fetch": one computed table. Assumes nothing.
use mathlib.Core.Path.{◌≡◌, refl}
use mathlib.Core.Bool.{Bool, true, false}
use mathlib.Core.List.{List, [], ◌∷◌}
use Prim.Native.Nat.{ℕ}
use Rattle.loops.specs.Count.{all, any, sum}
use Rattle.drive.specs.Drive.{root_from, travel_time, drive_time}
use Rattle.task.specs.Meaning.{initial, cost, holds, applies, runs, final, reaches, cost_of}
use Rattle.task.specs.Factors.{touches, within, holds_in, leaf_pairs, number_to, states_to, digit_to, centre_action, leaf_action, number, states, all_states, values_of, meets_in, to}
use Rattle.task.specs.Fetch.{fetch}

-- out, take, back, give
abbrev plan : List ℕ
plan = 0 ∷ 2 ∷ 1 ∷ 3 ∷ []

-- the plan, no action and a take at once; then the centre's actions, of all four, and the leaf's, of take and give
abbrev tests : List Bool
tests =
    reaches fetch plan ∷ reaches fetch [] ∷ reaches fetch (2 ∷ []) ∷
    centre_action fetch 0 ∷ centre_action fetch 1 ∷ centre_action fetch 2 ∷ centre_action fetch 3 ∷
    leaf_action fetch 2 1 ∷ leaf_action fetch 3 1 ∷ []

-- the plan's cost, the states of the leaf and of all leaves, and the leaf's first; then what actions make of leaf states:
-- take of the skis on the rack and on the tray, give of those on the tray, and a drive, which leaves them at the hatch
abbrev figures : List ℕ
figures =
    cost_of fetch plan ∷ states fetch 1 ∷ all_states fetch ∷ number fetch 1 (initial fetch) ∷
    to fetch 1 2 0 ∷ to fetch 1 2 1 ∷ to fetch 1 3 1 ∷ to fetch 1 0 2 ∷ []

pub fetch_computed : ◌≡◌ {A = List Bool × List ℕ} (tests, figures)
    (true ∷ false ∷ false ∷ true ∷ true ∷ false ∷ false ∷ true ∷ true ∷ [], 1650 ∷ 3 ∷ 3 ∷ 0 ∷ 2 ∷ 0 ∷ 3 ∷ 3 ∷ [])
unfolding fetch all any sum root_from travel_time drive_time cost holds applies runs final reaches cost_of touches within holds_in leaf_pairs number_to states_to digit_to centre_action leaf_action number states all_states values_of meets_in to
fetch_computed = refl
