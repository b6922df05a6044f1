-- The tasks that the records of the cases mean, written down part by part: variables, goal, actions. "One pair to fetch" itself stands in crate task.
use Rattle.std.specs.Prelude.{List, [], ◌∷◌, ◌++◌, map, ℕ, ◌-◌, length, set, replicate}
use Rattle.task.specs.declared.Task.{Task}
use Rattle.task.specs.Meaning.{free}

-- ---- tasks by their parts

-- a variable: its size, its factor and its initial value
abbrev pub Variable : Type 0
Variable = ℕ × ℕ × ℕ

-- pairs of a variable and a value
abbrev pub Pairs : Type 0
Pairs = List (ℕ × ℕ)

pub record Action : Type 0 where
  pub handling : ℕ
  pub distance : ℕ
  pub conditions : Pairs
  pub effects : Pairs

-- the entries, and x behind them up to n
abbrev filled : ℕ → ℕ → List ℕ → List ℕ
filled n x xs = xs ++ replicate (n - length xs) x

-- what the pairs say of each variable: its value, or that it is not named
abbrev row : Pairs → List ℕ
row [] = replicate 32 free
row (p ∷ ps) = set (row ps) p.0 p.1

-- one row behind the other
abbrev rows : List Pairs → List ℕ
rows [] = []
rows (ps ∷ more) = row ps ++ rows more

-- the task with so many leaves, these variables, this goal and these actions
abbrev pub written : ℕ → List Variable → Pairs → List Action → Task
written leaves vs goal acts = record {
  variables = length vs;
  leaves = leaves;
  actions = length acts;
  sizes = filled 32 0 (map (λ v. v.0) vs);
  factors = filled 32 free (map (λ v. v.1) vs);
  initial = filled 32 0 (map (λ v. v.2) vs);
  goal = row goal;
  handling = filled 256 0 (map (λ a. a.handling) acts);
  distance = filled 256 0 (map (λ a. a.distance) acts);
  conditions = filled 8192 free (rows (map (λ a. a.conditions) acts));
  effects = filled 8192 free (rows (map (λ a. a.effects) acts));
}

-- ---- the variants of "One pair to fetch"

-- the carriage, of the centre, and the skis, of leaf 1
abbrev carriage_skis : List Variable
carriage_skis = (2, 0, 0) ∷ (3, 1, 0) ∷ []

abbrev drive_out : Action
drive_out = record { handling = 0; distance = 400; conditions = (0, 0) ∷ []; effects = (0, 1) ∷ [] }

abbrev drive_back : Action
drive_back = record { handling = 0; distance = 400; conditions = (0, 1) ∷ []; effects = (0, 0) ∷ [] }

abbrev take_skis : Action
take_skis = record { handling = 500; distance = 0; conditions = (0, 1) ∷ (1, 0) ∷ []; effects = (1, 1) ∷ [] }

abbrev give_skis : Action
give_skis = record { handling = 300; distance = 0; conditions = (0, 0) ∷ (1, 1) ∷ []; effects = (1, 2) ∷ [] }

-- "this task without take"
abbrev pub fetch_without_take : Task
fetch_without_take = written 1 carriage_skis ((1, 2) ∷ []) (drive_out ∷ drive_back ∷ give_skis ∷ [])

-- "empty goal"
abbrev pub fetch_empty_goal : Task
fetch_empty_goal = written 1 carriage_skis [] (drive_out ∷ drive_back ∷ take_skis ∷ give_skis ∷ [])

-- ---- two leaves

-- Waxed skis behind a shut door. The carriage, variable 0, is at the hatch (0) or the rack (1). The skis are dry (0) or waxed (1), variable 1, and at
-- the hatch (0), on the rack (1) or on the tray (2), variable 3: leaf 1. The door, variable 2, is shut (0) or open (1): leaf 2.
abbrev pub waxed : Task
waxed =
    written 2 ((2, 0, 0) ∷ (2, 1, 0) ∷ (2, 2, 0) ∷ (3, 1, 1) ∷ []) ((1, 1) ∷ (2, 0) ∷ (3, 0) ∷ [])
    -- 0 drives out; 1 brings the skis on the tray, and opens the door
    (record { handling = 0; distance = 250; conditions = (0, 0) ∷ []; effects = (0, 1) ∷ [] } ∷
    record { handling = 0; distance = 250; conditions = (0, 1) ∷ (3, 2) ∷ []; effects = (0, 0) ∷ (2, 1) ∷ [] } ∷
    -- 2 shuts the door; 3 gives the skis, 4 waxes them, at the hatch; 5 takes them, at the rack
    record { handling = 30; distance = 0; conditions = (2, 1) ∷ []; effects = (2, 0) ∷ [] } ∷
    record { handling = 300; distance = 0; conditions = (0, 0) ∷ (3, 2) ∷ []; effects = (3, 0) ∷ [] } ∷
    record { handling = 40; distance = 0; conditions = (0, 0) ∷ (1, 0) ∷ (3, 2) ∷ []; effects = (1, 1) ∷ [] } ∷
    record { handling = 500; distance = 0; conditions = (0, 1) ∷ (3, 1) ∷ []; effects = (3, 2) ∷ [] } ∷ [])
