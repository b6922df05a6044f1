-- The example task "One pair to fetch". Variable 0, the centre's: the carriage is at the hatch (0) or the rack (1). Variable 1, of leaf 1: the
-- skis are on the rack (0), on the tray (1) or at the hatch (2). Actions: 0 drive out, 1 drive back, 2 take, 3 give.
use Rattle.std.specs.Prelude.{List, ℕ, ◌+◌, ◌*◌, set, replicate}
use Rattle.task.specs.declared.Task.{Task}
use Rattle.task.specs.Meaning.{free}

-- the entries of the two variables
abbrev two : ℕ → ℕ → List ℕ → List ℕ
two x y xs = set (set xs 0 x) 1 y

-- action a names variable v with value x
abbrev names : ℕ → ℕ → ℕ → List ℕ → List ℕ
names a v x xs = set xs (a * 32 + v) x

-- "Both start at 0; goal: skis 2."
unfoldable pub fetch : Task
fetch = record {
  variables = 2;
  leaves = 1;
  actions = 4;
  sizes = two 2 3 (replicate 32 0);
  factors = two 0 1 (replicate 32 free);
  initial = replicate 32 0;
  goal = set (replicate 32 free) 1 2;
  handling = set (set (replicate 256 0) 2 500) 3 300;
  distance = set (set (replicate 256 0) 0 400) 1 400;
  conditions = names 0 0 0 (names 1 0 1 (names 2 0 1 (names 2 1 0 (names 3 0 0 (names 3 1 1 (replicate 8192 free))))));
  effects = names 0 0 1 (names 1 0 0 (names 2 1 1 (names 3 1 2 (replicate 8192 free))));
}
