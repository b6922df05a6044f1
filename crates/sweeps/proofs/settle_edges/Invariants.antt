-- The invariant: the leaves so far stand one behind the other, settled, and behind them the prices are
-- as they were. Assumes nothing.
use Rattle.std.proofs.Common.{◌≡◌, false, List, ℕ, ◌≤◌}
use Rattle.loops.specs.Count.{any}
use Rattle.task.specs.declared.Centre.{Centre}
use Rattle.layer.specs.Board.{Board, base_on, settle_on, part_on}
use Rattle.layer.specs.Board.Turns.{Laid}
use Rattle.layer.specs.Held.{board_in}
use Rattle.sweeps.specs.Sweeps.{some_met, edges_of}
use Rattle.sweeps.proofs.settle_edges.Given as goal

-- the prices of the leaf behind k leaves, settled
abbrev pub leaf : Board → Centre → List ℕ → ℕ → List ℕ
leaf b centre new k = settle_on b k centre (part_on b k new)

abbrev pub invariant-loop-i : goal.invariant-loop-i
invariant-loop-i l =
    let b = board_in l.board in
    record {
      within : l.i ≤ b.leaves;
      laid : Laid (leaf b l.centre l.initial.new) l.i (base_on b l.i) l.initial.new l.new;
      same : l.swept ≡ false → l.new ≡ l.initial.new;
      told : l.swept ≡ any l.i (λ k. some_met l.mets (edges_of b.bases l.edges.list.now l.edges.ends.now k));
    }
