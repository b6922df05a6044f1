-- `mets::list_flagged` meets its contract. The invariant: the actions so far whose flag is set are listed, and what stands before the list is as it was. Assumes nothing.
use Rattle.std.proofs.Common.{◌≡◌, Bool, cond, ℕ, ◌+◌, ◌≤◌, ◌<◌, get_or}
use Rattle.mets.specs.Listed.{Listed}
use Rattle.mets.proofs.list_flagged.Given as goal

abbrev pub invariant-loop-a : goal.invariant-loop-a
invariant-loop-a l =
    record {
      few : l.count ≤ l.a;
      kept : (i : ℕ) → i < 289 → get_or l.slot i 0 ≡ get_or l.initial.slot i 0;
      listed : (p : ℕ → Bool) → ((k : ℕ) → k < l.actions → get_or l.initial.slot k 0 ≡ cond (p k) 1 0) → Listed p l.a l.count (λ j. get_or l.slot (320 + j) 0);
    }
