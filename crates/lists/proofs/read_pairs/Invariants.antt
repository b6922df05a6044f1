-- `lists::read_pairs` meets its contract. The loop's invariant: what is left to read, from here, gives what the whole list gives, and outside the list's
-- entries the slice is as it was. Assumes nothing.
use Rattle.std.proofs.Common.{ℕ, ◌+◌, ◌-◌, ◌*◌, ◌≤◌, ◌≡◌, List, length}
use Rattle.loops.specs.Parsed.{turns}
use Rattle.fields.specs.Fields.{next_field}
use Rattle.fields.specs.Answers.{Reading}
use Rattle.parts.specs.Elsewhere.{Elsewhere}
use Rattle.parts.specs.Grammar.{Pairs, pair_turn}
use Rattle.lists.proofs.read_pairs.Given as goal

-- `left` pairs more, the next of them the i-th
abbrev pub rest : List ℕ → List ℕ → ℕ → ℕ → ℕ → List ℕ → ℕ → ℕ → Reading Pairs
rest rec sizes base left i pairs low k =
    turns (pair_turn (next_field rec) sizes (length sizes) base) left i (record { low = low; into = pairs }) k

abbrev pub invariant-loop : goal.invariant-loop
invariant-loop l =
    record {
      near : l.next.at ≤ l.initial.r.at + 9 * l.counter;
      same_record : l.next.bytes ≡ l.initial.r.bytes;
      elsewhere : Elsewhere l.base (length l.sizes) l.initial.pairs l.pairs;
      left :
          rest l.initial.r.bytes.now l.sizes l.base l.count 0 l.initial.pairs 0 l.initial.r.at
          ≡ rest l.initial.r.bytes.now l.sizes l.base (l.count - l.counter) l.counter l.pairs l.low l.next.at;
    }
