-- `parts::read_variables` meets its contract. The loop's invariant: what is left to read, from here, gives what all variables give, and behind the
-- variables the lists are as they were. Assumes nothing.
use Rattle.std.proofs.Common.{◌+◌, ◌-◌, ◌*◌, ◌≤◌, ◌≡◌}
use Rattle.fields.specs.Fields.{next_field}
use Rattle.parts.specs.Elsewhere.{Elsewhere}
use Rattle.parts.specs.Grammar.{variables_from}
use Rattle.parts.proofs.read_variables.Given as goal

abbrev pub invariant-loop-i : goal.invariant-loop-i
invariant-loop-i l =
    record {
      near : l.r.at ≤ l.initial.r.at + 12 * l.i;
      same_record : l.r.bytes ≡ l.initial.r.bytes;
      sizes : Elsewhere 0 l.n l.initial.into.sizes l.into.sizes;
      factors : Elsewhere 0 l.n l.initial.into.factors l.into.factors;
      initial : Elsewhere 0 l.n l.initial.into.initial l.into.initial;
      left :
          variables_from (next_field l.initial.r.bytes.now) l.leaves l.n 0 l.initial.into l.initial.r.at
          ≡ variables_from (next_field l.initial.r.bytes.now) l.leaves (l.n - l.i) l.i l.into l.r.at;
    }
