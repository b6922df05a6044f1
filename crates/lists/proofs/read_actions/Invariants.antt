-- `lists::read_actions` meets its contract. The loop's invariant: what is left to read, from here, gives what all actions give, and behind the
-- actions the lists are as they were. Assumes nothing.
use Rattle.std.proofs.Common.{◌+◌, ◌-◌, ◌*◌, ◌≤◌, ◌≡◌, length}
use Rattle.fields.specs.Fields.{next_field}
use Rattle.parts.specs.Elsewhere.{Elsewhere}
use Rattle.parts.specs.Grammar.{actions_from}
use Rattle.lists.proofs.read_actions.Given as goal

abbrev pub invariant-loop-i : goal.invariant-loop-i
invariant-loop-i l =
    record {
      near : l.r.at ≤ l.initial.r.at + 1168 * l.i;
      same_record : l.r.bytes ≡ l.initial.r.bytes;
      handling : Elsewhere 0 l.count l.initial.into.handling l.into.handling;
      distance : Elsewhere 0 l.count l.initial.into.distance l.into.distance;
      conditions : Elsewhere 0 (l.count * 32) l.initial.into.conditions l.into.conditions;
      effects : Elsewhere 0 (l.count * 32) l.initial.into.effects l.into.effects;
      left :
          actions_from (next_field l.initial.r.bytes.now) l.sizes (length l.sizes) l.count 0 l.initial.into l.initial.r.at
          ≡ actions_from (next_field l.initial.r.bytes.now) l.sizes (length l.sizes) (l.count - l.i) l.i l.into l.r.at;
    }
