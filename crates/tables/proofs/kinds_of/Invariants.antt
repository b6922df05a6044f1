-- `tables::kinds_of` meets its contract. The invariant: the first a entries are the kinds of the actions. Assumes nothing.
use Rattle.std.proofs.Common.{ℕ, ◌*◌}
use Rattle.digits.specs.declared.pairs.Pairs.{Pairs}
use Rattle.digits.specs.Digits.{entries, entries_from, Each}
use Rattle.tables.specs.Tables.{KindIs}
use Rattle.tables.proofs.kinds_of.Given as goal

-- entry x is the kind of action k
abbrev pub kind : Pairs → ℕ → ℕ → ℕ → Type 0
kind p leaves k x = KindIs p.variables (entries p.factors.now) leaves (entries_from (k * 32) p.conditions.now) (entries_from (k * 32) p.effects.now) x

abbrev pub invariant-loop-a : goal.invariant-loop-a
invariant-loop-a l = Each l.a (kind l.pairs l.leaves) l.kind-items
