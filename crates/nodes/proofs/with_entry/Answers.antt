-- `nodes::with_entry` meets its contract. Assumes nothing.
use Rattle.std.proofs.Common.{arith}
use Rattle.nodes.specs.Chain.{with_entry}
use Rattle.nodes.specs.Chain.Groups.{unit_is, entry_fits}
use Rattle.nodes.proofs.with_entry.Goals as goal

pub nonzero_rem-result : goal.nonzero_rem-result
nonzero_rem-result c =
    let a = c.args in
    omega (arith, unit_is a.k c.requires.0, (entry_fits a.nodes a.k a.node c.requires.0 c.requires.1).0)

pub overflow_mul-result : goal.overflow_mul-result
overflow_mul-result c =
    let a = c.args in
    rw (unit_is a.k c.requires.0) (omega (arith, (entry_fits a.nodes a.k a.node c.requires.0 c.requires.1).1))

pub overflow_add-result : goal.overflow_add-result
overflow_add-result c =
    let a = c.args in
    rw (unit_is a.k c.requires.0) (omega (arith, (entry_fits a.nodes a.k a.node c.requires.0 c.requires.1).1))

pub returns : goal.returns
unfolding with_entry
returns c = rw (unit_is c.args.k c.requires.0)
