-- `nodes::all_lack` meets its contract: four signatures are tested. Assumes nothing.
use Rattle.std.proofs.Common.{◌≡◌, ◌+◌, ◌*◌, arith}
use Rattle.nodes.specs.Chain.{all_lack}
use Rattle.nodes.proofs.all_lack.Goals as goal

pub returns : goal.returns
unfolding all_lack
returns c =
    let g = c.args.group in
    let e : 7456 + 4 * g + 0 ≡ 7456 + 4 * g = omega arith in
    rw (
      c.lacks-first.ensures,
      c.lacks-second.ensures,
      c.lacks-third.ensures,
      c.lacks-fourth.ensures,
      e,
    )
