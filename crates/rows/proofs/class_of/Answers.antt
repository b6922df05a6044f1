-- `rows::class_of` meets its contract: the four packs make the class. Assumes nothing.
use Rattle.rows.specs.Sign.{mix_of, class_of}
use Rattle.rows.proofs.class_of.Goals as goal

pub returns : goal.returns
unfolding class_of mix_of
returns c = rw (c.pack.ensures, c.pack-2.ensures, c.pack-3.ensures, c.pack-4.ensures)
