-- `rows::write_packs` meets its contract: four words are stored. Assumes nothing.
use Rattle.rows.specs.Four.{four_to}
use Rattle.rows.proofs.write_packs.Goals as goal

pub returns : goal.returns
unfolding four_to
returns c = rw (c.pack.ensures, c.pack-2.ensures, c.pack-3.ensures, c.pack-4.ensures)
