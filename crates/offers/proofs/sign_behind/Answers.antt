-- `offers::sign_behind` meets its contract. Assumes nothing.
use Rattle.offers.proofs.sign_behind.Goals as goal

pub returns : goal.returns
returns c = c.requires c.if-swept.false
