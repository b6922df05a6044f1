-- The tables that a program holds together, as a Board.
use Rattle.layer.specs.declared.held.Board.{Board as Held}
use Rattle.layer.specs.Board.{Board}
use Rattle.layer.specs.Lent.{board_of}

-- the Board that these tables are
abbrev pub board_in : Held → Board
board_in b = board_of b.leaves b.actions b.bases.now b.moves.now b.costs.now b.kinds.now b.factors b.conditions.now
