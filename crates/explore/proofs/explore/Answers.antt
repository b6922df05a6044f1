-- `explore::explore` meets its contract: the tables that an offer reads are right. Assumes nothing.
use Rattle.std.proofs.Common.{arith}
use Rattle.explore.proofs.explore.Goals as goal

pub invariant_of-offers : goal.invariant_of-offers
invariant_of-offers c =
    record {
      edged = c.requires.edges;
      asked = c.first_conditions-firsts.ensures;
      goals_fit = omega (arith, c.requires.goals.long, c.args.tables.now.board.sound.few_all);
    }
