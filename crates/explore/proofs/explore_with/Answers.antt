-- `explore::explore_with` meets its contract: the tables that it makes are right. Assumes nothing.
use Rattle.std.proofs.Common.{◌≡◌, List, ℕ, rules}
use Rattle.layer.specs.Board.{Board, Sound}
use Rattle.layer.specs.First.{Firsts}
use Rattle.layer.specs.Held.{board_in}
use Rattle.stills.specs.Still.{StillOn}
use Rattle.hops.specs.Hops.{Hops, hops_by}
use Rattle.hops.specs.Hops.Laws.{hops_right, ways_right}
use Rattle.explore.proofs.explore_with.Goals as goal

-- the hops are right
hopped : (b : Board) → Sound b → (effects firsts still hops : List ℕ) → StillOn b still → Firsts b firsts
    → hops ≡ hops_by b.actions b.kinds b.conditions effects firsts still → Hops b.actions b effects hops
hopped b sound effects firsts still hops k f e = rw e (hops_right b effects firsts still k f sound.few_actions)

pub list_hops-hops-requires-clause-still : goal.list_hops-hops-requires-clause-still
list_hops-hops-requires-clause-still c = c.still_actions-still.ensures.still c.still_leaves-stills.ensures.stills

pub list_ways-ways-requires : goal.list_ways-ways-requires
list_ways-ways-requires c =
    let o = c.args.offers.now in
    let still = c.still_actions-still.ensures.still c.still_leaves-stills.ensures.stills in
    let hops = hopped (board_in o.board) o.board.sound _ _ _ c.list_hops-hops.result still o.asked c.list_hops-hops.ensures in
    (o.board.sound.few_actions, hops.long, hops.few)

pub invariant_of-search : goal.invariant_of-search
invariant_of-search c =
    let o = c.args.offers.now in
    let still = c.still_actions-still.ensures.still c.still_leaves-stills.ensures.stills in
    let hops = hopped (board_in o.board) o.board.sound _ _ _ c.list_hops-hops.result still o.asked c.list_hops-hops.ensures in
    record {
      stays = still;
      stays_by_leaf = c.still_leaves-stills.ensures.stills;
      hopped = hops;
      wayed = rw c.list_ways-ways.ensures (ways_right c.list_hops-hops.result hops.few o.board.actions);
      effects_long = search rules;
      goals_long = c.requires.suits.goals_is.long;
    }
