-- `wayback::tight_back` meets its contract. The depths that are made have what the walk needs, and the walk goes by them. Assumes nothing.
use Rattle.std.proofs.Common.{◌≡◌, arith}
use Rattle.wayback.specs.Steps.{depths_by}
use Rattle.wayback.specs.Woven.Laws.{woven_ways, woven_meant, woven_leading}
use Rattle.wayback.specs.Ready.{backed_length, backed_few, backed_guided, backed_way}
use Rattle.wayback.specs.Held.{BackedIn}
use Rattle.wayback.proofs.tight_back.Goals as goal
use Rattle.wayback.proofs.tight_back.Goals.{After-depths_of}

-- what is lent
abbrev Lent : After-depths_of → Type 0
Lent c = BackedIn c.args.ways.now c.args.acts.now c.args.begins.now c.args.prices.now c.args.state

-- the depths are those of the edges that are meant
made : (c : After-depths_of) (w : Lent c) → c.depths_of.new.depths ≡ depths_by w.woven.edges w.woven.count c.args.begins.now c.args.prices.now
made c w = c.depths_of.ensures w.woven.count w.woven.edges (woven_meant _ _ _ _ _ _ _ _ w.woven)

pub depths_of-requires : goal.depths_of-requires
depths_of-requires c =
    let w = c.requires.0 in record {
      begins_len = (w.same, c.requires.1, w.woven.few_states, c.requires.2);
      ways = (woven_ways _ _ _ _ _ _ _ _ w.woven, record { count = _; cost = _; to = _; meant = woven_meant _ _ _ _ _ _ _ _ w.woven });
    }

pub sources_of-sources-requires : goal.sources_of-sources-requires
sources_of-sources-requires c =
    let w = c.requires.0 in
    let long = backed_length _ _ _ _ _ _ _ _ _ _ w _ (made (goal.at.sources_of-sources-requires c).After-depths_of w) in
    rw long (
      w.woven.few_states,
      w.woven.stops_long,
      λ x h.
          let r = w.woven.stops_in x h in (r.0, r.1, woven_leading _ _ _ _ _ _ _ _ w.woven x h),
    )

pub walk-requires : goal.walk-requires
walk-requires c =
    let w = c.requires.0 in
    let made = made (goal.at.walk-requires c).After-depths_of w in
    let long = backed_length _ _ _ _ _ _ _ _ _ _ w _ made in (
      rw long w.inside,
      backed_guided _ _ _ _ _ _ _ _ _ _ w _ made _ c.sources_of-sources.ensures.1,
      rw long (omega (arith, w.woven.few_states, c.sources_of-sources.ensures.0)),
      backed_few _ _ _ _ _ _ _ _ _ _ w _ made,
      c.requires.3,
    )

pub returns-clause-walked : goal.returns-clause-walked
returns-clause-walked c w =
    let made = made (goal.at.returns-clause-walked c).After-depths_of w in
    rw (backed_way _ _ _ _ _ _ _ _ _ _ w _ made) at (c.walk.ensures.walked (backed_guided _ _ _ _ _ _ _ _ _ _ w _ made _ c.sources_of-sources.ensures.1))
