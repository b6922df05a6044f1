use Rattle.std.proofs.Common.{◌≡◌, refl, sym, subst, ◌∙◌, ℕ, ◌+◌, ◌*◌, ◌≤◌, ◌<◌, suc-mul, arith, get_or, rules}
use Rattle.task.specs.Factors.{all_states}
use Rattle.layer.specs.Board.{row_on}
use Rattle.layer.specs.Board.Laws.{row_on_lem}
use Rattle.layer.specs.Held.{board_in}
use Rattle.search.specs.Plan.Stages.{Priced}
use Rattle.wayback.specs.Held.{kept_twice}
use Rattle.plans.specs.Walk.{held_in}
use Rattle.plans.specs.Fit.{grounds_in, standing_in}
use Rattle.plans.specs.Steps.{layer_few, walks, lands, along_none, along_more, along_few, along_end}
use Rattle.plans.proofs.walk_back.Goals as goal
use Rattle.plans.proofs.walk_back.Goals.{After-parent_of-u}

-- over a node's action the walk comes nearer to node 0, and has room for what is left
nearer : (c : After-parent_of-u) → let wide = row_on (board_in c.args.tables.now.board) + 1 in
    (c.parent_of-u.result < c.loop-u.u) × (c.node_back.new.out.place + c.parent_of-u.result * wide ≤ c.loop-u.out.place + c.loop-u.u * wide)
nearer c =
    let a = c.args in
    let h = a.tables.now in
    let l = c.loop-u in
    let walked = rw (l.invariant.kept.total, c.new-out.ensures.total) at c.node_back.ensures.walked in
    along_few h.task.now (board_in h.board) h.starts.now a.table.now a.count (grounds_in h a.table.now a.count c.requires.valid c.requires.real.0) a.node a.ends a.total _
    l.u l.states l.out.place l.out.plan.now l.invariant.below l.invariant.along _ _ _ c.loop-u-test.true _ (rw c.states.ensures.is at c.parent_of-u.ensures) walked

pub loop-u-init : goal.loop-u-init
loop-u-init c =
    let a = c.args in
    let h = a.tables.now in
    let priced = subst (λ (S : ℕ). Priced h.task.now (held_in S a.table.now a.count) a.node (λ i. get_or a.ends i 0))
    (sym (row_on_lem h.task.now (board_in h.board) h.fits)) c.requires.real.1 in record {
      below = c.requires.node.0;
      states_long = search rules;
      tight_long = refl;
      kept = record { same = refl; total = refl; long = refl };
      room = omega (arith, c.new-out.ensures.place);
      along = rw c.new-out.ensures.place (along_none h.task.now _ _ _ _ _ priced);
    }

pub node_back-requires-clause-standing : goal.node_back-requires-clause-standing
node_back-requires-clause-standing c =
    let a = c.args in
    let h = a.tables.now in
    (standing_in h a.table.now a.count c.requires.valid c.requires.real.0 c.requires.node.2 c.loop-u.u c.loop-u.invariant.below, c.loop-u-test.true, omega (arith, c.loop-u.invariant.states_long, h.board.sound.few_leaves))

pub node_back-requires-clause-walkable : goal.node_back-requires-clause-walkable
node_back-requires-clause-walkable c =
    let a = c.args in
    let h = a.tables.now in
    let l = c.loop-u in
    walks h.task.now (board_in h.board) h.starts.now a.table.now a.count (grounds_in h a.table.now a.count c.requires.valid c.requires.real.0) l.u (λ i. get_or l.states i 0)
    l.invariant.below l.invariant.along.priced

pub node_back-requires-clause-inside : goal.node_back-requires-clause-inside
node_back-requires-clause-inside c =
    let a = c.args in
    let h = a.tables.now in
    let l = c.loop-u in
    lands h.task.now (board_in h.board) h.starts.now a.table.now a.count (grounds_in h a.table.now a.count c.requires.valid c.requires.real.0) l.u (λ i. get_or l.states i 0)
    l.invariant.below l.invariant.along.priced

pub parent_of-u-requires : goal.parent_of-u-requires
parent_of-u-requires c =
    let a = c.args in
    rw c.states.ensures.is
    (standing_in a.tables.now a.table.now a.count c.requires.valid c.requires.real.0 c.requires.node.2 c.loop-u.u c.loop-u.invariant.below).here

pub loop-u-smaller : goal.loop-u-smaller
loop-u-smaller c = (nearer (goal.at.loop-u-smaller c).After-parent_of-u).0

pub loop-u-preserved : goal.loop-u-preserved
loop-u-preserved c =
    let a = c.args in
    let h = a.tables.now in
    let l = c.loop-u in
    let near = nearer (goal.at.loop-u-preserved c).After-parent_of-u in
    let walked = rw (l.invariant.kept.total, c.new-out.ensures.total) at c.node_back.ensures.walked in record {
      below = omega (arith, near, l.invariant.below);
      states_long = c.node_back.auto.ends ∙ l.invariant.states_long;
      tight_long = c.node_back.auto.tight ∙ l.invariant.tight_long;
      kept = kept_twice l.invariant.kept c.node_back.ensures.kept;
      room = omega (arith, near, l.invariant.room);
      along =
          along_more h.task.now (board_in h.board) h.starts.now a.table.now a.count (grounds_in h a.table.now a.count c.requires.valid c.requires.real.0) a.node a.ends a.total _
          l.u l.states l.out.place l.out.plan.now l.invariant.below l.invariant.along _ _ _ c.loop-u-test.true _ (rw c.states.ensures.is at c.parent_of-u.ensures) walked;
    }

pub layer_back-requires-clause-standing : goal.layer_back-requires-clause-standing
layer_back-requires-clause-standing c =
    let a = c.args in
    let h = a.tables.now in
    (standing_in h a.table.now a.count c.requires.valid c.requires.real.0 c.requires.node.2 c.loop-u.u c.loop-u.invariant.below, omega (arith, c.loop-u.invariant.states_long, h.board.sound.few_leaves))

pub layer_back-requires-clause-walkable : goal.layer_back-requires-clause-walkable
layer_back-requires-clause-walkable c =
    let a = c.args in
    let h = a.tables.now in
    let l = c.loop-u in
    walks h.task.now (board_in h.board) h.starts.now a.table.now a.count (grounds_in h a.table.now a.count c.requires.valid c.requires.real.0) l.u (λ i. get_or l.states i 0)
    l.invariant.below l.invariant.along.priced

pub returns-clause-walked : goal.returns-clause-walked
returns-clause-walked c =
    let a = c.args in
    let h = a.tables.now in
    let l = c.loop-u in
    let b = board_in h.board in
    let grounds = grounds_in h a.table.now a.count c.requires.valid c.requires.real.0 in
    let row : row_on b ≡ all_states h.task.now = row_on_lem h.task.now b h.fits in
    let walked = rw (l.invariant.kept.total, c.new-out.ensures.total) at c.layer_back.ensures.walked in
    let end = along_end h.task.now b h.starts.now a.table.now a.count grounds a.node a.ends a.total _
    l.u l.states l.out.place l.out.plan.now l.invariant.below l.invariant.along _ _ _ (omega arith) walked in
    let few = layer_few b h.board.sound h.starts.now a.table.now l.u (λ i. get_or l.states i 0)
    (walks h.task.now b h.starts.now a.table.now a.count grounds l.u (λ i. get_or l.states i 0) l.invariant.below l.invariant.along.priced) in
    let one : (a.node + 1) * (row_on b + 1) ≡ a.node * (row_on b + 1) + (row_on b + 1) = omega (arith, suc-mul a.node (row_on b + 1)) in
    let ended : c.layer_back.new.out.place ≤ (a.node + 1) * (row_on b + 1) = omega (arith, c.layer_back.ensures.walked.place, few, l.invariant.room, one) in
    let plan = rw (row, c.new-out.ensures.plan) at end.1 in
    let same = c.layer_back.ensures.kept.same ∙ l.invariant.kept.same ∙ c.new-out.ensures.same in
    (rw row at end.0, search (rules, plan, same), rw row at ended)
