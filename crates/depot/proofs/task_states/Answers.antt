-- `depot::task_states` meets its contract: 20 is 0, and S is where the last leaf's states end. Assumes nothing.
use Rattle.std.proofs.Common.{◌∙◌, inl, inr, arith, rules}
use Rattle.task.specs.Factors.{all_states}
use Rattle.tables.specs.Fit.{row_of}
use Rattle.depot.specs.Depot.Laws.{nodes_none, nodes_some}
use Rattle.depot.proofs.task_states.Goals as goal

pub returns-then-nodes-eq0 : goal.returns-then-nodes-eq0
returns-then-nodes-eq0 c = nodes_none (λ c. c) (all_states c.args.task.now) c.args.nodes (inl c.if-nodes-eq0.true)

pub returns-then-nodes-gt4096 : goal.returns-then-nodes-gt4096
returns-then-nodes-gt4096 c = nodes_none (λ c. c) (all_states c.args.task.now) c.args.nodes (inr (omega (arith, c.if-nodes-gt4096.true)))

pub returns : goal.returns
returns c =
    row_of c.args.task.now c.leaf_bases-bases.result c.leaf_bases-bases.ensures
    ∙ nodes_some (λ c. c) (all_states c.args.task.now) c.args.nodes (omega (arith, c.if-nodes-eq0.false)) (omega (arith, c.if-nodes-gt4096.false))
