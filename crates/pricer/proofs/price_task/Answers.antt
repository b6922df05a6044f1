-- `pricer::price_task` meets its contract: 12, then 21, then what the walk says. Assumes nothing.
use Rattle.std.proofs.Common.{◌≡◌, true, sym, ◌∙◌, arith, get_or}
use Rattle.task.specs.Factors.{all_states}
use Rattle.tables.specs.Fit.{row_of}
use Rattle.pricer.specs.Pricer.{path_fits}
use Rattle.pricer.specs.Pricer.Laws.{fits_is, fits_centred, task_wrong, task_short, task_end}
use Rattle.pricer.proofs.price_task.Goals as goal
use Rattle.pricer.proofs.price_task.Goals.{After-path_fits-fits}

-- what the test of the path says
fitting : (c : After-path_fits-fits) → let a = c.args in path_fits a.task.now a.path.now ≡ c.path_fits-fits.result
fitting c =
    let a = c.args in
    sym (c.path_fits-fits.ensures ∙ fits_is a.task.now a.path.now c.action_kinds-kinds.result c.action_kinds-kinds.ensures)

-- S by the tables
row : (c : After-path_fits-fits) → let a = c.args in
    get_or c.leaf_bases-bases.result a.task.now.leaves 0 ≡ all_states a.task.now
row c =
    let a = c.args in
    row_of a.task.now c.leaf_bases-bases.result c.leaf_bases-bases.ensures

pub returns-then-not-fits : goal.returns-then-not-fits
returns-then-not-fits c =
    let a = c.args in
    task_wrong a.task.now a.path.now a.out.now (fitting (goal.at.returns-then-not-fits c).After-path_fits-fits ∙ c.if-not-fits.true)

pub returns-then-out-states : goal.returns-then-out-states
returns-then-out-states c =
    let a = c.args in
    let fits : c.path_fits-fits.result ≡ true = cc in
    task_short a.task.now a.path.now a.out.now (fitting (goal.at.returns-then-out-states c).After-path_fits-fits ∙ fits) (omega (arith, row (goal.at.returns-then-out-states c).After-path_fits-fits))

pub price_path-requires : goal.price_path-requires
price_path-requires c =
    let fits : c.path_fits-fits.result ≡ true = cc in
    let f = fitting (goal.at.price_path-requires c).After-path_fits-fits ∙ fits in record { valid = c.requires; kinds = (c.action_kinds-kinds.ensures, c.leaf_bases-bases.ensures); by_index = (λ k l. (fits_centred c.args.task.now c.args.path.now f k l).0, omega (arith, row (goal.at.price_path-requires c).After-path_fits-fits)) }

pub returns : goal.returns
returns c =
    let a = c.args in
    let fits : c.path_fits-fits.result ≡ true = cc in
    task_end a.task.now a.path.now a.out.now (fitting (goal.at.returns c).After-path_fits-fits ∙ fits)
    (omega (arith, row (goal.at.returns c).After-path_fits-fits)) c.price_path.ensures
