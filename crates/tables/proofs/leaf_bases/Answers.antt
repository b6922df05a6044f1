-- `tables::leaf_bases` meets its contract: the sums are those of the task, whose leaves have at most 256 states each. Assumes nothing.
use Rattle.std.proofs.Common.{◌≡◌, arith, length, rules}
use Rattle.task.specs.Factors.{states}
use Rattle.layer.specs.Layer.{base}
use Rattle.digits.specs.Digits.{start_of}
use Rattle.tables.proofs.leaf_bases.Goals as goal

pub bases_of-requires : goal.bases_of-requires
unfolding states
bases_of-requires c =
    let ok = c.requires in
    let t = c.args.task.now in
    let sizes : length t.sizes ≡ 32 = search rules in
    let factors : length t.factors ≡ 32 = search rules in
    record { variables_in_bounds = omega (arith, ok.fields.few_variables, ok.fields.few_leaves); by_index = ok.whole.few_states }

pub returns : goal.returns
unfolding start_of base states
returns c = record { long = c.bases_of.ensures.0; is = λ i l. c.bases_of.ensures.1 i (omega arith) }
