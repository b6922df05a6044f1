-- `stills::is_still` meets its contract: no entry of the action's row is 0. Assumes nothing.
use Rattle.std.proofs.Common.{cond, not, ap, ◌+◌, ◌∙◌, ◌*◌, arith, eqb, get_or, ℕ}
use Rattle.loops.specs.Count.{all}
use Rattle.loops.specs.Count.Chains.{none_of, part_length, part_at, byte_of}
use Rattle.stills.specs.Still.{still_by}
use Rattle.stills.proofs.is_still.Goals as goal

pub returns : goal.returns
unfolding still_by
returns c =
    let a = c.args in
    let long = part_length a.stills.now (a.a * 8) a.leaves c.requires in
    c.from.ensures ∙ byte_of _ ∙ ap (λ t. cond {A = ℕ} t 1 0)
    (ap not c.contains.ensures.value
    ∙ none_of _ _ _ 0 (λ k l. ap (λ x. not (eqb x 0)) (part_at a.stills.now (a.a * 8) a.leaves k 0 (omega (arith, l, long))))
    ∙ ap (λ n. all n (λ i. not (eqb (get_or a.stills.now (a.a * 8 + i) 0) 0))) long)
