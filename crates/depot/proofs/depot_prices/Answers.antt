-- `depot::depot_prices` meets its contract: the pricer's own, in numbers. Assumes nothing.
use Rattle.std.proofs.Common.{ap, ◌∙◌, rules}
use Rattle.answers.specs.declared.PricesTold.{PricesTold}
use Rattle.answers.specs.Told.{price_told}
use Rattle.pricer.specs.Pricer.{Outcome}
use Rattle.pricer.specs.Pricer.Laws.{record_meets}
use Rattle.depot.proofs.depot_prices.Goals as goal

pub returns : goal.returns
returns c =
    let s = c.args in
    let q = c.prices.ensures.answer in
    let number = ap (λ (x : PricesTold). x.number) c.from-told.ensures ∙ ap (λ (o : Outcome). (price_told o.answer).number) q in
    let words = ap (λ (o : Outcome). o.words) q in
    record { number = number; words = words; demands = rw (number, words) (record_meets s.«record».now s.path.now s.prices.now) }
