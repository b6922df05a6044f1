-- `depot::depot_plan` meets its contract: the planner's own, in numbers and words. Assumes nothing.
use Rattle.std.proofs.Common.{ap, sym, ◌∙◌, rules}
use Rattle.solve.specs.Solve.{Outcome}
use Rattle.answers.specs.declared.Told.{Told}
use Rattle.answers.specs.Told.{plan_told}
use Rattle.planner.specs.Planner.{record_plan}
use Rattle.planner.specs.Planner.Demands.Laws.{record_meets}
use Rattle.depot.specs.Depot.{answered}
use Rattle.depot.proofs.depot_plan.Goals as goal

pub returns : goal.returns
returns c =
    let s = c.args in
    let q = c.plan.ensures.answer in
    let t = c.from-outcome.ensures in
    let number = ap (λ (x : Told). x.number) t ∙ ap (λ (o : Outcome). (plan_told o.answer).number) q in
    let bytes = ap (λ (o : Outcome). o.plan) q in
    let words = ap (λ (o : Outcome). o.words) q in
    let values = c.write_answer.ensures ∙ ap (λ (x : Told). answered x s.answer.now) (t ∙ ap (λ (o : Outcome). plan_told o.answer) q) in record {
      number = number;
      bytes = bytes;
      words = words;
      values = values;
      demands = record {
        told = plan_told (record_plan s.«record».now s.nodes s.budget s.plan.now s.table.now).answer;
        number_is = sym number;
        values = values;
        meets = rw (bytes, words) (record_meets s.«record».now s.nodes s.budget s.plan.now s.table.now);
      };
    }
