use Rattle.std.proofs.Common.{◌≡◌, refl, sym, ◌∙◌, List, ℕ, ◌+◌, ◌<◌, arith, get_or, set, get_or-set_same, get_or-set_other}
use Rattle.mets.specs.Listed.{listed_ext, listed_more}
use Rattle.mets.proofs.list_flagged.Goals as goal
use Rattle.mets.proofs.list_flagged.Goals.{In-loop-a}

-- a turn, which writes the action behind the list, wrote no flag
kept : (c : In-loop-a) (i : ℕ) → i < 289 → let l = c.loop-a in get_or (set l.slot (320 + l.count) l.a) i 0 ≡ get_or c.args.slot.now i 0
kept c i h =
    let l = c.loop-a in
    get_or-set_other l.slot (320 + l.count) i l.a 0 (λ e. omega arith) ∙ l.invariant.kept i h

pub loop-a-preserved : goal.loop-a-preserved
loop-a-preserved c =
    let l = c.loop-a in
    let turn = (goal.at.loop-a-preserved c).In-loop-a in
    let turned : List ℕ = set l.slot (320 + l.count) l.a in
    let same = kept turn l.a (omega arith) in
    record {
      few = omega (arith, same, c.requires.flags.1 l.a c.loop-a-test.true);
      kept = kept turn;
      listed = λ p e. listed_more p l.a l.count (λ j. get_or turned (320 + j) 0)
          (listed_ext p p l.a l.count (λ j. get_or l.slot (320 + j) 0) _ (λ a _. refl)
          (λ j h. sym (get_or-set_other l.slot (320 + l.count) (320 + j) l.a 0 (λ q. omega arith))) (l.invariant.listed p e))
          (get_or-set_same l.slot (320 + l.count) l.a 0 (omega arith)) (get_or turned l.a 0) (same ∙ e l.a c.loop-a-test.true);
    }

pub returns-clause-listed : goal.returns-clause-listed
returns-clause-listed c =
    let l = c.loop-a in
    let all : l.a ≡ c.args.actions = omega arith in
    λ p e. rw (get_or-set_same l.slot 289 l.count 0 (omega arith), ← all)
    (listed_ext p p l.a l.count _ _ (λ a _. refl) (λ j _. sym (get_or-set_other l.slot 289 (320 + j) l.count 0 (λ q. omega arith))) (l.invariant.listed p e))
