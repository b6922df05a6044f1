use Rattle.std.proofs.Common.{◌≡◌, sym, ◌∙◌, subst, List, ℕ, ◌++◌, ◌<◌, ◌≤◌, not-suc-le-zero, arith, length, get_or, take, drop, replicate, length-take, length-drop, length-append}
use lib.ListN.{length-replicate}
use Rattle.std.proofs.Math.ListN.{get_or-append}
use Rattle.layer.specs.Board.{Board}
use Rattle.layer.specs.Held.{board_in}
use Rattle.layer.specs.First.{First, Firsts, first_more, firsts_all}
use Rattle.layer.proofs.first_conditions.Goals as goal

-- the entries of all actions, with what stands behind them
front : (b : Board) (a : ℕ) (ys : List ℕ) → b.actions ≤ 255 → ((k : ℕ) → k < a → First b.factors b.conditions k (get_or ys k 0))
    → length ys ≡ length (take b.actions (replicate {A = ℕ} 256 32)) → length (take b.actions (replicate {A = ℕ} 256 32)) ≤ a
    → Firsts b (ys ++ drop b.actions (replicate 256 32))
front b a ys few each long all =
    let many : length ys ≡ b.actions = long ∙ simp (length-take, length-replicate) (omega arith) in
    firsts_all b _ (simp (length-append, length-drop, length-replicate) (omega arith))
    (λ k l. subst (First b.factors b.conditions k) (sym (get_or-append ys (drop b.actions (replicate 256 32)) 0 k (omega arith))) (each k (omega arith)))

pub loop-a-init : goal.loop-a-init
loop-a-init c = λ k l. absurd (not-suc-le-zero l)

pub loop-a-preserved : goal.loop-a-preserved
loop-a-preserved c =
    let l = c.loop-a in
    let b = c.args.board.now in
    first_more b.factors b.conditions.now l.first-items l.a _ (omega arith) l.invariant c.first_condition.ensures

pub returns : goal.returns
returns c =
    let l = c.loop-a in
    front (board_in c.args.board.now) l.a l.first-items c.args.board.now.sound.few_actions l.invariant l.auto.first-items c.loop-a-test.false
