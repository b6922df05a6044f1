-- The actions of a list, as actions of which a fact tells what they mean.
use Rattle.std.specs.Prelude.{◌≡◌, ℕ, length}
use Rattle.std.proofs.Common.{ap, ◌∙◌, sym, arith}
use Rattle.leaf.specs.Settle.Walks.{Ranged}
use Rattle.leaf.specs.Lent.{Lent, cost_by, move_by}
use Rattle.settle.specs.declared.by_list.ListedActions.{ListedActions}

-- the actions of the list can be followed on a leaf of n states
abbrev pub LentBy : ListedActions → ℕ → Type 0
LentBy w n = Lent w.moves.now w.row w.at w.costs.now w.acts.now (length w.acts.now) n

-- m actions are those of the list
pub record ListMeant (w : ListedActions) (n m : ℕ) (cost : ℕ → ℕ) (to : ℕ → ℕ → ℕ) : Type 0 where
  pub lent : LentBy w n
  pub many : m ≡ length w.acts.now
  pub costs : cost ≡ cost_by w.costs.now w.acts.now
  pub moves : to ≡ move_by w.moves.now w.row w.at w.acts.now

-- none of them leads out of the leaf
pub list_stays : (w : ListedActions) (n m : ℕ) (cost : ℕ → ℕ) (to : ℕ → ℕ → ℕ) → ListMeant w n m cost to → Ranged n m to
list_stays w n m cost to meant a x y h l e =
    let inside = meant.lent.moves_in a x (omega (arith, meant.many)) l in
    omega (arith, inside, sym (ap (λ (f : ℕ → ℕ → ℕ). f a x) meant.moves) ∙ e)
