-- The walk back along listed tight edges: what it may rest on, and where nothing is walked. Assumes nothing.
use Rattle.std.specs.Prelude.{◌≡◌, cond, ◌&&◌, List, ltb, eqb, length}
use Rattle.std.proofs.Math.Path.{refl}
use Rattle.std.proofs.Common.{◌∙◌, arith}
use Prim.Native.Nat.{ℕ, zero, suc, ◌≤◌}
use Rattle.std.proofs.Math.ListN.{get_or}
use Rattle.leaf.specs.Price.{mark}
use Rattle.search.specs.Node.Laws.{list_entry}
use Rattle.search.specs.Plan.Depths.{depth0}
use Rattle.search.specs.Plan.Laid.{laid}
use Rattle.wayback.specs.Steps.{tight_by, depths_by, back_by, way_by, table_depths, table_back, Walkable}
use Rattle.wayback.specs.Sources.{Sourced, depths_length, depths_below, depths_bound, depths_sourced}
use Rattle.wayback.specs.Tight.{tight_ranged}
use Rattle.wayback.specs.Woven.{Backed}
use Rattle.wayback.specs.Least.{AllMet, Guided, kept_first}
use Rattle.wayback.specs.Walked.{Walked}

-- ---- along listed edges

module _ (moves : List ℕ) (row at : ℕ) (acts index tight stops B P : List ℕ) (y : ℕ) (w : Backed moves row at acts index tight stops B P y)
    (D : List ℕ) (made : D ≡ depths_by w.woven.edges w.woven.count B P) where
  -- there is a depth for each state
  pub backed_length : length D ≡ length P
  backed_length = rw made (depths_length w.woven.edges w.woven.count B P)

  -- there are few steps to walk
  pub backed_few : get_or D y mark ≤ 256
  backed_few = rw made (omega (arith, depths_bound w.woven.edges w.woven.count B P y w.deep, w.woven.few_states))

  -- each state keeps its first source
  pub backed_sourced : Sourced (length D) w.woven.count w.woven.edges D
  backed_sourced = rw (backed_length, made) (depths_sourced w.woven.edges w.woven.count B P w.woven.ranged)

  abbrev pub backed_guided : (S : List ℕ) → AllMet moves row at index tight stops D (length D) S → Guided acts D S
  backed_guided S met =
      record {
        count = w.woven.count;
        edges = w.woven.edges;
        acts_long = w.woven.acts_long;
        few_states = rw backed_length w.woven.few_states;
        sourced = backed_sourced;
        kept = λ k y h d l. kept_first moves row at acts index tight stops D (rw backed_length w.woven) S met k y h d (backed_sourced k y d l);
      }

  -- and the walk goes by these depths
  pub backed_way : back_by w.woven.edges acts w.woven.count (length D) D (get_or D y mark) y ≡ way_by w.woven.edges acts w.woven.count B P y
  unfolding way_by
  backed_way = rw (backed_length, made)

-- ---- by the tables that settling is lent

module _ (moves : List ℕ) (row at : ℕ) (costs acts : List ℕ) (m : ℕ) (B P : List ℕ) (y : ℕ) (w : Walkable moves row at costs acts m B P y) where
  -- a state that has kept its price: nothing is walked
  pub back_kept : (total p : ℕ) (plan : List ℕ) → cond (ltb (get_or P y mark) mark && eqb (get_or B y mark) (get_or P y mark)) 0 mark ≡ 0
      → Walked (table_back moves row at costs acts m B P y) total p plan y p plan
  unfolding way_by back_by laid
  back_kept total p plan e =
      let kept : get_or (depth0 B P) y mark ≡ 0 = list_entry (length P) _ y mark w.inside ∙ e in
      let none : get_or (table_depths moves row at costs acts m B P) y mark ≡ 0 = omega (arith, depths_below (tight_by moves row at costs acts P) m B P y) in
      rw (none, back_by) (record { state = refl; place = omega arith; plan = refl })

  -- without an action, too
  pub back_none : m ≡ 0 → (total p : ℕ) (plan : List ℕ) → Walked (table_back moves row at costs acts m B P y) total p plan y p plan
  unfolding way_by back_by laid
  back_none z total p plan = go (get_or (table_depths moves row at costs acts m B P) y mark) refl
    where
      go : (k : ℕ) → get_or (table_depths moves row at costs acts m B P) y mark ≡ k
          → Walked (table_back moves row at costs acts m B P y) total p plan y p plan
      go zero e = rw (e, back_by) (record { state = refl; place = omega arith; plan = refl })
      go (suc k) e =
          let s = depths_sourced (tight_by moves row at costs acts P) m B P (tight_ranged moves row at costs acts m P w.lent) k y e (omega (arith, w.deep)) in
          absurd (omega (arith, s.leads.below))
