-- Actions of a list lower prices from one state, one after the other. Assumes nothing.
use Rattle.std.specs.Prelude.{◌≡◌, refl, Bool, false, ◌||◌, List, ℕ, ◌+◌, ◌≤◌, ◌<◌, min, length, get_or}
use Rattle.std.proofs.Common.{◌∙◌}
use Rattle.leaf.specs.Price.{mark}
use Rattle.leaf.specs.Settle.{lower, relax}
use Rattle.leaf.specs.Settle.Turns.{at_any, relax_more}
use Rattle.leaf.specs.Settle.Sweeps.{Fell, fell_none, fell_join}

module _ (cost : ℕ → ℕ) (to : ℕ → ℕ → ℕ) (x : ℕ) (P D : List ℕ) where
  -- prices Q and flags E on the way from prices P and flags D, when j actions have lowered prices from state x. No price is above the mark, so a sum
  -- capped at the mark lowers as the sum itself does
  pub record Relaxing (j : ℕ) (r : Bool) (Q E : List ℕ) : Type 0 where
    pub prices_kept : length Q ≡ length P
    pub dirty_kept : length E ≡ length D
    pub capped : (i : ℕ) → get_or Q i 0 ≤ mark
    pub lowers : Q ≡ relax mark cost to x (get_or P x mark) P j
    pub told : Fell mark x P D r Q E

  -- before the first
  pub relaxing_none : ((i : ℕ) → get_or P i 0 ≤ mark) → Relaxing 0 false P D
  unfolding relax
  relaxing_none capped = record { prices_kept = refl; dirty_kept = refl; capped = capped; lowers = refl; told = fell_none mark x P D }

  -- one more
  pub relaxing_more : (j k : ℕ) (r s : Bool) (Q E Q' E' : List ℕ) → x < length P → Relaxing j r Q E → k ≡ to j x
      → Q' ≡ lower mark Q k (min (get_or P x 0 + cost j) mark) → Fell mark x Q E s Q' E' → length Q' ≡ length Q → length E' ≡ length E
      → ((i : ℕ) → get_or Q' i 0 ≤ mark) → Relaxing (j + 1) (r || s) Q' E'
  relaxing_more j k r s Q E Q' E' inside w leads made told prices dirty capped =
      let own = at_any P x 0 mark inside in
      let paid : min (get_or P x 0 + cost j) mark ≡ min (get_or P x mark + cost j) mark = rw own in
      record {
        prices_kept = prices ∙ w.prices_kept;
        dirty_kept = dirty ∙ w.dirty_kept;
        capped = capped;
        lowers = made ∙ relax_more mark cost to x (get_or P x mark) P j k _ Q w.lowers w.capped leads paid;
        told = fell_join mark x P D Q E Q' E' r s w.told told;
      }
