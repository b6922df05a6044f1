-- The walk back, a step at a time: what is left of the way, from here, ends as the whole does from the start. Assumes nothing.
use Rattle.std.specs.Prelude.{◌≡◌, List, [], ◌∷◌, reverse, ℕ, zero, suc, ◌+◌, ◌-◌, ◌<◌, length}
use Rattle.std.proofs.Common.{not-suc-le-zero, arith}
use Rattle.std.proofs.Math.ListN.{get_or, length-append}
use Rattle.search.specs.Plan.{Back}
use Rattle.search.specs.Plan.Laid.{put, laid, reverse_snoc}
use Rattle.wayback.specs.Steps.{entry_by, origin_by, back_by}

-- how a way back is walked: the state y where it ends, the place q behind it, and its actions in the plan from place p on, the last first
pub record Walked (b : Back) (total p : ℕ) (before : List ℕ) (y q : ℕ) (after : List ℕ) : Type 0 where
  pub state : y ≡ b.from
  pub place : q ≡ p + length b.acts
  pub plan : after ≡ laid total p (reverse b.acts) before

-- way b from place p, with this plan, ends as way b' from place p' with that plan
pub record Left (total : ℕ) (b : Back) (p : ℕ) (plan : List ℕ) (b' : Back) (p' : ℕ) (plan' : List ℕ) : Type 0 where
  pub from : b.from ≡ b'.from
  pub end : p + length b.acts ≡ p' + length b'.acts
  pub written : laid total p (reverse b.acts) plan ≡ laid total p' (reverse b'.acts) plan'

module _ (edges : ℕ → ℕ → ℕ) (acts : List ℕ) (m n : ℕ) (D : List ℕ) (total : ℕ) (b' : Back) (p' : ℕ) (plan' : List ℕ) where
  -- what is left from y, of depth k, at place p
  abbrev pub LeftAt : ℕ → ℕ → ℕ → List ℕ → Type 0
  LeftAt k y p plan = Left total (back_by edges acts m n D k y) p plan b' p' plan'

  -- a step of the walk: by the first action with a source, to its lowest source
  step : (k y p : ℕ) (plan : List ℕ) → LeftAt (suc k) y p plan
      → LeftAt k (origin_by edges m n D k y) (p + 1) (put total p (get_or acts (entry_by edges m n D k y) 0) plan)
  unfolding back_by laid
  step k y p plan l =
      let rest = (back_by edges acts m n D k (origin_by edges m n D k y)).acts in
      let a = get_or acts (entry_by edges m n D k y) 0 in
      record {
        from = l.from;
        end = omega (arith, l.end, length-append rest (a ∷ []));
        written = rw (reverse_snoc rest a, laid) at l.written;
      }

  pub left_more : (k y p j x : ℕ) (plan after : List ℕ) → 0 < k → LeftAt k y p plan → j ≡ entry_by edges m n D (k - 1) y
      → x ≡ origin_by edges m n D (k - 1) y → after ≡ put total p (get_or acts j 0) plan → LeftAt (k - 1) x (p + 1) after
  left_more zero y p j x plan after z l e f g = absurd (not-suc-le-zero z)
  left_more (suc k) y p j x plan after z l e f g = let back : suc k - 1 ≡ k = omega arith in rw (g, f, e, back) (step k y p plan l)

  -- nothing is left
  pub left_end : (k y p : ℕ) (plan : List ℕ) → k ≡ 0 → LeftAt k y p plan → Walked b' total p' plan' y p plan
  unfolding back_by laid
  left_end k y p plan z l = let d = rw z at l in record { state = d.from; place = omega (arith, d.end); plan = d.written }
