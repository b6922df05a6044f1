-- `dominance::same_spot` meets its contract: four packs are compared, and they are the same only where all values are. Assumes nothing.
use Rattle.std.proofs.Common.{◌≡◌, sym, ◌∙◌, true≢false, Bool, false, ◌&&◌, List, ℕ, ◌<◌, ◌≤◌, arith, eqb, eq-eqb, ne_eqb, get_or, rules, w8, Fits}
use Rattle.std.proofs.lemmas.Bool.Decides.{nat_tests}
use Rattle.std.proofs.Math.Decide.{ℕ_discrete}
use Rattle.loops.specs.Count.{all}
use Rattle.task.specs.declared.Centre.{Centre}
use Rattle.task.specs.Centre.{value_in}
use Rattle.rows.specs.Row.{spot_of, pack_of, Packed}
use Rattle.rows.specs.Row.Packs.{packs_same, packs_other}
use Rattle.rows.specs.Row.Laws.{spot_lt}
use Rattle.dominance.proofs.same_spot.Goals as goal
use Rattle.dominance.proofs.same_spot.Goals.{Start, then-row-pack, else-row-pack, then-row-pack-2, else-row-pack-2}

-- whether all values are the same
abbrev same : List ℕ → Centre → Bool
same row c = all 32 (λ v. eqb (value_in (spot_of row) v) (value_in c v))

-- whether the four packs are
abbrev packs : List ℕ → Centre → Bool
packs row c = eqb (get_or row 35 0) (pack_of c 0) && (eqb (get_or row 36 0) (pack_of c 8) && (eqb (get_or row 37 0) (pack_of c 16) && eqb (get_or row 38 0) (pack_of c 24)))

module _ (row : List ℕ) (c : Centre) (r : Packed row) (small : (v : ℕ) → v < 32 → get_or c.values v 0 < 256) where
  -- all values are the same where the four packs are
  packs_tell : packs row c ≡ same row c
  packs_tell =
      go (ℕ_discrete (get_or row 35 0) (pack_of c 0)) (ℕ_discrete (get_or row 36 0) (pack_of c 8)) (ℕ_discrete (get_or row 37 0) (pack_of c 16))
      (ℕ_discrete (get_or row 38 0) (pack_of c 24))
    where
      other : (b : ℕ) → b ≤ 24 → (pack_of (spot_of row) b ≡ pack_of c b → ⊥) → false ≡ same row c
      other b l d = sym (packs_other (spot_of row).values c.values b l d)

      go : Dec (get_or row 35 0 ≡ pack_of c 0) → Dec (get_or row 36 0 ≡ pack_of c 8) → Dec (get_or row 37 0 ≡ pack_of c 16) → Dec (get_or row 38 0 ≡ pack_of c 24)
          → packs row c ≡ same row c
      go (no d) f g h = rw (ne_eqb _ _ d) (other 0 (omega arith) (λ e. d (r.first ∙ e)))
      go (yes p) (no d) g h = rw (eq-eqb _ _ p, ne_eqb _ _ d) (other 8 (omega arith) (λ e. d (r.second ∙ e)))
      go (yes p) (yes q) (no d) h = rw (eq-eqb _ _ p, eq-eqb _ _ q, ne_eqb _ _ d) (other 16 (omega arith) (λ e. d (r.third ∙ e)))
      go (yes p) (yes q) (yes s) (no d) = rw (eq-eqb _ _ p, eq-eqb _ _ q, eq-eqb _ _ s, ne_eqb _ _ d) (other 24 (omega arith) (λ e. d (r.fourth ∙ e)))
      go (yes p) (yes q) (yes s) (yes t) =
          rw (eq-eqb _ _ p, eq-eqb _ _ q, eq-eqb _ _ s, eq-eqb _ _ t)
          (sym (packs_same (spot_of row).values c.values (spot_lt row) small (sym r.first ∙ p) (sym r.second ∙ q) (sym r.third ∙ s) (sym r.fourth ∙ t)))

-- the same at the start
told : (s : Start) → packs s.args.row.now s.args.spot ≡ same s.args.row.now s.args.spot
told s =
    let small : (v : ℕ) → Fits w8 (get_or s.args.spot.values v 0) = λ v. search rules in
    packs_tell s.args.row.now s.args.spot s.requires.1 (λ v l. (small v).fits)

pub returns-then-row-pack-3 : goal.returns-then-row-pack-3
returns-then-row-pack-3 c =
    let t = told (goal.at.returns-then-row-pack-3 c).Start in
    elim c.if-row-pack-2.branch [
      | then-row-pack-2 w ↦ elim c.if-row-pack.branch [ then-row-pack v ↦ grind (arith, nat_tests, t) | else-row-pack v ↦ grind (arith, nat_tests) ]
      | else-row-pack-2 w ↦ absurd (true≢false (sym c.if-row-pack-3.true ∙ w.value-is ∙ w.if-row-pack-2.false))
    ]

pub returns-else-row-pack-3 : goal.returns-else-row-pack-3
returns-else-row-pack-3 c =
    let t = told (goal.at.returns-else-row-pack-3 c).Start in
    elim c.if-row-pack-2.branch [
      | then-row-pack-2 w ↦ elim c.if-row-pack.branch [ then-row-pack v ↦ grind (arith, nat_tests, t) | else-row-pack v ↦ grind (arith, nat_tests, t) ]
      | else-row-pack-2 w ↦ elim c.if-row-pack.branch [ then-row-pack v ↦ grind (arith, nat_tests, t) | else-row-pack v ↦ grind (arith, nat_tests, t) ]
    ]
