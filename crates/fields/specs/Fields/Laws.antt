-- Laws of a record's fields. Assumes nothing.
use Rattle.std.specs.Prelude.{ℕ, zero, suc, ◌+◌, ◌*◌, ◌^◌, ◌<◌, ◌≤◌, ◌≡◌, refl, Bool, true, false, cond, List, leb, length}
use Rattle.std.proofs.Common.{pow-suc, lt_of_lt_of_le, add-one, arith, le-leb, leb-true, leb→le, pow_mono}
use Rattle.std.proofs.lemmas.Bool.{lt-leb}
use Rattle.loops.specs.Parsed.{got, refused}
use Rattle.loops.specs.Table.{every_at}
use Rattle.fields.specs.Fields.{widths, width, bit_of, field_of, next_field}
use Rattle.fields.specs.declared.Refusal.TheVariants.{RecordEnds}

-- ---- width

-- no field is wider than 12 bits
pub width_le : (kind : ℕ) → kind < 11 → width kind ≤ 12
width_le kind h = leb→le _ _ (every_at (λ k w. leb w 12) widths tt kind h)

-- ---- bit_of, field_of

pub bit_lt : (rec : List ℕ) (k : ℕ) → bit_of rec k < 2
unfolding bit_of
bit_lt rec k = omega arith

-- a field of w bits is below 2 ^ w
pub field_lt : (rec : List ℕ) (k w : ℕ) → field_of rec k w < 2 ^ w
unfolding field_of
field_lt rec k zero = omega arith
field_lt rec k (suc w) = omega (arith, field_lt rec k w, bit_lt rec (k + w), pow-suc 2 w)

-- a field of at most m bits is below 2 ^ m
pub field_below : (m : ℕ) (rec : List ℕ) (k : ℕ) {w : ℕ} → w ≤ m → field_of rec k w < 2 ^ m
field_below m rec k {w} h = lt_of_lt_of_le (field_lt rec k w) (pow_mono h)

-- one bit more
pub field_more : (rec : List ℕ) (k w : ℕ) → field_of rec k (w + 1) ≡ field_of rec k w * 2 + bit_of rec (k + w)
unfolding field_of
field_more rec k w = rw add-one

-- ---- next_field

pub next_ends : (rec : List ℕ) (kind k : ℕ) → 8 * length rec < k + width kind → next_field rec kind k ≡ refused RecordEnds
unfolding next_field
next_ends rec kind k h = simp (lt-leb _ _ h)

pub next_got : (rec : List ℕ) (kind k : ℕ) → k + width kind ≤ 8 * length rec → next_field rec kind k ≡ got (field_of rec k (width kind)) (k + width kind)
unfolding next_field
next_got rec kind k h = simp (le-leb _ _ h)

-- what a field says is below 2 to its width, and the bit behind it is so many further, within the record
pub record Next (rec : List ℕ) (kind k value k' : ℕ) : Type 0 where
  pub small : value < 2 ^ width kind
  pub place : k' ≡ k + width kind
  pub inside : k' ≤ 8 * length rec

pub next_is : (rec : List ℕ) (kind k : ℕ) {value k' : ℕ} → next_field rec kind k ≡ got value k' → Next rec kind k value k'
unfolding next_field
next_is rec kind k {value} {k'} = go (leb (k + width kind) (8 * length rec)) refl
  where
    go : (b : Bool) → leb (k + width kind) (8 * length rec) ≡ b
        → cond b (got (field_of rec k (width kind)) (k + width kind)) (refused RecordEnds) ≡ got value k' → Next rec kind k value k'
    go true h e =
        let ev : value ≡ field_of rec k (width kind) = cc in
        let ek : k' ≡ k + width kind = cc in
        record { small = rw ev (field_lt rec k (width kind)); place = ek; inside = rw ek (leb-true _ _ h) }
    go false h e = let z : ◌≡◌ {A = ℕ} 0 1 = cc in absurd (omega arith)
