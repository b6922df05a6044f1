-- Where the prices of a layer's begin stand: behind an action that leaves each leaf state as it is they are those of the layer before, and are copied only
-- once the node is kept; behind another they were made. Assumes nothing.
use Rattle.std.specs.Prelude.{◌≡◌, refl, List, ◌++◌, ℕ, zero, suc, ◌≤◌, length, take, drop}
use Rattle.std.proofs.Common.{sym, take_at, length-take-le}
use Rattle.rows.specs.Reach.{Reaches}

-- the list to read from, where `still` is not 0 the old one
unfoldable pub read_from : ℕ → List ℕ → List ℕ → List ℕ
read_from zero old new = new
read_from (suc f) old new = old

-- the words of the begin: its S prices, and what stands behind them
unfoldable pub begun_words : ℕ → ℕ → List ℕ → List ℕ → List ℕ
begun_words zero S old new = new
begun_words (suc f) S old new = take S old ++ drop S new

-- behind an action that moves leaf states, and behind one that does not
pub begun_moved : (still S : ℕ) (old new : List ℕ) → still ≡ 0 → begun_words still S old new ≡ new
unfolding begun_words
begun_moved still S old new e = rw (e, begun_words)

pub begun_stays : (still S : ℕ) (old new : List ℕ) → (still ≡ 0 → ⊥) → begun_words still S old new ≡ take S old ++ drop S new
unfolding begun_words
begun_stays zero S old new d = absurd (d refl)
begun_stays (suc f) S old new d = refl

pub read_moved : (still : ℕ) (old new : List ℕ) → still ≡ 0 → read_from still old new ≡ new
unfolding read_from
read_moved still old new e = rw (e, read_from)

pub read_stays : (still : ℕ) (old new : List ℕ) → (still ≡ 0 → ⊥) → read_from still old new ≡ old
unfolding read_from
read_stays zero old new d = absurd (d refl)
read_stays (suc f) old new d = refl

-- the prices are the same in both
pub read_begun : (still S : ℕ) (old new : List ℕ) → S ≤ length old → take S (read_from still old new) ≡ take S (begun_words still S old new)
unfolding read_from begun_words
read_begun zero S old new l = refl
read_begun (suc f) S old new l = sym (take_at (take S old) (drop S new) S (length-take-le S old l))

-- the list read from is long enough
pub read_long : (still S : ℕ) (old new : List ℕ) → S ≤ length old → S ≤ length new → S ≤ length (read_from still old new)
unfolding read_from
read_long zero S old new l h = h
read_long (suc f) S old new l h = l

-- where each list has the states that its prices reach, so has the list read for the prices read
pub read_reaches : (still S : ℕ) (old new L M : List ℕ) → (128 ≤ S → Reaches S old L) → (still ≡ 0 → 128 ≤ S → Reaches S new M) → 128 ≤ S
    → Reaches S (read_from still old new) (read_from still L M)
unfolding read_from
read_reaches zero S old new L M h k l = k refl l
read_reaches (suc f) S old new L M h k l = h l
