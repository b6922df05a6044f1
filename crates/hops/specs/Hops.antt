-- Hops by tables: which centre actions move one centre variable and leave all leaves alone, and which of them goes from one value to another. Nobody but
-- the code and its proof looks at these.
pub mod Laws
use Rattle.std.specs.Prelude.{◌≡◌, Bool, cond, not, ◌&&◌, ◌||◌, List, ℕ, zero, suc, ◌+◌, ◌-◌, ◌*◌, ◌/◌, ◌%◌, ◌≤◌, ◌<◌, ltb, eqb, length, get_or, set, replicate}
use Rattle.loops.specs.Count.{all}
use Rattle.layer.specs.Board.{Board, row_on}
use Rattle.stills.specs.Still.{Stays, padded}

-- ---- what the code counts, one definition for each function

-- whether an action's row of conditions or effects, which begins at `at`, names no variable but v
unfoldable pub names_only : (pairs : List ℕ) (at v : ℕ) → Bool
names_only pairs at v = all 32 (λ w. eqb w v || eqb (get_or pairs (at + w) 0) 16)

-- the word of action a where its conditions and effects name variable v and no other: one more than 256 times the variable, 16 times the value that it
-- leaves and the value that it takes; else 0
unfoldable pub pair_word : (conditions effects : List ℕ) (a v : ℕ) → ℕ
pair_word conditions effects a v =
    let x = get_or conditions (a * 32 + v) 0 in
    let z = get_or effects (a * 32 + v) 0 in
    cond (ltb x 16 && (ltb z 16 && (names_only conditions (a * 32) v && names_only effects (a * 32) v))) (1 + 256 * v + 16 * x + z) 0

-- the word of centre action a, if it is still: that of the variable of its first condition on the centre; 0 for all others
unfoldable pub hop_word : (kinds conditions effects firsts still : List ℕ) (a : ℕ) → ℕ
hop_word kinds conditions effects firsts still a =
    let v = get_or firsts a 0 in
    cond (eqb (get_or kinds a 0) 0 && (not (eqb (get_or still a 0) 0) && ltb v 32)) (pair_word conditions effects a v) 0

-- the word of each action
unfoldable pub hops_by : (actions : ℕ) (kinds conditions effects firsts still : List ℕ) → List ℕ
hops_by actions kinds conditions effects firsts still = padded 256 actions (hop_word kinds conditions effects firsts still)

-- for each word of a hop, less one, one more than the last of the first n actions that has that word, 0 where none has it
unfoldable pub ways_by : (hops : List ℕ) (n : ℕ) → List ℕ
ways_by hops zero = replicate 8192 0
ways_by hops (suc a) =
    let before = ways_by hops a in
    let word = get_or hops a 0 in
    cond (eqb word 0) before (set before (word - 1) (suc a))

-- ---- what the words say

-- by the tables, action a has the one condition that centre variable v is x, and the one effect that v becomes z; each leaf state stays as it is
pub record HopOn (b : Board) (effects : List ℕ) (a v x z : ℕ) : Type 0 where
  pub central : get_or b.kinds a 0 ≡ 0
  pub stays : Stays b.leaves b.bases b.moves (a * row_on b)
  pub within : v < 32
  pub own : get_or b.factors v 0 ≡ 0
  pub from : get_or b.conditions (a * 32 + v) 0 ≡ x
  pub from_value : x < 16
  pub into : get_or effects (a * 32 + v) 0 ≡ z
  pub into_value : z < 16
  pub conditions_free : (w : ℕ) → w < 32 → (w ≡ v → ⊥) → get_or b.conditions (a * 32 + w) 0 ≡ 16
  pub effects_free : (w : ℕ) → w < 32 → (w ≡ v → ⊥) → get_or effects (a * 32 + w) 0 ≡ 16

-- action a has the one condition that v is x, and the one effect that v becomes z
pub record Pair (conditions effects : List ℕ) (a v x z : ℕ) : Type 0 where
  pub from : get_or conditions (a * 32 + v) 0 ≡ x
  pub from_value : x < 16
  pub into : get_or effects (a * 32 + v) 0 ≡ z
  pub into_value : z < 16
  pub conditions_free : (w : ℕ) → w < 32 → (w ≡ v → ⊥) → get_or conditions (a * 32 + w) 0 ≡ 16
  pub effects_free : (w : ℕ) → w < 32 → (w ≡ v → ⊥) → get_or effects (a * 32 + w) 0 ≡ 16

-- a word is 0, or it is that of such a pair
pub record PairWord (conditions effects : List ℕ) (a v h : ℕ) : Type 0 where
  pub few : h ≤ 8192
  pub variable : (h ≡ 0 → ⊥) → (h - 1) / 256 ≡ v
  pub pair : (h ≡ 0 → ⊥) → Pair conditions effects a v ((h - 1) / 16 % 16) ((h - 1) % 16)

-- a word is 0, or it is that of a hop: one more than 256 times the variable, 16 times the value that it leaves and the value that it takes
pub record HopWord (b : Board) (effects : List ℕ) (a h : ℕ) : Type 0 where
  pub few : h ≤ 8192
  pub hop : (h ≡ 0 → ⊥) → HopOn b effects a ((h - 1) / 256) ((h - 1) / 16 % 16) ((h - 1) % 16)

-- each of the first n actions has its word
pub record Hops (n : ℕ) (b : Board) (effects hops : List ℕ) : Type 0 where
  pub long : length hops ≡ 256
  pub few : (k : ℕ) → get_or hops k 0 ≤ 8192
  pub word : (a : ℕ) → a < n → HopWord b effects a (get_or hops a 0)

-- for each word of a hop, less one, 0 or one more than one of the first n actions that has that word
pub record Ways (n : ℕ) (hops ways : List ℕ) : Type 0 where
  pub long : length ways ≡ 8192
  pub way : (g : ℕ) → g < 8192 → (get_or ways g 0 ≡ 0 → ⊥) → (get_or ways g 0 - 1 < n) × (get_or hops (get_or ways g 0 - 1) 0 ≡ g + 1)
