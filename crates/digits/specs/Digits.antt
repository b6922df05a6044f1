-- Lists that are filled entry by entry, and the rows of the table of moves among them. Nobody but the code and its proof looks at these.
pub mod Laws
use Rattle.std.specs.Prelude.{◌≡◌, ◌⊎◌, List, ℕ, suc, ◌+◌, ◌*◌, ◌≤◌, ◌<◌, get_or}
use Rattle.loops.specs.Count.{sum}
use Rattle.task.specs.Meaning.{Partial}
use Rattle.task.specs.Factors.{states_to}
use Rattle.digits.specs.Moves.{to_with, digit_move}

-- ---- lists

-- a list as a function of the place, 0 behind its end
abbrev pub entries : List ℕ → ℕ → ℕ
entries xs k = get_or xs k 0

-- the same, counted from `at` on
abbrev pub entries_from : ℕ → List ℕ → ℕ → ℕ
entries_from at xs k = get_or xs (at + k) 0

-- each of the first n entries has the property of its place
abbrev pub Each : ℕ → (ℕ → ℕ → Type 0) → List ℕ → Type 0
Each n P xs = (k : ℕ) → k < n → P k (get_or xs k 0)

-- the first n entries are f 0, f 1, ..
abbrev pub Filled : ℕ → (ℕ → ℕ) → List ℕ → Type 0
Filled n f xs = Each n (λ k x. x ≡ f k) xs

-- the n entries from `from` on are f 0, f 1, ..
abbrev pub Placed : ℕ → ℕ → (ℕ → ℕ) → List ℕ → Type 0
Placed from n f xs = (k : ℕ) → k < n → get_or xs (from + k) 0 ≡ f k

-- the lists agree below `from` and from `end` on
abbrev pub Same : ℕ → ℕ → List ℕ → List ℕ → Type 0
Same from end xs ys = (k : ℕ) → (k < from) ⊎ (end ≤ k) → get_or ys k 0 ≡ get_or xs k 0

-- each of the entries of xs from x to s, counted from `from` on, gave as many entries of ys as its next digit has values
abbrev pub Spread : ℕ → ℕ → ℕ → ℕ → ℕ → ℕ → List ℕ → List ℕ → Type 0
Spread from x s size condition effect xs ys =
    (k d : ℕ) → x ≤ k → k < s → d < size → get_or ys (from + (k * size + d)) 0 ≡ digit_move (get_or xs (from + k) 0) size condition effect d

-- on the way there, by falling number: the entries below x wait in their places
pub record Growing (from s size condition effect : ℕ) (xs : List ℕ) (x : ℕ) (ys : List ℕ) : Type 0 where
  pub waits : (k : ℕ) → k < x → get_or ys (from + k) 0 ≡ get_or xs (from + k) 0
  pub grown : Spread from x s size condition effect xs ys

-- ---- by the number of variables, factors and sizes

-- the states of the leaves below i + 1
unfoldable pub start_of : ℕ → (ℕ → ℕ) → (ℕ → ℕ) → ℕ → ℕ
start_of n fac siz i = sum i (λ j. states_to fac siz (suc j) n)

-- by its first v variables leaf l has s states, and what the action with conditions con and effects eff makes of each stands in the entries from `from` on
pub record Partly (fac siz : ℕ → ℕ) (con eff : Partial) (l from v s : ℕ) (xs : List ℕ) : Type 0 where
  pub count : s ≡ states_to fac siz l v
  pub placed : Placed from s (to_with v fac siz con eff l) xs

-- one action, conditions con and effects eff: what it makes of each state of the leaves below l + 1, in the entries from `from` on
abbrev pub Row : ℕ → (ℕ → ℕ) → (ℕ → ℕ) → Partial → Partial → ℕ → ℕ → List ℕ → Type 0
Row n fac siz con eff from l xs =
    (i x : ℕ) → i < l → x < states_to fac siz (suc i) n → get_or xs (from + (start_of n fac siz i + x)) 0 ≡ to_with n fac siz con eff (suc i) x

-- the actions below m: a row for each
abbrev pub Rows : ℕ → (ℕ → ℕ) → (ℕ → ℕ) → (ℕ → Partial) → (ℕ → Partial) → ℕ → ℕ → List ℕ → Type 0
Rows n fac siz con eff leaves m xs =
    (a : ℕ) → a < m → Row n fac siz (con a) (eff a) (a * start_of n fac siz leaves) leaves xs
