-- The choice of the next node, by keys in a list.
pub mod Laws
use Rattle.std.specs.Prelude.{◌≡◌, ◌⊎◌, cond, List, ℕ, zero, suc, ◌≤◌, ◌<◌, ltb, get_or}

-- the key of a choice, which is one more than a node, or 0 for none: then the bound
unfoldable pub key_of : ℕ → List ℕ → ℕ → ℕ
key_of bound keys zero = bound
key_of bound keys (suc u) = get_or keys u 0

-- the choice among the nodes below i: the least key below the bound, the lowest node on ties
unfoldable pub choose_by : ℕ → List ℕ → ℕ → ℕ
choose_by bound keys zero = zero
choose_by bound keys (suc i) = cond (ltb (get_or keys i 0) (key_of bound keys (choose_by bound keys i))) (suc i) (choose_by bound keys i)

-- node u of the first n is chosen: its key is below the bound, none is less, and all before it are greater
pub record Picked (bound : ℕ) (keys : List ℕ) (n u : ℕ) : Type 0 where
  pub inside : u < n
  pub below : get_or keys u 0 < bound
  pub least : (w : ℕ) → w < n → get_or keys u 0 ≤ get_or keys w 0
  pub first : (w : ℕ) → w < u → get_or keys u 0 < get_or keys w 0

-- none of the first n nodes has a key below the bound
abbrev pub NoneBelow : ℕ → List ℕ → ℕ → Type 0
NoneBelow bound keys n = (w : ℕ) → w < n → bound ≤ get_or keys w 0

-- what a choice r among the first n nodes says: there is no key below the bound, or r is one more than the node that is chosen
abbrev pub Choice : ℕ → List ℕ → ℕ → ℕ → Type 0
Choice bound keys n r = ((r ≡ 0) × NoneBelow bound keys n) ⊎ ((u : ℕ) × ((r ≡ suc u) × Picked bound keys n u))
