-- A node's row in the lent table: 40 + S words. Word 32 holds the centre cost, 33 the number of the node it was made from, 34 the centre action that
-- made it, 35 to 38 the centre state's packs; 39 the signature of its prices; 0 to 31 are not used; then the S prices, leaf 1 first.
-- A pack is eight of the 32 values in one word, the first its lowest byte, so that two centre states are told apart by four words.
pub mod Packs
pub mod Laws
use Rattle.std.specs.Prelude.{◌≡◌, Option, MatchOption, List, [], ◌∷◌, ◌++◌, ℕ, zero, suc, ◌+◌, ◌*◌, ◌/◌, ◌%◌, ◌^◌, ◌≤◌, ◌<◌, get_or, take, drop}
use Rattle.loops.specs.Count.{list}
use Rattle.task.specs.declared.Centre.{Centre}
use Rattle.search.specs.Node.{Node}

-- value v of the centre state in a row: byte v % 8 of its pack
abbrev pub byte_in : List ℕ → ℕ → ℕ
byte_in row v = get_or row (35 + v / 8) 0 / 2 ^ (v % 8 * 8) % 256

-- the centre state in a row
unfoldable pub spot_of : List ℕ → Centre
spot_of row = record { values = list 32 (byte_in row) }

-- n values from value b on as the digits of one number to the base 256, the first the lowest
unfoldable pub pack_to : List ℕ → ℕ → ℕ → ℕ
pack_to xs b zero = 0
pack_to xs b (suc n) = pack_to xs b n + get_or xs (b + n) 0 * 256 ^ n

-- eight values of a centre state
abbrev pub pack_of : Centre → ℕ → ℕ
pack_of c b = pack_to c.values b 8

-- a row has the packs of its centre state
pub record Packed (row : List ℕ) : Type 0 where
  pub first : get_or row 35 0 ≡ pack_of (spot_of row) 0
  pub second : get_or row 36 0 ≡ pack_of (spot_of row) 8
  pub third : get_or row 37 0 ≡ pack_of (spot_of row) 16
  pub fourth : get_or row 38 0 ≡ pack_of (spot_of row) 24

-- the node in a row
unfoldable pub node_of : ℕ → List ℕ → Node
node_of S row = record { spot = spot_of row; paid = get_or row 32 0; prices = take S (drop 40 row); parent = get_or row 33 0; action = get_or row 34 0 }

-- row u of a table
abbrev pub row_in : ℕ → List ℕ → ℕ → List ℕ
row_in S T u = take (40 + S) (drop (u * (40 + S)) T)

-- node u of a table
abbrev pub node_in : ℕ → List ℕ → ℕ → Node
node_in S T u = node_of S (row_in S T u)

-- the first n nodes of a table
unfoldable pub nodes_in : ℕ → List ℕ → ℕ → List Node
nodes_in S T zero = []
nodes_in S T (suc u) = nodes_in S T u ++ (node_in S T u ∷ [])

-- a node from its parts
abbrev pub node_with : Centre → ℕ → List ℕ → ℕ → ℕ → Node
node_with c paid P parent action = record { spot = c; paid = paid; prices = P; parent = parent; action = action }

-- no price of the row before place k is higher than that of P
abbrev pub NotAbove : List ℕ → List ℕ → ℕ → Type 0
NotAbove row P k = (i : ℕ) → i < k → get_or row (40 + i) 0 ≤ get_or P i 0

-- k is a place below S where the row's price is higher than that of P
pub record Higher (S : ℕ) (row P : List ℕ) (k : ℕ) : Type 0 where
  pub inside : k < S
  pub above : get_or P k 0 < get_or row (40 + k) 0

-- r is a place below S where the row's price is higher than that of P; it is None only where there is none
abbrev pub Above : ℕ → List ℕ → List ℕ → Option ℕ → Type 0
Above S row P r = MatchOption r (NotAbove row P S) (Higher S row P)
