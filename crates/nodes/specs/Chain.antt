-- The scan words: 17,696 words. Open keys stand at u, the words of groups at 4096 + g, heads at 6144 + h, the number of groups
-- at 7168, block words at 7184 + b, upper words at 7440 + b, the signatures of entries at 7456 + 4 * g + k, the nodes of entries, four in a word, at
-- 15648 + g. The words 7169 to 7183 are not used.
-- Nodes are chained by the class of their centre state, in groups: a group has up to four entries, each a node with its signature, so that a walk sees
-- four signatures side by side. A link or a head is one more than a group's number, 0 for none: the link of a group is the last group before it of the
-- same class, the head of a class is the last group of that class, to which the next node of the class goes while it has room.
-- So only the last group of a class has room, for three entries at most: of 4,096 nodes in 1,024 classes there are at most (4096 + 3 * 1024) / 4 = 1,792
-- groups, and there is room for 2,048.
-- The word of a group is its link and 65,536 times the sum of 8 times its class and the number of its entries: a walk reads the link as the low 16 bits.
pub mod Groups
pub mod Laws
pub mod Room
pub mod Walk
use Rattle.std.specs.Prelude.{◌≡◌, Option, MatchOption, Bool, true, false, not, cond, ◌&&◌, List, ℕ, zero, suc, ◌+◌, ◌-◌, ◌*◌, ◌/◌, ◌%◌, ◌^◌, ◌≤◌, ◌<◌, eqb, ltb, length, get_or, set}
use Rattle.std.specs.Int.Bits.{bit_or}
use Rattle.loops.specs.Count.{any, sum}
use Rattle.search.specs.Node.{Node, dominates}
use Rattle.rows.specs.Row.{row_in, node_in, Packed}
use Rattle.rows.specs.Sign.{class_of, sign_of}
use Rattle.blocks.specs.Block.{Blocked, blocked_to}

-- the head of class h, of which there are 1,024
abbrev pub head_at : List ℕ → ℕ → ℕ
head_at C h = get_or C (6144 + h) 0

-- how many groups there are
abbrev pub groups_in : List ℕ → ℕ
groups_in C = get_or C 7168 0

-- the word of group g, its link, its class and the number of its entries
abbrev pub word_at : List ℕ → ℕ → ℕ
word_at C g = get_or C (4096 + g) 0

abbrev pub link_at : List ℕ → ℕ → ℕ
link_at C g = word_at C g % 65536

abbrev pub class_at : List ℕ → ℕ → ℕ
class_at C g = word_at C g / 65536 / 8

abbrev pub fill_at : List ℕ → ℕ → ℕ
fill_at C g = word_at C g / 65536 % 8

-- entry k of the nodes in a word, 16 bits each
unfoldable pub entry_of : ℕ → ℕ → ℕ
entry_of w k = w / 2 ^ (16 * k) % 65536

-- the signature and the node of entry k of group g
abbrev pub shown_at : List ℕ → ℕ → ℕ → ℕ
shown_at C g k = get_or C (7456 + 4 * g + k) 0

abbrev pub nodes_at : List ℕ → ℕ → ℕ
nodes_at C g = get_or C (15648 + g) 0

abbrev pub entry_at : List ℕ → ℕ → ℕ → ℕ
entry_at C g k = entry_of (nodes_at C g) k

-- how many entries the group that a head stands for has room for, 0 where it stands for none
unfoldable pub room_of : List ℕ → ℕ → ℕ
room_of C zero = 0
room_of C (suc g) = 4 - fill_at C g

-- how many entries the last group of class h has room for
abbrev pub room_at : List ℕ → ℕ → ℕ
room_at C h = room_of C (head_at C h)

-- the place of the recent number of a class h and a signature s; any number below 4,096 is right, only speed depends on it
unfoldable pub slot_of : ℕ → ℕ → ℕ
slot_of h s = (h * 5 + s % 4093) % 4096

-- ---- what is stored; remainders keep any number inside the words

-- whether the group that a head stands for has room
unfoldable pub has_room : List ℕ → ℕ → Bool
has_room C zero = false
has_room C (suc g) = ltb (fill_at C (g % 2048)) 4

-- the group that the next node of class h goes to: the last of the class where that has room, else a new one
unfoldable pub group_for : List ℕ → ℕ → ℕ
group_for C h = cond (has_room C (head_at C h)) ((head_at C h - 1) % 2048) (groups_in C % 2048)

-- group g is the new last one of class h, without entries
unfoldable pub with_group : List ℕ → ℕ → ℕ → List ℕ
with_group C h g = set (set (set C (4096 + g) (h * 8 * 65536 + head_at C h % 65536)) (6144 + h) (g + 1)) 7168 (g + 1)

-- that group is there
unfoldable pub opened_to : List ℕ → ℕ → List ℕ
opened_to C h = cond (has_room C (head_at C h)) C (with_group C h (groups_in C % 2048))

-- node n is entry k of the nodes in a word, and none is behind it
unfoldable pub with_entry : ℕ → ℕ → ℕ → ℕ
with_entry w k n = w % 2 ^ (16 * k) + n * 2 ^ (16 * k)

-- node n, of signature s, is the next entry of group g
unfoldable pub joined_to : List ℕ → ℕ → ℕ → ℕ → List ℕ
joined_to C g n s =
    set (set (set C (7456 + 4 * g + word_at C g / 65536 % 4) s) (15648 + g) (with_entry (nodes_at C g) (word_at C g / 65536 % 4) n)) (4096 + g) (word_at C g % 4294967296 + 65536)

-- the scan words after node n, of class h, is linked
unfoldable pub linked_to : List ℕ → ℕ → ℕ → ℕ → ℕ → List ℕ
linked_to C n key s h = joined_to (opened_to (blocked_to C n key) h) (group_for (blocked_to C n key) h) n s

-- ---- signatures

-- the signature s has a bit that t lacks
abbrev pub lacking : ℕ → ℕ → Bool
lacking s t = not (eqb (bit_or s t) t)

-- the signatures of all entries of group g lack a bit of s
unfoldable pub all_lack : List ℕ → ℕ → ℕ → Bool
all_lack C g s =
    ((lacking s (shown_at C g 0) && lacking s (shown_at C g 1)) && lacking s (shown_at C g 2)) && lacking s (shown_at C g 3)

-- ---- what holds of the words

-- entry k of group g is one of the first n nodes, with its signature, and of the group's class
pub record Entry (S : ℕ) (T C : List ℕ) (n g k : ℕ) : Type 0 where
  pub inside : entry_at C g k < n
  pub shown : shown_at C g k ≡ sign_of (node_in S T (entry_at C g k)).prices
  pub class : class_of (node_in S T (entry_at C g k)).spot ≡ class_at C g

-- node w is an entry of a group
pub record Placed (C : List ℕ) (w : ℕ) : Type 0 where
  pub group : ℕ
  pub place : ℕ
  pub known : group < groups_in C
  pub filled : place < fill_at C group
  pub is : entry_at C group place ≡ w

-- the first n nodes of table T are the entries of groups, which are chained by class; a group has room for four, and what is free is in the last groups
pub record Grouped (S : ℕ) (T C : List ℕ) (n : ℕ) : Type 0 where
  pub fills : (g : ℕ) → g < groups_in C → (fill_at C g ≤ 4) × (class_at C g < 1024)
  pub links : (g : ℕ) → g < groups_in C → link_at C g ≤ g
  pub skips : (g f : ℕ) → g < groups_in C → link_at C g ≤ f → f < g → class_at C f ≡ class_at C g → ⊥
  pub linked : (g f : ℕ) → g < groups_in C → link_at C g ≡ suc f → class_at C f ≡ class_at C g
  pub heads : (h : ℕ) → h < 1024 → head_at C h ≤ groups_in C
  pub last : (h f : ℕ) → h < 1024 → head_at C h ≤ f → f < groups_in C → class_at C f ≡ h → ⊥
  pub headed : (h f : ℕ) → h < 1024 → head_at C h ≡ suc f → class_at C f ≡ h
  pub entries : (g k : ℕ) → g < groups_in C → k < fill_at C g → Entry S T C n g k
  pub placed : (w : ℕ) → w < n → Placed C w
  pub counted : 4 * groups_in C ≡ n + sum 1024 (λ h. room_at C h)

-- the first n nodes of table T are chained, no group is without entries, the block words are those of the nodes' open keys, and their rows have their
-- packs and their signatures
pub record Chained (S : ℕ) (T C : List ℕ) (n : ℕ) : Type 0 where
  pub long : length C ≡ 17696
  pub signs : (u : ℕ) → u < n → get_or (row_in S T u) 39 0 ≡ sign_of (node_in S T u).prices
  pub grouped : Grouped S T C n
  pub started : (g : ℕ) → g < groups_in C → 0 < fill_at C g
  pub blocks : Blocked C n
  pub packed : (u : ℕ) → u < n → Packed (row_in S T u)

-- ---- the node that dominates

-- u is one of the n nodes, and dominates m
pub record Dominating (S : ℕ) (T : List ℕ) (n : ℕ) (m : Node) (u : ℕ) : Type 0 where
  pub inside : u < n
  pub dominates : dominates (node_in S T u) m ≡ true

-- r is one of the n nodes, which dominates m; it is None only where none does
abbrev pub Dominator : ℕ → List ℕ → ℕ → Node → Option ℕ → Type 0
Dominator S T n m r = MatchOption r (any n (λ u. dominates (node_in S T u) m) ≡ false) (Dominating S T n m)

-- no entry of group g before place k dominates m
abbrev pub Missed : ℕ → List ℕ → List ℕ → Node → ℕ → ℕ → Type 0
Missed S T C m g k = (i : ℕ) → i < k → dominates (node_in S T (entry_at C g i)) m ≡ false

-- the entries of group g were tried: r is one that dominates m; it is None only where none does
abbrev pub Tried : ℕ → List ℕ → List ℕ → ℕ → Node → ℕ → Option ℕ → Type 0
Tried S T C n m g r = MatchOption r (Missed S T C m g (fill_at C g)) (Dominating S T n m)

-- a walk along the groups of m's class has come to `to`, one more than the next group: no entry of a group from there on dominates m
pub record Walked (S : ℕ) (T C : List ℕ) (m : Node) (to : ℕ) : Type 0 where
  pub low : to ≤ groups_in C
  pub none : (g : ℕ) → to ≤ g → g < groups_in C → Missed S T C m g (fill_at C g)
  pub class : (g : ℕ) → to ≡ suc g → class_at C g ≡ class_of m.spot
