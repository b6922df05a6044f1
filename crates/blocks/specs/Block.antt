-- The blocks of the scan words, in two levels. A block word for each 16 nodes, 256 words at 7184 + b: the least open key of the nodes 16 b to
-- 16 b + 15, the mark if there is none below it. An upper word for each 16 blocks, 16 words at 7440 + g: the least of the block words 16 g to
-- 16 g + 15.
pub mod Laws
pub mod Stored
use Rattle.std.specs.Prelude.{◌≡◌, ◌⊎◌, Option, None, Some, MatchOption, List, ℕ, zero, suc, ◌+◌, ◌-◌, ◌*◌, ◌/◌, ◌≤◌, ◌<◌, min, get_or, set, drop}
use Rattle.leaf.specs.Price.{mark}
use Rattle.blocks.specs.Choice.{key_of, choose_by}

-- ---- words of blocks of 16 keys

-- how many of n keys are in block b
abbrev pub block_size : ℕ → ℕ → ℕ
block_size n b = min 16 (n - b * 16)

-- the least of the first n keys, the mark if there is none below it
unfoldable pub least_in : List ℕ → ℕ → ℕ
least_in K n = key_of mark K (choose_by mark K n)

-- the least of those of n keys that are in block b
abbrev pub least_of_block : List ℕ → ℕ → ℕ → ℕ
least_of_block K n b = least_in (drop (b * 16) K) (block_size n b)

-- none of the first n keys is w
abbrev pub NoneIs : List ℕ → ℕ → ℕ → Type 0
NoneIs K n w = (i : ℕ) → i < n → get_or K i 0 ≡ w → ⊥

-- k is the first of n keys that is w
pub record FirstOf (K : List ℕ) (n w k : ℕ) : Type 0 where
  pub inside : k < n
  pub before : NoneIs K k w
  pub here : get_or K k 0 ≡ w

-- r is the first of n keys that is w; it is None only where none is
abbrev pub Found : List ℕ → ℕ → ℕ → Option ℕ → Type 0
Found K n w r = MatchOption r (NoneIs K n w) (FirstOf K n w)

-- u is the first of those of n keys that are in block b and are w
pub record FirstInBlock (K : List ℕ) (n b w u : ℕ) : Type 0 where
  pub place : ℕ
  pub is : u ≡ b * 16 + place
  pub first : FirstOf (drop (b * 16) K) (block_size n b) w place

-- the place in two parts that stand one behind the other, m in the first of them: that of the first part, else that of the second behind it
abbrev pub joined_by : Option ℕ → ℕ → Option ℕ → Option ℕ
joined_by None m None = None
joined_by None m (Some b) = Some (m + b)
joined_by (Some a) m r = Some a

-- r is the least of the n words from place f on
pub record LeastFrom (C : List ℕ) (f n r : ℕ) : Type 0 where
  pub lower : (k : ℕ) → k < n → r ≤ get_or C (f + k) 0
  pub place : ℕ
  pub inside : place < n
  pub there : get_or C (f + place) 0 ≡ r

-- one of the first n keys is in block b and is k
pub record Held (K : List ℕ) (n b k : ℕ) : Type 0 where
  pub node : ℕ
  pub inside : node < n
  pub block : node / 16 ≡ b
  pub key : get_or K node 0 ≡ k

-- the words W of m blocks of the first n keys: none is above a key of its block, and each is the mark or such a key
pub record Under (K W : List ℕ) (m n : ℕ) : Type 0 where
  pub lower : (u : ℕ) → u < n → get_or W (u / 16) 0 ≤ get_or K u 0
  pub held : (b : ℕ) → b < m → (get_or W b 0 ≡ mark) ⊎ Held K n b (get_or W b 0)

-- ---- the two levels

-- the block words, and what stands behind them
abbrev pub block_words : List ℕ → List ℕ
block_words C = drop 7184 C

-- the upper words, and what stands behind them
abbrev pub upper_words : List ℕ → List ℕ
upper_words C = drop 7440 C

-- the block words are those of the open keys of the first n nodes, the upper words those of the block words
pub record Blocked (C : List ℕ) (n : ℕ) : Type 0 where
  pub keys : Under C (block_words C) 256 n
  pub words : Under (block_words C) (upper_words C) 16 256

-- ---- what is stored

-- the scan words after the first b block words are set to the mark; the upper words are the last 16 of 272
unfoldable pub fresh_to : List ℕ → ℕ → List ℕ
fresh_to C zero = C
fresh_to C (suc b) = set (fresh_to C b) (7184 + b) mark

-- the word at i is no higher than the key
unfoldable pub lowered_to : List ℕ → ℕ → ℕ → List ℕ
lowered_to C i key = set C i (min (get_or C i 0) key)

-- the key of node n is stored, and its block's word is no higher than its key, nor is the upper word
unfoldable pub blocked_to : List ℕ → ℕ → ℕ → List ℕ
blocked_to C n key = lowered_to (lowered_to (set C n key) (7184 + n / 16) key) (7440 + n / 16 / 16) key

-- the word of block b, of the words that begin at `at`, is the least key of the block; the n keys begin at `from`
unfoldable pub raised_to : List ℕ → ℕ → ℕ → ℕ → ℕ → List ℕ
raised_to C from at n b = set C (at + b) (least_of_block (drop from C) n b)

-- the scan words after node u of n nodes is retired: its open key is the mark, its block's word the least open key that is left, and the upper word
-- the least block word
unfoldable pub retired_to : List ℕ → ℕ → ℕ → List ℕ
retired_to C u n = raised_to (raised_to (set C u mark) 0 7184 n (u / 16)) 7184 7440 256 (u / 16 / 16)
