-- Laws of the scan words: chains as nodes are linked and retired, and recent numbers. Assumes nothing.
use Rattle.std.specs.Prelude.{◌≡◌, refl, ◌⊎◌, true, false, List, ℕ, suc, ◌+◌, ◌-◌, ◌*◌, ◌/◌, ◌%◌, ◌≤◌, ◌<◌, length, get_or, set, drop}
use Rattle.std.proofs.Common.{sym, ap, ◌∙◌, inl, inr, not-suc-le-zero, ltb-true, get_or-set_other}
use native.Mathlib.Omega.{arith}
use Rattle.loops.specs.Count.Laws.{below_cases, test_cases}
use Rattle.task.specs.declared.Centre.{Centre}
use Rattle.leaf.specs.Price.{mark}
use Rattle.rows.specs.Row.{row_in, node_in, Packed}
use Rattle.rows.specs.Sign.{class_of, sign_of}
use Rattle.rows.specs.Sign.Laws.{class_lt}
use Rattle.blocks.specs.Block.{block_words, upper_words, Blocked, fresh_to, blocked_to, retired_to}
use Rattle.blocks.specs.Block.Laws.{under_same, blocked_none, fresh_length, fresh_other, fresh_block, drop_same, retired_length, retired_key, retired_behind, blocked_retire}
use Rattle.blocks.specs.Block.Stored.{block_length, block_key, block_old, blocked_link}
use Rattle.nodes.specs.Chain.{head_at, groups_in, word_at, class_at, fill_at, nodes_at, slot_of, has_room, group_for, with_group, opened_to, with_entry, joined_to, linked_to, Grouped, Chained}
use Rattle.nodes.specs.Chain.Groups.{room_some, room_head, group_last, group_new, SameGroups, grouped_none, grouped_words, grouped_same, open_other, open_groups, open_head, open_word, open_length, word_old, grouped_open, join_length, join_before, join_between, started_join, grouped_join}
use Rattle.nodes.specs.Chain.Room.{free_full, groups_few}

-- ---- chains

-- no node
pub chained_none : (S : ℕ) (T C : List ℕ) → length C ≡ 17696 → ((h : ℕ) → h < 1025 → head_at C h ≡ 0) → ((b : ℕ) → b < 272 → get_or C (7184 + b) 0 ≡ mark)
    → Chained S T C 0
chained_none S T C l z m = record {
  long = l;
  signs = λ u h. absurd (not-suc-le-zero h);
  grouped = grouped_none S T C z;
  started = λ g l. absurd (omega (arith, z 1024 (omega arith)));
  blocks = blocked_none C m;
  packed = λ u h. absurd (not-suc-le-zero h);
}

-- no node, after all block words are set to the mark
pub chained_fresh : (S : ℕ) (T C : List ℕ) → length C ≡ 17696 → ((h : ℕ) → h < 1025 → head_at C h ≡ 0) → Chained S T (fresh_to C 272) 0
chained_fresh S T C l z =
    chained_none S T (fresh_to C 272) (fresh_length C 272 ∙ l) (λ h b. fresh_other C 272 (6144 + h) (omega arith) ∙ z h b)
    (λ b k. fresh_block C 272 b (omega arith) k)

-- groups are the same, and the block words are right
chained_words : (S : ℕ) (T C C' : List ℕ) (n : ℕ) → n ≤ 4096 → length C' ≡ length C → ((i : ℕ) → 4096 ≤ i → i < 7184 → get_or C' i 0 ≡ get_or C i 0)
    → ((i : ℕ) → 7456 ≤ i → i < 17696 → get_or C' i 0 ≡ get_or C i 0) → Blocked C' n → Chained S T C n → Chained S T C' n
chained_words S T C C' n few l s f k r = record {
  long = l ∙ r.long;
  signs = r.signs;
  grouped =
      grouped_words S T C C' n (omega (arith, groups_few S T C n few r)) (record { chains = λ i a. s i (omega arith); members = f }) r.grouped;
  started = λ g b. let known : g < groups_in C = omega (arith, s 7168 (omega arith) (omega arith)) in
      omega (arith, s (4096 + g) (omega arith) (omega (arith, groups_few S T C n few r)), r.started g known);
  blocks = k;
  packed = r.packed;
}

-- a node is retired
pub chained_retire : (S : ℕ) (T C : List ℕ) (n u : ℕ) → n ≤ 4096 → u < n → Chained S T C n → Chained S T (retired_to C u n) n
chained_retire S T C n u few inside r =
    chained_words S T C (retired_to C u n) n few (retired_length C u n)
    (λ i l h. retired_key C u n i h ∙ get_or-set_other C u i mark 0 (λ e. omega arith)) (λ i l h. retired_behind C u n i (omega arith) l)
    (blocked_retire C u n r.long few inside r.blocks) r

-- ---- recent numbers

-- the place of one is below 4,096
pub slot_lt : (h s : ℕ) → slot_of h s < 4096
unfolding slot_of
slot_lt h s = omega arith

-- ---- another table

-- another table with the same rows
pub chained_same : (S : ℕ) (T T' C : List ℕ) (n : ℕ) → ((u : ℕ) → u < n → row_in S T' u ≡ row_in S T u) → Chained S T C n → Chained S T' C n
chained_same S T T' C n s r = record {
  long = r.long;
  signs = λ u h. rw (s u h) (r.signs u h);
  grouped = grouped_same S T T' C n s r.grouped;
  started = r.started;
  blocks = r.blocks;
  packed = λ u h. rw (s u h) (r.packed u h);
}

-- ---- a node's key is stored

-- groups are as they were
same_groups : (C : List ℕ) (n key : ℕ) → length C ≡ 17696 → n < 4096 → SameGroups C (blocked_to C n key)
same_groups C n key long few = record {
  chains = λ i a b. block_old C n key long few i (omega arith) (λ e. omega arith) (λ e. omega arith);
  members = λ i a b. block_old C n key long few i (omega arith) (λ e. omega arith) (λ e. omega arith);
}

-- ---- the group that it goes to

-- a group for the next node of class h is there, and has room
pub record Ready (S : ℕ) (T C : List ℕ) (n h : ℕ) (D : List ℕ) (g : ℕ) : Type 0 where
  pub kept : length D ≡ length C
  pub same : (i : ℕ) → i < 4096 → get_or D i 0 ≡ get_or C i 0
  pub words : (i : ℕ) → 7184 ≤ i → i < 7456 → get_or D i 0 ≡ get_or C i 0
  pub few : groups_in D ≤ groups_in C + 1
  pub known : g < groups_in D
  pub room : fill_at D g < 4
  pub own : class_at D g ≡ h
  pub end : head_at D h ≡ suc g
  pub others : (f : ℕ) → f < groups_in D → (f ≡ g → ⊥) → 0 < fill_at D f
  pub grouped : Grouped S T D n

module _ (S : ℕ) (T C : List ℕ) (n h : ℕ) (long : length C ≡ 17696) (few : groups_in C < 2048) (small : h < 1024) (r : Grouped S T C n)
    (started : (f : ℕ) → f < groups_in C → 0 < fill_at C f) where
  -- it is the last of the class
  ready_last : has_room C (head_at C h) ≡ true → Ready S T C n h C ((head_at C h - 1) % 2048)
  ready_last e =
      let some = room_head C (head_at C h) e in
      let top = r.heads h small in
      let is : head_at C h ≡ suc ((head_at C h - 1) % 2048) = omega arith in
      record {
        kept = refl;
        same = λ i l. refl;
        words = λ i a l. refl;
        few = omega arith;
        known = omega arith;
        room = ltb-true _ 4 (sym (room_some C (head_at C h) (λ z. omega arith)) ∙ e);
        own = r.headed h ((head_at C h - 1) % 2048) small is;
        end = is;
        others = λ f l d. started f l;
        grouped = r;
      }

  -- it is new
  ready_new : has_room C (head_at C h) ≡ false → Ready S T C n h (with_group C h (groups_in C % 2048)) (groups_in C % 2048)
  unfolding with_group
  ready_new e =
      let is : groups_in C % 2048 ≡ groups_in C = omega arith in
      let word = open_word S T C n h long few small r in
      let more = open_groups S T C n h long few small r in
      rw is
      (record {
        kept = open_length S T C n h long few small r;
        same = λ i l. open_other S T C n h long few small r i (λ e. omega arith) (λ e. omega arith) (λ e. omega arith);
        words = λ i a l. open_other S T C n h long few small r i (λ e. omega arith) (λ e. omega arith) (λ e. omega arith);
        few = omega (arith, more);
        known = omega (arith, more);
        room = rw word (omega arith);
        own = rw word (omega arith);
        end = omega (arith, open_head S T C n h long few small r);
        others = λ f l d. let b : f < groups_in C = omega (arith, more) in omega (arith, word_old S T C n h long few small r f b, started f b);
        grouped = grouped_open S T C n h long few small r (free_full C (head_at C h) (omega (arith, r.heads h small)) e);
      })

  ready : Ready S T C n h (opened_to C h) (group_for C h)
  ready = go (test_cases (has_room C (head_at C h)))
    where
      go : (has_room C (head_at C h) ≡ true) ⊎ (has_room C (head_at C h) ≡ false) → Ready S T C n h (opened_to C h) (group_for C h)
      go (inl e) = rw ((group_last C h e).0, (group_last C h e).1) (ready_last e)
      go (inr e) = rw ((group_new C h e).0, (group_new C h e).1) (ready_new e)

-- ---- a node is linked

-- neither a new group nor an entry is among the open keys
group_key : (C : List ℕ) (h g u : ℕ) → u < 4096 → get_or (with_group C h g) u 0 ≡ get_or C u 0
unfolding with_group
group_key C h g u b =
    get_or-set_other (set (set C (4096 + g) (h * 8 * 65536 + head_at C h % 65536)) (6144 + h) (g + 1)) 7168 u (g + 1) 0 (λ e. omega arith)
    ∙ get_or-set_other (set C (4096 + g) (h * 8 * 65536 + head_at C h % 65536)) (6144 + h) u (g + 1) 0 (λ e. omega arith)
    ∙ get_or-set_other C (4096 + g) u (h * 8 * 65536 + head_at C h % 65536) 0 (λ e. omega arith)

opened_key : (C : List ℕ) (h u : ℕ) → u < 4096 → get_or (opened_to C h) u 0 ≡ get_or C u 0
opened_key C h u b = go (test_cases (has_room C (head_at C h)))
  where
    go : (has_room C (head_at C h) ≡ true) ⊎ (has_room C (head_at C h) ≡ false) → get_or (opened_to C h) u 0 ≡ get_or C u 0
    go (inl e) = ap (λ (D : List ℕ). get_or D u 0) (group_last C h e).1
    go (inr e) = ap (λ (D : List ℕ). get_or D u 0) (group_new C h e).1 ∙ group_key C h (groups_in C % 2048) u b

joined_key : (C : List ℕ) (g n s u : ℕ) → u < 4096 → get_or (joined_to C g n s) u 0 ≡ get_or C u 0
unfolding joined_to
joined_key C g n s u b =
    get_or-set_other (set (set C (7456 + 4 * g + word_at C g / 65536 % 4) s) (15648 + g) (with_entry (nodes_at C g) (word_at C g / 65536 % 4) n)) (4096 + g) u (word_at C g % 4294967296 + 65536) 0 (λ e. omega arith)
    ∙ get_or-set_other (set C (7456 + 4 * g + word_at C g / 65536 % 4) s) (15648 + g) u (with_entry (nodes_at C g) (word_at C g / 65536 % 4) n) 0 (λ e. omega arith)
    ∙ get_or-set_other C (7456 + 4 * g + word_at C g / 65536 % 4) u s 0 (λ e. omega arith)

-- of the open keys only the node's is stored
pub linked_key : (C : List ℕ) (n key s h u : ℕ) → u < 4096 → get_or (linked_to C n key s h) u 0 ≡ get_or (set C n key) u 0
unfolding linked_to
linked_key C n key s h u b = joined_key (opened_to (blocked_to C n key) h) (group_for (blocked_to C n key) h) n s u b ∙ opened_key (blocked_to C n key) h u b ∙ block_key C n key u b

-- node n of the table is linked behind the first n
module _ (S : ℕ) (T C : List ℕ) (n key : ℕ) (few : n < 4096) (own : Packed (row_in S T n)) (signed : get_or (row_in S T n) 39 0 ≡ sign_of (node_in S T n).prices)
    (r : Chained S T C n) where
  abbrev sign : ℕ
  sign = sign_of (node_in S T n).prices

  abbrev class : ℕ
  class = class_of (node_in S T n).spot

  abbrev mid : List ℕ
  mid = blocked_to C n key

  mid_long : length mid ≡ 17696
  mid_long = block_length C n key ∙ r.long

  mid_groups : groups_in mid ≡ groups_in C
  mid_groups = (same_groups C n key r.long few).chains 7168 (omega arith) (omega arith)

  few_old : groups_in C ≤ 1792
  few_old = groups_few S T C n (omega arith) r

  got : Ready S T mid n class (opened_to mid class) (group_for mid class)
  got =
      ready S T mid n class mid_long (omega (arith, mid_groups, few_old)) (class_lt (node_in S T n).spot)
      (grouped_words S T C mid n (omega (arith, few_old)) (same_groups C n key r.long few) r.grouped)
      (λ f l. let b : f < groups_in C = omega (arith, mid_groups) in
      omega (arith, (same_groups C n key r.long few).chains (4096 + f) (omega arith) (omega (arith, few_old)), r.started f b))

  abbrev E : List ℕ
  E = opened_to mid class

  abbrev g : ℕ
  g = group_for mid class

  E-long : length E ≡ 17696
  E-long = got.kept ∙ mid_long

  E-few : groups_in E ≤ 1793
  E-few = omega (arith, got.few, mid_groups, few_old)

  -- a word before the groups
  word_same : (i : ℕ) → i < 4096 → get_or (linked_to C n key sign class) i 0 ≡ get_or mid i 0
  unfolding linked_to
  word_same i l =
      join_before S T E n g few E-long (omega (arith, E-few)) got.known got.room got.own got.grouped i (omega arith) ∙ got.same i l

  -- a block word or an upper word
  block_same : (i : ℕ) → 7184 ≤ i → i < 7456 → get_or (linked_to C n key sign class) i 0 ≡ get_or mid i 0
  unfolding linked_to
  block_same i a l =
      join_between S T E n g few E-long (omega (arith, E-few)) got.known got.room got.own got.grouped i (omega arith) l ∙ got.words i a l

  signs_more : (u : ℕ) → u < suc n → get_or (row_in S T u) 39 0 ≡ sign_of (node_in S T u).prices
  signs_more u b = go (below_cases b)
    where
      go : (u < n) ⊎ (u ≡ n) → get_or (row_in S T u) 39 0 ≡ sign_of (node_in S T u).prices
      go (inl l) = r.signs u l
      go (inr e) = rw e signed

  blocks_more : Blocked (linked_to C n key sign class) (suc n)
  blocks_more =
      let k = blocked_link C n key r.long few r.blocks in
      let D = linked_to C n key sign class in
      record {
        keys = under_same mid (block_words mid) D (block_words D) 256 (suc n) (omega arith) (λ u l. word_same u (omega arith)) (λ b l. word 7184 b (omega arith) (omega arith)) k.keys;
        words =
            under_same (block_words mid) (upper_words mid) (block_words D) (upper_words D) 16 256 (omega arith) (λ b l. word 7184 b (omega arith) (omega arith))
            (λ b l. word 7440 b (omega arith) (omega arith)) k.words;
      }
    where
      word : (at b : ℕ) → 7184 ≤ at → at + b < 7456 → get_or (drop at (linked_to C n key sign class)) b 0 ≡ get_or (drop at mid) b 0
      word at b a l = drop_same mid (linked_to C n key sign class) at b (block_same (at + b) (omega arith) l)

  packed_more : (u : ℕ) → u < suc n → Packed (row_in S T u)
  packed_more u b = go (below_cases b)
    where
      go : (u < n) ⊎ (u ≡ n) → Packed (row_in S T u)
      go (inl l) = r.packed u l
      go (inr e) = rw e own

  chained_link : Chained S T (linked_to C n key (sign_of (node_in S T n).prices) (class_of (node_in S T n).spot)) (suc n)
  unfolding linked_to
  chained_link = record {
    long = join_length S T E n g few E-long (omega (arith, E-few)) got.known got.room got.own got.grouped ∙ E-long;
    signs = signs_more;
    grouped =
        grouped_join S T E n g few E-long (omega (arith, E-few)) got.known got.room got.own got.grouped
        (ap (λ (h : ℕ). head_at E h) got.own ∙ got.end);
    started = started_join S T E n g few E-long (omega (arith, E-few)) got.known got.room got.own got.grouped got.others;
    blocks = blocks_more;
    packed = packed_more;
  }

-- node n, of centre state c and prices P, is linked; its row has its packs and its signature, and the table's rows before it are the same
pub chained_more : (S : ℕ) (T T' C : List ℕ) (n key : ℕ) (c : Centre) (P : List ℕ) → n < 4096 → ((u : ℕ) → u < n → row_in S T' u ≡ row_in S T u)
    → (node_in S T' n).spot ≡ c → (node_in S T' n).prices ≡ P → Packed (row_in S T' n)
    → get_or (row_in S T' n) 39 0 ≡ sign_of P → Chained S T C n
    → Chained S T' (linked_to C n key (sign_of P) (class_of c)) (suc n)
chained_more S T T' C n key c P few same p q own signed r =
    rw (← p, ← q) (chained_link S T' C n key few own (signed ∙ ap sign_of (sym q)) (chained_same S T T' C n same r))
