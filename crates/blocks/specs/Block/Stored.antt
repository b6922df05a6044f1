-- Laws of the scan words after the key of one node more is stored. Assumes nothing.
use Rattle.std.specs.Prelude.{◌≡◌, List, length, get_or, set, drop}
use Rattle.std.proofs.Common.{sym, ◌∙◌, arith, get_or-set_same, get_or-set_other}
use Rattle.std.proofs.Math.Path.{ap}
use Prim.Native.Nat.{ℕ, suc, ◌+◌, ◌/◌, ◌≤◌, ◌<◌, min}
use Rattle.std.proofs.Math.ListN.{length-set}
use Rattle.std.proofs.Math.Seq.{get_or-drop}
use Rattle.blocks.specs.Block.{block_words, upper_words, Blocked, lowered_to, blocked_to}
use Rattle.blocks.specs.Block.Laws.{under_lowered, drop_same, lowered_length, lowered_other, lowered_here}

module _ (C : List ℕ) (n key : ℕ) where
  abbrev stored : List ℕ
  stored = set C n key

  abbrev half : List ℕ
  half = lowered_to stored (7184 + n / 16) key

  abbrev B : List ℕ
  B = blocked_to C n key

  half_length : length half ≡ length C
  half_length = lowered_length stored (7184 + n / 16) key ∙ simp length-set

  -- the scan words stay as many
  pub block_length : length B ≡ length C
  unfolding blocked_to
  block_length = lowered_length half (7440 + n / 16 / 16) key ∙ half_length

  -- but for the key, its block's word and the upper word they are the same
  block_but : (i : ℕ) → (i ≡ 7184 + n / 16 → ⊥) → (i ≡ 7440 + n / 16 / 16 → ⊥) → get_or B i 0 ≡ get_or stored i 0
  unfolding blocked_to
  block_but i d f = lowered_other half (7440 + n / 16 / 16) key i f ∙ lowered_other stored (7184 + n / 16) key i d

  -- of the open keys only the node's is stored
  pub block_key : (u : ℕ) → u < 4096 → get_or B u 0 ≡ get_or (set C n key) u 0
  block_key u b = block_but u (λ e. omega arith) (λ e. omega arith)

  module _ (long : length C ≡ 17696) (few : n < 4096) where
    -- but for its block's word and the upper word, what is behind the open keys is as it was
    pub block_old : (i : ℕ) → 4096 ≤ i → (i ≡ 7184 + n / 16 → ⊥) → (i ≡ 7440 + n / 16 / 16 → ⊥) → get_or B i 0 ≡ get_or C i 0
    block_old i b d f = block_but i d f ∙ get_or-set_other C n i key 0 (λ e. omega arith)

    -- the other words of blocks and upper words, as those from a place on
    block_at : (at b : ℕ) → 7184 ≤ at → at + b < 7456 → (at + b ≡ 7184 + n / 16 → ⊥) → (at + b ≡ 7440 + n / 16 / 16 → ⊥)
        → get_or (drop at B) b 0 ≡ get_or (drop at C) b 0
    block_at at b l i d f = drop_same C B at b (block_old (at + b) (omega arith) d f)

    -- so the words of the other blocks
    block_words_lem : (b : ℕ) → b < 256 → (b ≡ n / 16 → ⊥) → get_or (block_words B) b 0 ≡ get_or (block_words C) b 0
    block_words_lem b l d = block_at 7184 b (omega arith) (omega arith) (λ e. d (omega arith)) (λ e. omega arith)

    -- a word from the block words on, before it is lowered
    stored_word : (at b : ℕ) → 7184 ≤ at → get_or stored (at + b) 0 ≡ get_or (drop at C) b 0
    stored_word at b l =
        get_or-set_other C n (at + b) key 0 (λ e. omega arith) ∙ sym (get_or-drop at C b 0)

    -- the word of its block
    block_word : get_or (block_words B) (n / 16) 0 ≡ min (get_or (block_words C) (n / 16) 0) key
    unfolding blocked_to
    block_word =
        get_or-drop 7184 B (n / 16) 0
        ∙ lowered_other half (7440 + n / 16 / 16) key (7184 + n / 16) (λ e. omega arith)
        ∙ lowered_here stored (7184 + n / 16) key (simp length-set (omega arith))
        ∙ ap (λ (i : ℕ). min i key) (stored_word 7184 (n / 16) (omega arith))

    -- the upper word
    block_upper : get_or (upper_words B) (n / 16 / 16) 0 ≡ min (get_or (upper_words C) (n / 16 / 16) 0) key
    unfolding blocked_to
    block_upper =
        get_or-drop 7440 B (n / 16 / 16) 0
        ∙ lowered_here half (7440 + n / 16 / 16) key (omega (arith, half_length))
        ∙ ap (λ (i : ℕ). min i key)
        (lowered_other stored (7184 + n / 16) key (7440 + n / 16 / 16) (λ e. omega arith) ∙ stored_word 7440 (n / 16 / 16) (omega arith))

    -- the open keys of the nodes before it, and its own
    key_old : (u : ℕ) → u < n → get_or B u 0 ≡ get_or C u 0
    key_old u l = block_key u (omega arith) ∙ get_or-set_other C n u key 0 (λ e. omega arith)

    key_new : get_or B n 0 ≡ key
    key_new = block_key n few ∙ get_or-set_same C n key 0 (omega arith)

    -- the block words are right again
    pub blocked_link : Blocked C n → Blocked B (suc n)
    blocked_link r = record {
      keys =
          under_lowered C (block_words C) B (block_words B) 256 n (suc n) n
          (record { keys = λ u l d. key_old u (omega arith); words = block_words_lem; old = λ u l d. omega arith; kept = omega arith; few = omega arith })
          r.keys key (omega arith) block_word (λ l. absurd (omega arith)) (λ _. key_new);
      words =
          under_lowered (block_words C) (upper_words C) (block_words B) (upper_words B) 16 256 256 (n / 16)
          (record { keys = block_words_lem; words = λ g l d. block_at 7440 g (omega arith) (omega arith) (λ e. omega arith) (λ e. d (omega arith)); old = λ u l d. l; kept = omega arith; few = omega arith })
          r.words key (omega arith) block_upper (λ _. block_word) (λ l. absurd (omega arith));
    }
