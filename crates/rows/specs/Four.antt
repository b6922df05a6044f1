-- Four words stored side by side in a list, and what stands there then.
use Rattle.std.specs.Prelude.{◌≡◌, List, ℕ, ◌+◌, ◌≤◌, ◌<◌, length, get_or, set}
use Rattle.std.proofs.Common.{◌∙◌, arith}
use Rattle.std.proofs.Math.ListN.{length-set}
use Rattle.std.proofs.Math.Seq.{get_or-set_same, get_or-set_other}

-- the words a, b, c and d stored from place i on
unfoldable pub four_to : List ℕ → ℕ → ℕ → ℕ → ℕ → ℕ → List ℕ
four_to C i a b c d = set (set (set (set C i a) (i + 1) b) (i + 2) c) (i + 3) d

module _ (C : List ℕ) (i a b c d : ℕ) where
  -- the list stays as long
  pub four_length : length (four_to C i a b c d) ≡ length C
  unfolding four_to
  four_length = simp length-set

  -- the four words
  pub four_first : i + 4 ≤ length C → get_or (four_to C i a b c d) i 0 ≡ a
  unfolding four_to
  four_first room =
      get_or-set_other (set (set (set C i a) (i + 1) b) (i + 2) c) (i + 3) i d 0 (λ e. omega arith)
      ∙ get_or-set_other (set (set C i a) (i + 1) b) (i + 2) i c 0 (λ e. omega arith)
      ∙ get_or-set_other (set C i a) (i + 1) i b 0 (λ e. omega arith)
      ∙ get_or-set_same C i a 0 (omega arith)

  pub four_second : i + 4 ≤ length C → get_or (four_to C i a b c d) (i + 1) 0 ≡ b
  unfolding four_to
  four_second room =
      get_or-set_other (set (set (set C i a) (i + 1) b) (i + 2) c) (i + 3) (i + 1) d 0 (λ e. omega arith)
      ∙ get_or-set_other (set (set C i a) (i + 1) b) (i + 2) (i + 1) c 0 (λ e. omega arith)
      ∙ get_or-set_same (set C i a) (i + 1) b 0 (simp length-set (omega arith))

  pub four_third : i + 4 ≤ length C → get_or (four_to C i a b c d) (i + 2) 0 ≡ c
  unfolding four_to
  four_third room =
      get_or-set_other (set (set (set C i a) (i + 1) b) (i + 2) c) (i + 3) (i + 2) d 0 (λ e. omega arith)
      ∙ get_or-set_same (set (set C i a) (i + 1) b) (i + 2) c 0 (simp length-set (omega arith))

  pub four_fourth : i + 4 ≤ length C → get_or (four_to C i a b c d) (i + 3) 0 ≡ d
  unfolding four_to
  four_fourth room = get_or-set_same (set (set (set C i a) (i + 1) b) (i + 2) c) (i + 3) d 0 (simp length-set (omega arith))

  -- the words before them are as they were
  pub four_before : (v : ℕ) → v < i → get_or (four_to C i a b c d) v 0 ≡ get_or C v 0
  unfolding four_to
  four_before v h =
      get_or-set_other (set (set (set C i a) (i + 1) b) (i + 2) c) (i + 3) v d 0 (λ e. omega arith)
      ∙ get_or-set_other (set (set C i a) (i + 1) b) (i + 2) v c 0 (λ e. omega arith)
      ∙ get_or-set_other (set C i a) (i + 1) v b 0 (λ e. omega arith)
      ∙ get_or-set_other C i v a 0 (λ e. omega arith)
