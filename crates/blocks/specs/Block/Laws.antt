-- Laws of the block words: as nodes are linked and retired, and the choice by blocks. Assumes nothing.
use Rattle.std.specs.Prelude.{◌≡◌, refl, ◌⊎◌, Option, None, Some, MatchOption, List, [], ◌∷◌, ◌++◌, ℕ, zero, suc, ◌+◌, ◌-◌, ◌*◌, ◌/◌, ◌≤◌, ◌<◌, min, length, get_or, set, take, drop, replicate}
use Rattle.std.proofs.Common.{sym, ap, ◌∙◌, inl, inr, not-suc-le-zero, add-one, append_assoc, arith, drop-drop, drop-cons, length-append, take-append-drop, get_or-take, length-take-le, length-drop}
use lib.Seq.{set_at}
use Rattle.std.proofs.lemmas.List.{length-replicate, replicate_more}
use Rattle.std.proofs.Math.Decide.{ℕ_discrete, dec_le, dec_lt}
use Rattle.std.proofs.Math.ListN.{length-set}
use Rattle.std.proofs.Math.Seq.{get_or-set_same, get_or-set_other, get_or-drop}
use Rattle.loops.specs.Count.Laws.{below_cases}
use Rattle.leaf.specs.Price.{mark}
use Rattle.search.specs.Node.{least_of}
use Rattle.keys.specs.Scan.Laws.{least_more}
use Rattle.blocks.specs.Choice.{key_of, choose_by, NoneBelow, Picked, Choice}
use Rattle.blocks.specs.Choice.Laws.{choose_here, choose_kept, key_next, choose_cases, choose_none, choose_first, choose_picked, choose_fewer, none_chosen, none_same, picked_same}
use Rattle.blocks.specs.Block.{block_size, least_in, least_of_block, NoneIs, FirstOf, Found, FirstInBlock, joined_by, LeastFrom, Held, Under, block_words, upper_words, Blocked, fresh_to, lowered_to, raised_to, retired_to}

-- ---- the least key

module _ (K : List ℕ) (n : ℕ) where
  -- the least key by the choice
  pub least_none : choose_by mark K n ≡ 0 → least_in K n ≡ mark
  unfolding least_in key_of
  least_none e = rw e

  pub least_some : (i : ℕ) → choose_by mark K n ≡ suc i → least_in K n ≡ get_or K i 0
  unfolding least_in key_of
  least_some i e = rw e

  -- no key is below it
  least_low : (w : ℕ) → w < n → least_in K n ≤ get_or K w 0
  least_low w l = go (choose_cases mark K n)
    where
      go : Choice mark K n (choose_by mark K n) → least_in K n ≤ get_or K w 0
      go (inl (e, none)) = omega (arith, least_none e, none w l)
      go (inr (u, (e, p))) = omega (arith, least_some u e, p.least w l)

  -- it is the mark or one of them
  least_cases : (least_in K n ≡ mark) ⊎ ((k : ℕ) × ((k < n) × (get_or K k 0 ≡ least_in K n)))
  least_cases = go (choose_cases mark K n)
    where
      go : Choice mark K n (choose_by mark K n) → (least_in K n ≡ mark) ⊎ ((k : ℕ) × ((k < n) × (get_or K k 0 ≡ least_in K n)))
      go (inl (e, _)) = inl (least_none e)
      go (inr (u, (e, p))) = inr (u, (p.inside, sym (least_some u e)))

-- a key more
least_in_more : (K : List ℕ) (n : ℕ) → least_in K (suc n) ≡ min (least_in K n) (get_or K n 0)
unfolding least_in
least_in_more K n = go (dec_lt (get_or K n 0) (key_of mark K (choose_by mark K n)))
  where
    go : Dec (get_or K n 0 < key_of mark K (choose_by mark K n))
        → key_of mark K (choose_by mark K (suc n)) ≡ min (key_of mark K (choose_by mark K n)) (get_or K n 0)
    go (yes l) = ap (key_of mark K) (rw add-one at (choose_here mark K n l)) ∙ rw add-one at (key_next mark K n) ∙ omega arith
    go (no d) = ap (key_of mark K) (rw add-one at (choose_kept mark K n (omega arith))) ∙ omega arith

-- it is the least of the first n keys as `least_of` counts it
pub least_in-is : (K : List ℕ) (n : ℕ) → n ≤ length K → least_in K n ≡ least_of (take n K)
unfolding least_of
least_in-is K zero l = least_none K 0 (choose_none mark K 0 (λ w b. absurd (not-suc-le-zero b)))
least_in-is K (suc n) l = rw (least_in_more K n, least_in-is K n (omega arith)) (sym (rw add-one at (least_more K n l)))

-- it depends on the first n keys
pub least_same : (K L : List ℕ) (n : ℕ) → ((w : ℕ) → w < n → get_or K w 0 ≡ get_or L w 0) → least_in K n ≡ least_in L n
unfolding least_in choose_by key_of
least_same K L zero same = refl
least_same K L (suc n) same = rw (least_in_more K n, least_in_more L n, least_same K L n (λ w l. same w (omega arith)), same n (omega arith))

-- ---- the least of some words

-- a word by itself
pub least_one : (C : List ℕ) (f : ℕ) → LeastFrom C f 1 (get_or C f 0)
least_one C f =
    let e : f + 0 ≡ f = omega arith in
    record { lower = λ k l. let z : f + k ≡ f = omega arith in rw z (omega arith); place = 0; inside = omega arith; there = rw e }

-- of two halves
least_two : (C : List ℕ) (f g m n a b : ℕ) → g ≡ f + m → LeastFrom C f m a → LeastFrom C g n b → LeastFrom C f (m + n) (min a b)
least_two C f g m n a b e p q = go (dec_lt b a)
  where
    here : (k : ℕ) → get_or C (f + (m + k)) 0 ≡ get_or C (g + k) 0
    here k = let z : f + (m + k) ≡ g + k = omega arith in rw z

    low : (k : ℕ) → k < m + n → min a b ≤ get_or C (f + k) 0
    low k l = pick (dec_lt k m)
      where
        pick : Dec (k < m) → min a b ≤ get_or C (f + k) 0
        pick (yes h) = omega (arith, p.lower k h)
        pick (no h) = let z : m + (k - m) ≡ k = omega arith in omega (arith, q.lower (k - m) (omega arith), rw z at (here (k - m)))

    go : Dec (b < a) → LeastFrom C f (m + n) (min a b)
    go (yes h) =
        record { lower = low; place = m + q.place; inside = omega (arith, q.inside); there = here q.place ∙ q.there ∙ omega arith }
    go (no h) = record { lower = low; place = p.place; inside = omega (arith, p.inside); there = p.there ∙ omega arith }

-- of four quarters
pub least_quarters : (C : List ℕ) (f g h i n a b c d : ℕ) → g ≡ f + n → h ≡ f + 2 * n → i ≡ f + 3 * n
    → LeastFrom C f n a → LeastFrom C g n b → LeastFrom C h n c → LeastFrom C i n d → LeastFrom C f (n + n + (n + n)) (min (min a b) (min c d))
least_quarters C f g h i n a b c d e k l p q r s =
    least_two C f h (n + n) (n + n) (min a b) (min c d) (omega arith) (least_two C f g n n a b e p q) (least_two C h i n n c d (omega arith) r s)

-- the least of words that are not above the mark is the least key
pub least_is : (C : List ℕ) (f n r : ℕ) → r ≤ mark → LeastFrom C f n r → r ≡ least_in (drop f C) n
least_is C f n r h p = go (least_cases (drop f C) n)
  where
    low : least_in (drop f C) n ≤ r
    low = omega (arith, least_low (drop f C) n p.place p.inside, get_or-drop f C p.place 0, p.there)

    go : (least_in (drop f C) n ≡ mark) ⊎ ((k : ℕ) × ((k < n) × (get_or (drop f C) k 0 ≡ least_in (drop f C) n))) → r ≡ least_in (drop f C) n
    go (inl e) = omega (arith, low)
    go (inr (k, (l, e))) = omega (arith, low, p.lower k l, get_or-drop f C k 0)

-- ---- the first place of a word

-- in two parts that stand one behind the other: that of the first part, else that of the second behind it
pub first_two : (K : List ℕ) (m n w : ℕ) (a b : Option ℕ) → Found K m w a → Found (drop m K) n w b → Found K (m + n) w (joined_by a m b)
first_two K m n w (Some a) b p q = record { inside = omega (arith, p.inside); before = p.before; here = p.here }
first_two K m n w None b p q = go b q
  where
    -- a word of the second part
    behind : (i : ℕ) → m ≤ i → get_or (drop m K) (i - m) 0 ≡ get_or K i 0
    behind i l = let z : m + (i - m) ≡ i = omega arith in get_or-drop m K (i - m) 0 ∙ ap (λ (k : ℕ). get_or K k 0) z

    early : (k : ℕ) → NoneIs (drop m K) k w → NoneIs K (m + k) w
    early k none i l e = here (dec_lt i m)
      where
        here : Dec (i < m) → ⊥
        here (yes h) = p i h e
        here (no h) = none (i - m) (omega arith) (behind i (omega arith) ∙ e)

    go : (b : Option ℕ) → Found (drop m K) n w b → Found K (m + n) w (joined_by None m b)
    go None none = early n none
    go (Some b) f = record { inside = omega (arith, f.inside); before = early b f.before; here = sym (get_or-drop m K b 0) ∙ f.here }

-- it depends on the first n keys
pub found_same : (K L : List ℕ) (n w : ℕ) (r : Option ℕ) → ((i : ℕ) → i < n → get_or L i 0 ≡ get_or K i 0) → Found K n w r → Found L n w r
found_same K L n w None same none = λ i l e. none i l (sym (same i l) ∙ e)
found_same K L n w (Some k) same p =
    record { inside = p.inside; before = λ i l e. p.before i l (sym (same i (omega (arith, p.inside))) ∙ e); here = same k p.inside ∙ p.here }

-- so in a slice of them
pub found_take : (K : List ℕ) (n w : ℕ) (r : Option ℕ) → n ≤ length K → Found (take n K) (length (take n K)) w r → Found K n w r
found_take K n w r l h = found_same (take n K) K n w r (λ i b. sym (get_or-take n K i 0 b)) (rw (length-take-le n K l) at h)

-- ---- the first n keys as a slice X

module _ (K X : List ℕ) (n : ℕ) (l : n ≤ length K) (is : X ≡ take n K) where
  part_long : length X ≡ n
  part_long = ap length is ∙ length-take-le n K l

  part_at : (i : ℕ) → i < n → get_or X i 0 ≡ get_or K i 0
  part_at i b = ap (λ (xs : List ℕ). get_or xs i 0) is ∙ get_or-take n K i 0 b

  -- a key of block b
  part_block : (b i : ℕ) → i < block_size n b → get_or (drop (b * 16) X) i 0 ≡ get_or (drop (b * 16) K) i 0
  part_block b i h = get_or-drop (b * 16) X i 0 ∙ part_at (b * 16 + i) (omega arith) ∙ sym (get_or-drop (b * 16) K i 0)

  -- the least key of a block, whose keys are the slice R
  pub least_part : (R : List ℕ) (b : ℕ) → b * 16 ≤ n → R ≡ take (block_size (length X) b) (drop (b * 16) X) → least_in R (length R) ≡ least_of_block K n b
  least_part R b h e =
      let part : R ≡ take (block_size n b) (drop (b * 16) X) = rw part_long at e in
      let wide : block_size n b ≤ length (drop (b * 16) X) = omega (arith, length-drop (b * 16) X, part_long) in
      let size : length R ≡ block_size n b = ap length part ∙ length-take-le (block_size n b) (drop (b * 16) X) wide in
      rw size
      (least_same R (drop (b * 16) K) (block_size n b)
      (λ i m. ap (λ (xs : List ℕ). get_or xs i 0) part ∙ get_or-take (block_size n b) (drop (b * 16) X) i 0 m ∙ part_block b i m))

  -- the first place of a key in a block
  pub first_part : (b w u : ℕ) → FirstInBlock X (length X) b w u → FirstInBlock K n b w u
  first_part b w u q =
      let f : FirstOf (drop (b * 16) X) (block_size n b) w q.place = rw part_long at q.first in
      record { place = q.place; is = q.is; first = found_same (drop (b * 16) X) (drop (b * 16) K) (block_size n b) w (Some q.place) (λ i m. sym (part_block b i m)) f }

  -- where one is among the keys, one is in the slice
  pub there_part : (b w : ℕ) → (NoneIs (drop (b * 16) K) (block_size n b) w → ⊥) → NoneIs (drop (b * 16) X) (block_size (length X) b) w → ⊥
  there_part b w some none = some (λ i m e. none i (rw part_long m) (part_block b i m ∙ e))

-- ---- the keys of a block

-- a key, as that of its block's
block_key : (K : List ℕ) (b u : ℕ) → u / 16 ≡ b → get_or (drop (b * 16) K) (u - b * 16) 0 ≡ get_or K u 0
block_key K b u e =
    let s : b * 16 + (u - b * 16) ≡ u = omega arith in
    get_or-drop (b * 16) K (u - b * 16) 0 ∙ ap (λ (i : ℕ). get_or K i 0) s

module _ (K : List ℕ) (n : ℕ) where
  -- none is below the least of them
  block_low : (b u : ℕ) → u < n → u / 16 ≡ b → least_of_block K n b ≤ get_or K u 0
  block_low b u l e = omega (arith, least_low (drop (b * 16) K) (block_size n b) (u - b * 16) (omega arith), block_key K b u e)

  -- the least of them is the mark or one of them
  block_held : (b : ℕ) → (least_of_block K n b ≡ mark) ⊎ Held K n b (least_of_block K n b)
  block_held b = go (least_cases (drop (b * 16) K) (block_size n b))
    where
      go : (least_of_block K n b ≡ mark) ⊎ ((k : ℕ) × ((k < block_size n b) × (get_or (drop (b * 16) K) k 0 ≡ least_of_block K n b)))
          → (least_of_block K n b ≡ mark) ⊎ Held K n b (least_of_block K n b)
      go (inl e) = inl e
      go (inr (k, (l, e))) =
          inr (record { node = b * 16 + k; inside = omega arith; block = omega arith; key = sym (get_or-drop (b * 16) K k 0) ∙ e })

-- ---- one key changes

-- the other keys and the words of the other blocks are the same, and none of those keys is new
pub record Touched (K W K' W' : List ℕ) (m n n' i : ℕ) : Type 0 where
  pub keys : (u : ℕ) → u < n' → (u ≡ i → ⊥) → get_or K' u 0 ≡ get_or K u 0
  pub words : (b : ℕ) → b < m → (b ≡ i / 16 → ⊥) → get_or W' b 0 ≡ get_or W b 0
  pub old : (u : ℕ) → u < n' → (u ≡ i → ⊥) → u < n
  pub kept : n ≤ n'
  pub few : n' ≤ 16 * m

module _ (K W K' W' : List ℕ) (m n n' i : ℕ) (a : Touched K W K' W' m n n' i) (r : Under K W m n) where
  -- the words are right again if that of the block is
  pub under_change : ((u : ℕ) → u < n' → u / 16 ≡ i / 16 → get_or W' (i / 16) 0 ≤ get_or K' u 0)
      → (i / 16 < m → (get_or W' (i / 16) 0 ≡ mark) ⊎ Held K' n' (i / 16) (get_or W' (i / 16) 0)) → Under K' W' m n'
  under_change low one = record {
    lower = λ u l. lows u l (ℕ_discrete (u / 16) (i / 16));
    held = λ b l. helds b l (ℕ_discrete b (i / 16));
  }
    where
      apart : (u b : ℕ) → u / 16 ≡ b → (b ≡ i / 16 → ⊥) → u ≡ i → ⊥
      apart u b e d f = d (sym e ∙ ap (λ (j : ℕ). j / 16) f)

      lows : (u : ℕ) → u < n' → Dec (u / 16 ≡ i / 16) → get_or W' (u / 16) 0 ≤ get_or K' u 0
      lows u l (yes e) = rw e (low u l e)
      lows u l (no d) =
          let f = apart u (u / 16) refl d in
          omega (arith, a.words (u / 16) (omega (arith, a.few)) d, a.keys u l f, r.lower u (a.old u l f))

      other : (b : ℕ) → b < m → (b ≡ i / 16 → ⊥) → (get_or W b 0 ≡ mark) ⊎ Held K n b (get_or W b 0) → (get_or W' b 0 ≡ mark) ⊎ Held K' n' b (get_or W' b 0)
      other b l d (inl e) = inl (a.words b l d ∙ e)
      other b l d (inr h) =
          let k : h.node < n' = omega (arith, h.inside, a.kept) in
          inr (record {
            node = h.node;
            inside = k;
            block = h.block;
            key = a.keys h.node k (apart h.node b h.block d) ∙ h.key ∙ sym (a.words b l d);
          })

      helds : (b : ℕ) → b < m → Dec (b ≡ i / 16) → (get_or W' b 0 ≡ mark) ⊎ Held K' n' b (get_or W' b 0)
      helds b l (yes e) = rw e (one (rw e at l))
      helds b l (no d) = other b l d (r.held b l)

  -- the block's word is the least of its keys, which are those of L
  pub under_raised : (L : List ℕ) → ((u : ℕ) → u < n' → get_or K' u 0 ≡ get_or L u 0) → get_or W' (i / 16) 0 ≡ least_of_block L n' (i / 16)
      → Under K' W' m n'
  under_raised L s e =
      under_change (λ u l f. omega (arith, e, s u l, block_low L n' (i / 16) u l f)) (λ _. go (block_held L n' (i / 16)))
    where
      go : (least_of_block L n' (i / 16) ≡ mark) ⊎ Held L n' (i / 16) (least_of_block L n' (i / 16))
          → (get_or W' (i / 16) 0 ≡ mark) ⊎ Held K' n' (i / 16) (get_or W' (i / 16) 0)
      go (inl f) = inl (e ∙ f)
      go (inr h) =
          inr (record { node = h.node; inside = h.inside; block = h.block; key = s h.node h.inside ∙ h.key ∙ sym e })

  -- the block's word is no higher than k, and so is the key, or it is new and is k
  pub under_lowered : (k : ℕ) → i < n' → get_or W' (i / 16) 0 ≡ min (get_or W (i / 16) 0) k → (i < n → get_or K' i 0 ≡ min (get_or K i 0) k)
      → (n ≤ i → get_or K' i 0 ≡ k) → Under K' W' m n'
  under_lowered k inside word own new =
      under_change (λ u l e. low u l e (ℕ_discrete u i) (dec_lt i n))
      (λ l. one (dec_le (get_or W (i / 16) 0) k) (dec_lt i n) (r.held (i / 16) l))
    where
      low : (u : ℕ) → u < n' → u / 16 ≡ i / 16 → Dec (u ≡ i) → Dec (i < n) → get_or W' (i / 16) 0 ≤ get_or K' u 0
      low u l e (yes f) (yes b) = rw f (omega (arith, word, own b, r.lower i b))
      low u l e (yes f) (no d) = rw f (omega (arith, word, new (omega arith)))
      low u l e (no d) _ =
          let j : get_or W (i / 16) 0 ≤ get_or K u 0 = rw e at (r.lower u (a.old u l d)) in
          omega (arith, word, a.keys u l d)

      same : (h : Held K n (i / 16) (get_or W (i / 16) 0)) → get_or W (i / 16) 0 ≤ k → Dec (h.node ≡ i) → get_or K' h.node 0 ≡ get_or W (i / 16) 0
      same h l (yes e) =
          let b : i < n = omega (arith, h.inside) in
          let f : get_or K i 0 ≡ get_or W (i / 16) 0 = rw e at h.key in
          rw e (omega (arith, own b))
      same h l (no d) = a.keys h.node (omega (arith, h.inside, a.kept)) d ∙ h.key

      one : Dec (get_or W (i / 16) 0 ≤ k) → Dec (i < n) → (get_or W (i / 16) 0 ≡ mark) ⊎ Held K n (i / 16) (get_or W (i / 16) 0)
          → (get_or W' (i / 16) 0 ≡ mark) ⊎ Held K' n' (i / 16) (get_or W' (i / 16) 0)
      one (yes l) _ (inl e) = inl (omega (arith, word))
      one (yes l) _ (inr h) =
          inr (record {
            node = h.node;
            inside = omega (arith, h.inside, a.kept);
            block = h.block;
            key = omega (arith, same h l (ℕ_discrete h.node i), word);
          })
      one (no d) (yes b) _ = inr (record { node = i; inside = inside; block = refl; key = omega (arith, own b, word, r.lower i b) })
      one (no d) (no b) _ = inr (record { node = i; inside = inside; block = refl; key = omega (arith, new (omega arith), word) })

-- keys and words are the same
pub under_same : (K W K' W' : List ℕ) (m n : ℕ) → n ≤ 16 * m → ((u : ℕ) → u < n → get_or K' u 0 ≡ get_or K u 0)
    → ((b : ℕ) → b < m → get_or W' b 0 ≡ get_or W b 0) → Under K W m n → Under K' W' m n
under_same K W K' W' m n few s t r =
    under_change K W K' W' m n n (16 * m)
    (record { keys = λ u l _. s u l; words = λ b l _. t b l; old = λ u l _. l; kept = omega arith; few = few }) r
    (λ u l e. absurd (omega arith)) (λ l. absurd (omega arith))

-- ---- the choice by blocks

module _ (bound : ℕ) (K W : List ℕ) (m n : ℕ) (few : n ≤ 16 * m) (low : bound ≤ mark) (r : Under K W m n) where
  -- no word is below the bound: no key is
  pub under_none : choose_by bound W m ≡ 0 → choose_by bound K n ≡ 0
  under_none e = go (choose_cases bound W m)
    where
      go : Choice bound W m (choose_by bound W m) → choose_by bound K n ≡ 0
      go (inl (_, none)) = choose_none bound K n (λ w l. omega (arith, none (w / 16) (omega arith), r.lower w l))
      go (inr (u, (f, _))) = absurd (omega arith)

  -- the first of the least words, below the bound, is a key of its block
  word_held : (b : ℕ) → Picked bound W m b → Held K n b (get_or W b 0)
  word_held b p = go (r.held b p.inside)
    where
      go : (get_or W b 0 ≡ mark) ⊎ Held K n b (get_or W b 0) → Held K n b (get_or W b 0)
      go (inl e) = absurd (omega (arith, p.below))
      go (inr h) = h

  -- so the block has keys
  pub picked_some : (b : ℕ) → Picked bound W m b → b * 16 < n
  picked_some b p = let h = word_held b p in omega (arith, h.inside, h.block)

  -- its word is one of them
  pub picked_there : (b w : ℕ) → Picked bound W m b → get_or W b 0 ≡ w → NoneIs (drop (b * 16) K) (block_size n b) w → ⊥
  picked_there b w p e none =
      let h = word_held b p in
      none (h.node - b * 16) (omega (arith, h.inside, h.block)) (block_key K b h.node h.block ∙ h.key ∙ e)

  -- the first of its keys that is the word is the choice among all keys
  module _ (b w u : ℕ) (p : Picked bound W m b) (e : get_or W b 0 ≡ w) (q : FirstInBlock K n b w u) where
    -- it is the word, as one of all keys
    found_key : get_or K u 0 ≡ w
    found_key = rw q.is (sym (get_or-drop (b * 16) K q.place 0) ∙ q.first.here)

    -- no key is less
    found_least : (v : ℕ) → v < n → w ≤ get_or K v 0
    found_least v l = omega (arith, e, p.least (v / 16) (omega arith), r.lower v l)

    -- those before it are greater
    found_first : (v : ℕ) → v < u → Dec (v / 16 ≡ b) → w < get_or K v 0
    found_first v l (yes f) =
        let d : get_or K v 0 ≡ w → ⊥ = λ s. q.first.before (v - b * 16) (omega (arith, q.is)) (block_key K b v f ∙ s) in
        omega (arith, found_least v (omega (arith, q.is, q.first.inside)))
    found_first v l (no d) =
        omega (arith, e, p.first (v / 16) (omega (arith, q.is, q.first.inside)), r.lower v (omega (arith, q.is, q.first.inside)))

    pub under_found : (get_or K u 0 ≡ w) × Picked bound K n u
    under_found = (
      found_key,
      record {
        inside = omega (arith, q.is, q.first.inside);
        below = omega (arith, e, p.below, found_key);
        least = λ v l. omega (arith, found_least v l, found_key);
        first = λ v l. omega (arith, found_first v l (ℕ_discrete (v / 16) b), found_key);
      },
    )

  -- the same where k is the first of its keys that is the word, or as many as there are: one of them is the word
  pub under_first : (b w k : ℕ) → Picked bound W m b → get_or W b 0 ≡ w → k ≤ block_size n b → NoneIs (drop (b * 16) K) k w
      → (k < block_size n b → get_or (drop (b * 16) K) k 0 ≡ w) → (get_or K (b * 16 + k) 0 ≡ w) × Picked bound K n (b * 16 + k)
  under_first b w k p e most before here = go (dec_lt k (block_size n b))
    where
      go : Dec (k < block_size n b) → (get_or K (b * 16 + k) 0 ≡ w) × Picked bound K n (b * 16 + k)
      go (yes l) = under_found b w (b * 16 + k) p e (record { place = k; is = refl; first = record { inside = l; before = before; here = here l } })
      go (no d) = absurd (picked_there b w p e (λ i l q. before i (omega arith) q))

-- the word of a block is the mark if its keys are
under_mark : (K W : List ℕ) (m n : ℕ) → Under K W m n → (b : ℕ) → b < m → ((u : ℕ) → u < n → u / 16 ≡ b → get_or K u 0 ≡ mark) → get_or W b 0 ≡ mark
under_mark K W m n r b l all = go (r.held b l)
  where
    go : (get_or W b 0 ≡ mark) ⊎ Held K n b (get_or W b 0) → get_or W b 0 ≡ mark
    go (inl e) = e
    go (inr h) = sym h.key ∙ all h.node h.inside h.block

-- the choice among the upper words is that among those of the first n nodes: the others are the mark
pub upper_fewer : (bound : ℕ) (C : List ℕ) (n : ℕ) → bound ≤ mark → n ≤ 4096 → Blocked C n
    → choose_by bound (upper_words C) ((n + 255) / 256) ≡ choose_by bound (upper_words C) 16
upper_fewer bound C n low few r =
    choose_fewer bound (upper_words C) ((n + 255) / 256) 16 (omega arith)
    (λ g i l.
    omega (
      arith,
      under_mark (block_words C) (upper_words C) 16 256 r.words g l
          (λ b j e. under_mark C (block_words C) 256 n r.keys b j (λ u k f. absurd (omega arith))),
    ))

-- what an upper word says that is picked among those of the first n nodes, which are the words U
module _ (bound : ℕ) (C U : List ℕ) (n : ℕ) (low : bound ≤ mark) (few : n ≤ 4096) (r : Blocked C n) (long : (n + 255) / 256 ≤ length (upper_words C))
    (is : U ≡ take ((n + 255) / 256) (upper_words C)) where
  -- it is picked among all upper words
  pub upper_picked : (g : ℕ) → Picked bound U (length U) g → Picked bound (upper_words C) 16 g
  upper_picked g p =
      let m = (n + 255) / 256 in
      let here = picked_same bound U (upper_words C) m (part_at (upper_words C) U m long is) g (rw (part_long (upper_words C) U m long is) at p) in
      choose_picked bound (upper_words C) 16 g (sym (upper_fewer bound C n low few r) ∙ choose_first bound (upper_words C) m g here)

  -- where there is none no key is below the bound
  pub upper_none : NoneBelow bound U (length U) → NoneBelow bound C n
  upper_none none =
      let m = (n + 255) / 256 in
      let here = none_same bound U (upper_words C) m (part_at (upper_words C) U m long is) (rw (part_long (upper_words C) U m long is) at none) in
      let upper : choose_by bound (upper_words C) 16 ≡ 0 = sym (upper_fewer bound C n low few r) ∙ choose_none bound (upper_words C) m here in
      let block = under_none bound (block_words C) (upper_words C) 16 256 (omega arith) low r.words upper in
      none_chosen bound C n (under_none bound C (block_words C) 256 n (omega (arith, few)) low r.keys block)

-- ---- block words set to the mark

-- no node: all 272 words are the mark
pub blocked_none : (C : List ℕ) → ((b : ℕ) → b < 272 → get_or C (7184 + b) 0 ≡ mark) → Blocked C 0
blocked_none C z = record {
  keys = record { lower = λ u h. absurd (not-suc-le-zero h); held = λ b l. inl (block b l) };
  words = record { lower = λ u l. omega (arith, upper (u / 16) (omega arith), block u l); held = λ b l. inl (upper b l) };
}
  where
    block : (b : ℕ) → b < 256 → get_or (block_words C) b 0 ≡ mark
    block b l = get_or-drop 7184 C b 0 ∙ z b (omega arith)

    upper : (b : ℕ) → b < 16 → get_or (upper_words C) b 0 ≡ mark
    upper b l =
        let s : 7440 + b ≡ 7184 + (256 + b) = omega arith in
        get_or-drop 7440 C b 0 ∙ ap (λ (i : ℕ). get_or C i 0) s ∙ z (256 + b) (omega arith)

-- a turn of the loop
pub fresh_more : (C : List ℕ) (b : ℕ) → fresh_to C (b + 1) ≡ set (fresh_to C b) (7184 + b) mark
unfolding fresh_to
fresh_more C b = rw add-one

-- the scan words stay as many
pub fresh_length : (C : List ℕ) (b : ℕ) → length (fresh_to C b) ≡ length C
unfolding fresh_to
fresh_length C zero = refl
fresh_length C (suc b) = length-set (fresh_to C b) (7184 + b) mark ∙ fresh_length C b

-- the other words are the same
pub fresh_other : (C : List ℕ) (b i : ℕ) → i < 7184 → get_or (fresh_to C b) i 0 ≡ get_or C i 0
unfolding fresh_to
fresh_other C zero i l = refl
fresh_other C (suc b) i l = get_or-set_other (fresh_to C b) (7184 + b) i mark 0 (λ e. omega arith) ∙ fresh_other C b i l

-- the block words are the mark
pub fresh_block : (C : List ℕ) (n b : ℕ) → 7184 + n ≤ length C → b < n → get_or (fresh_to C n) (7184 + b) 0 ≡ mark
unfolding fresh_to
fresh_block C zero b r l = absurd (not-suc-le-zero l)
fresh_block C (suc n) b r l = go (below_cases l) (fresh_block C n b (omega arith))
  where
    go : (b < n) ⊎ (b ≡ n) → (b < n → get_or (fresh_to C n) (7184 + b) 0 ≡ mark) → get_or (fresh_to C (suc n)) (7184 + b) 0 ≡ mark
    go (inl k) h = get_or-set_other (fresh_to C n) (7184 + n) (7184 + b) mark 0 (λ e. omega arith) ∙ h k
    go (inr e) h = rw e (get_or-set_same (fresh_to C n) (7184 + n) mark 0 (omega (arith, fresh_length C n)))

-- one word more behind b of them from place a on
mid_more : (C D : List ℕ) (a b v : ℕ) → a + b < length C → D ≡ take a C ++ (replicate b v ++ drop (a + b) C)
    → set D (a + b) v ≡ take a C ++ (replicate (suc b) v ++ drop (a + suc b) C)
mid_more C D a b v l e =
    let next : suc (a + b) ≡ a + suc b = omega arith in
    let front : length (take a C ++ replicate b v) ≡ a + b =
    length-append (take a C) (replicate b v) ∙ omega (arith, length-take-le a C (omega arith), length-replicate b v) in
    ap (λ (xs : List ℕ). set xs (a + b) v) (e ∙ sym (append_assoc (take a C) (replicate b v) (drop (a + b) C)) ∙ ap (λ (xs : List ℕ). (take a C ++ replicate b v) ++ xs) (drop-cons C (a + b) 0 l))
    ∙ set_at (take a C ++ replicate b v) (get_or C (a + b) 0) (drop (suc (a + b)) C) v (a + b) front
    ∙ append_assoc (take a C) (replicate b v) (v ∷ drop (suc (a + b)) C)
    ∙ ap (λ (xs : List ℕ). take a C ++ xs) (sym (append_assoc (replicate b v) (v ∷ []) (drop (suc (a + b)) C)))
    ∙ rw (replicate_more b v, add-one, next)

-- the words in between are the mark
pub fresh_mid : (C : List ℕ) (b : ℕ) → 7184 + b ≤ length C → fresh_to C b ≡ take 7184 C ++ (replicate b mark ++ drop (7184 + b) C)
unfolding fresh_to
fresh_mid C zero l = sym (take-append-drop 7184 C)
fresh_mid C (suc b) l = mid_more C (fresh_to C b) 7184 b mark (omega arith) (fresh_mid C b (omega arith))

-- as a slice of that length is set to the mark
pub fresh_put : (C Y : List ℕ) → length C ≡ 17696 → Y ≡ replicate (length (take 272 (drop 7184 C))) mark → take 7184 C ++ (Y ++ drop 272 (drop 7184 C)) ≡ fresh_to C 272
fresh_put C Y l e =
    let many = length-take-le 272 (drop 7184 C) (omega (arith, length-drop 7184 C)) in
    let behind : drop 272 (drop 7184 C) ≡ drop (7184 + 272) C = drop-drop 272 7184 C in
    rw (e, many, behind) (sym (fresh_mid C 272 (omega arith)))

-- ---- words at a place

-- a word is the same, as one of those from a place on
pub drop_same : (C D : List ℕ) (at b : ℕ) → get_or D (at + b) 0 ≡ get_or C (at + b) 0 → get_or (drop at D) b 0 ≡ get_or (drop at C) b 0
drop_same C D at b e = get_or-drop at D b 0 ∙ e ∙ sym (get_or-drop at C b 0)

module _ (C : List ℕ) (i key : ℕ) where
  -- the word at i is lowered: the scan words stay as many, the others are the same
  pub lowered_length : length (lowered_to C i key) ≡ length C
  unfolding lowered_to
  lowered_length = length-set C i (min (get_or C i 0) key)

  pub lowered_other : (j : ℕ) → (j ≡ i → ⊥) → get_or (lowered_to C i key) j 0 ≡ get_or C j 0
  unfolding lowered_to
  lowered_other j d = get_or-set_other C i j (min (get_or C i 0) key) 0 d

  pub lowered_here : i < length C → get_or (lowered_to C i key) i 0 ≡ min (get_or C i 0) key
  unfolding lowered_to
  lowered_here l = get_or-set_same C i (min (get_or C i 0) key) 0 l

module _ (C : List ℕ) (from at n b : ℕ) where
  -- the word of block b is raised
  pub raised_length : length (raised_to C from at n b) ≡ length C
  unfolding raised_to
  raised_length = length-set C (at + b) (least_of_block (drop from C) n b)

  pub raised_other : (j : ℕ) → (j ≡ at + b → ⊥) → get_or (raised_to C from at n b) j 0 ≡ get_or C j 0
  unfolding raised_to
  raised_other j d = get_or-set_other C (at + b) j (least_of_block (drop from C) n b) 0 d

  pub raised_here : at + b < length C → get_or (raised_to C from at n b) (at + b) 0 ≡ least_of_block (drop from C) n b
  unfolding raised_to
  raised_here l = get_or-set_same C (at + b) (least_of_block (drop from C) n b) 0 l

-- ---- a node is retired

-- the scan words with the node's open key and its block's word
abbrev half_to : List ℕ → ℕ → ℕ → List ℕ
half_to C u n = raised_to (set C u mark) 0 7184 n (u / 16)

module _ (C : List ℕ) (u n : ℕ) where
  -- the scan words stay as many
  half_length : length (half_to C u n) ≡ length C
  half_length = raised_length (set C u mark) 0 7184 n (u / 16) ∙ length-set C u mark

  pub retired_length : length (retired_to C u n) ≡ length C
  unfolding retired_to
  retired_length = raised_length (half_to C u n) 7184 7440 256 (u / 16 / 16) ∙ half_length

  -- all words but the upper word
  retired_half : (i : ℕ) → (i ≡ 7440 + u / 16 / 16 → ⊥) → get_or (retired_to C u n) i 0 ≡ get_or (half_to C u n) i 0
  unfolding retired_to
  retired_half = raised_other (half_to C u n) 7184 7440 256 (u / 16 / 16)

  -- all words but the block's word and the upper word
  retired_but : (i : ℕ) → (i ≡ 7184 + u / 16 → ⊥) → (i ≡ 7440 + u / 16 / 16 → ⊥) → get_or (retired_to C u n) i 0 ≡ get_or (set C u mark) i 0
  retired_but i d f = retired_half i f ∙ raised_other (set C u mark) 0 7184 n (u / 16) i d

  -- of the words before the block words only the node's open key is stored
  pub retired_key : (i : ℕ) → i < 7184 → get_or (retired_to C u n) i 0 ≡ get_or (set C u mark) i 0
  retired_key i l = retired_but i (λ e. omega arith) (λ e. omega arith)

  -- the words behind the upper words are the same
  pub retired_behind : (i : ℕ) → u < 4096 → 7456 ≤ i → get_or (retired_to C u n) i 0 ≡ get_or C i 0
  retired_behind i l b = retired_but i (λ e. omega arith) (λ e. omega arith) ∙ get_or-set_other C u i mark 0 (λ e. omega arith)

module _ (C : List ℕ) (u n : ℕ) (long : length C ≡ 17696) (few : n ≤ 4096) (inside : u < n) where
  -- the scan words after it
  abbrev D : List ℕ
  D = retired_to C u n

  -- the other words behind the open keys, as those from a place on
  retired_at : (at b : ℕ) → 4096 ≤ at → (at + b ≡ 7184 + u / 16 → ⊥) → (at + b ≡ 7440 + u / 16 / 16 → ⊥) → get_or (drop at D) b 0 ≡ get_or (drop at C) b 0
  retired_at at b l d f = drop_same C D at b (retired_but C u n (at + b) d f ∙ get_or-set_other C u (at + b) mark 0 (λ e. omega arith))

  -- so the words of the other blocks
  retired_words : (b : ℕ) → b < 256 → (b ≡ u / 16 → ⊥) → get_or (block_words D) b 0 ≡ get_or (block_words C) b 0
  retired_words b l d = retired_at 7184 b (omega arith) (λ e. d (omega arith)) (λ e. omega arith)

  -- the block's word and the upper word
  retired_word : get_or (block_words D) (u / 16) 0 ≡ least_of_block (set C u mark) n (u / 16)
  retired_word =
      get_or-drop 7184 D (u / 16) 0 ∙ retired_half C u n (7184 + u / 16) (λ e. omega arith)
      ∙ raised_here (set C u mark) 0 7184 n (u / 16) (simp length-set (omega arith))

  retired_upper : get_or (upper_words D) (u / 16 / 16) 0 ≡ least_of_block (block_words (half_to C u n)) 256 (u / 16 / 16)
  unfolding retired_to
  retired_upper =
      get_or-drop 7440 D (u / 16 / 16) 0 ∙ raised_here (half_to C u n) 7184 7440 256 (u / 16 / 16) (omega (arith, half_length C u n))

  -- the words are right again
  pub blocked_retire : Blocked C n → Blocked (retired_to C u n) n
  blocked_retire r = record {
    keys =
        under_raised C (block_words C) D (block_words D) 256 n n u
        (record { keys = λ w l d. retired_key C u n w (omega arith) ∙ get_or-set_other C u w mark 0 d; words = retired_words; old = λ w l _. l; kept = omega arith; few = omega arith })
        r.keys (set C u mark) (λ w l. retired_key C u n w (omega arith)) retired_word;
    words =
        under_raised (block_words C) (upper_words C) (block_words D) (upper_words D) 16 256 256 (u / 16)
        (record { keys = retired_words; words = λ g l d. retired_at 7440 g (omega arith) (λ e. omega arith) (λ e. d (omega arith)); old = λ w l _. l; kept = omega arith; few = omega arith })
        r.words (block_words (half_to C u n))
        (λ b l. drop_same (half_to C u n) D 7184 b (retired_half C u n (7184 + b) (λ e. omega arith))) retired_upper;
  }
