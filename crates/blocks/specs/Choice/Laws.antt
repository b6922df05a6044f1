-- The choice, a turn of the loop at a time, and what it finds. Assumes nothing.
use Rattle.std.specs.Prelude.{◌≡◌, refl, ◌⊎◌, Option, None, Some, MatchOption, List}
use Rattle.std.proofs.Common.{sym, ◌∙◌, not-suc-le-zero}
use Rattle.std.proofs.Math.Logic.{inl, inr}
use Prim.Native.Nat.{ℕ, zero, suc, ◌+◌, ◌≤◌, ◌<◌}
use Rattle.std.proofs.Math.Numerals.{add-one}
use native.Mathlib.Omega.{arith}
use Rattle.std.proofs.Math.Decide.{dec_lt}
use borrow.Author.Tests.{lt-ltb, le-ltb}
use Rattle.std.proofs.Math.ListN.{get_or}
use Rattle.loops.specs.Count.Laws.{below_cases}
use Rattle.blocks.specs.Choice.{key_of, choose_by, NoneBelow, Picked, Choice}

module _ (bound : ℕ) (keys : List ℕ) where
  -- a turn of the loop: the key is less than that of the choice so far
  pub choose_here : (i : ℕ) → get_or keys i 0 < key_of bound keys (choose_by bound keys i) → choose_by bound keys (i + 1) ≡ i + 1
  unfolding choose_by
  choose_here i h = rw (add-one, choose_by, lt-ltb (get_or keys i 0) (key_of bound keys (choose_by bound keys i)) h)

  -- the key is not less
  pub choose_kept : (i : ℕ) → key_of bound keys (choose_by bound keys i) ≤ get_or keys i 0 → choose_by bound keys (i + 1) ≡ choose_by bound keys i
  unfolding choose_by
  choose_kept i h = rw (add-one, choose_by, le-ltb (get_or keys i 0) (key_of bound keys (choose_by bound keys i)) h)

  -- the key of a node that is chosen
  pub key_next : (i : ℕ) → key_of bound keys (i + 1) ≡ get_or keys i 0
  unfolding key_of
  key_next i = rw add-one

  -- one more node has a key less than that of the choice: it is chosen
  more_here : (n r : ℕ) → Choice bound keys n r → get_or keys n 0 < key_of bound keys r → Picked bound keys (suc n) n
  unfolding key_of
  more_here n r (inl (e, none)) h =
      let b : get_or keys n 0 < bound = rw e at h in
      record { inside = omega arith; below = b; least = λ w l. go w (below_cases l); first = λ w l. omega (arith, none w l) }
    where
      go : (w : ℕ) → (w < n) ⊎ (w ≡ n) → get_or keys n 0 ≤ get_or keys w 0
      go w (inl l) = let b : get_or keys n 0 < bound = rw e at h in omega (arith, none w l)
      go w (inr f) = rw f (omega arith)
  more_here n r (inr (u, (e, p))) h =
      let b : get_or keys n 0 < get_or keys u 0 = rw e at h in
      record { inside = omega arith; below = omega (arith, p.below); least = λ w l. go w (below_cases l); first = λ w l. omega (arith, p.least w l) }
    where
      go : (w : ℕ) → (w < n) ⊎ (w ≡ n) → get_or keys n 0 ≤ get_or keys w 0
      go w (inl l) = let b : get_or keys n 0 < get_or keys u 0 = rw e at h in omega (arith, p.least w l)
      go w (inr f) = rw f (omega arith)

  -- its key is not less: the choice stays
  more_kept : (n r : ℕ) → Choice bound keys n r → key_of bound keys r ≤ get_or keys n 0 → Choice bound keys (suc n) r
  unfolding key_of
  more_kept n r (inl (e, none)) h = inl (e, λ w l. go w (below_cases l))
    where
      go : (w : ℕ) → (w < n) ⊎ (w ≡ n) → bound ≤ get_or keys w 0
      go w (inl l) = none w l
      go w (inr f) = rw f (rw e at h)
  more_kept n r (inr (u, (e, p))) h =
      inr (u, (e, record { inside = omega (arith, p.inside); below = p.below; least = λ w l. go w (below_cases l); first = p.first }))
    where
      go : (w : ℕ) → (w < n) ⊎ (w ≡ n) → get_or keys u 0 ≤ get_or keys w 0
      go w (inl l) = p.least w l
      go w (inr f) = rw f (rw e at h)

  -- the choice is none, or a node with the least key, the first of those
  pub choose_cases : (n : ℕ) → Choice bound keys n (choose_by bound keys n)
  unfolding choose_by
  choose_cases zero = inl (refl, λ w l. absurd (not-suc-le-zero l))
  choose_cases (suc n) = go (dec_lt (get_or keys n 0) (key_of bound keys (choose_by bound keys n))) (choose_cases n)
    where
      go : Dec (get_or keys n 0 < key_of bound keys (choose_by bound keys n)) → Choice bound keys n (choose_by bound keys n)
          → Choice bound keys (suc n) (choose_by bound keys (suc n))
      go (yes l) c = inr (n, (rw (lt-ltb (get_or keys n 0) (key_of bound keys (choose_by bound keys n)) l), more_here n (choose_by bound keys n) c l))
      go (no d) c =
          let h : key_of bound keys (choose_by bound keys n) ≤ get_or keys n 0 = omega arith in
          rw (le-ltb (get_or keys n 0) (key_of bound keys (choose_by bound keys n)) h) (more_kept n (choose_by bound keys n) c h)

  -- a choice is at most the number of nodes
  pub choose_most : (n : ℕ) → choose_by bound keys n ≤ n
  choose_most n = go (choose_cases n)
    where
      go : Choice bound keys n (choose_by bound keys n) → choose_by bound keys n ≤ n
      go (inl (e, _)) = omega arith
      go (inr (u, (e, p))) = omega (arith, p.inside)

  -- no key is below the bound: none is chosen
  pub choose_none : (n : ℕ) → ((w : ℕ) → w < n → bound ≤ get_or keys w 0) → choose_by bound keys n ≡ 0
  choose_none n none = go (choose_cases n)
    where
      go : Choice bound keys n (choose_by bound keys n) → choose_by bound keys n ≡ 0
      go (inl (e, _)) = e
      go (inr (u, (_, p))) = absurd (omega (arith, p.below, none u p.inside))

  -- the node that is chosen
  pub choose_picked : (n u : ℕ) → choose_by bound keys n ≡ suc u → Picked bound keys n u
  choose_picked n u e = go (choose_cases n)
    where
      go : Choice bound keys n (choose_by bound keys n) → Picked bound keys n u
      go (inl (f, _)) = absurd (omega arith)
      go (inr (v, (f, p))) = let same : v ≡ u = omega arith in rw same at p

  -- the first node with the least key, below the bound, is chosen
  pub choose_first : (n u : ℕ) → Picked bound keys n u → choose_by bound keys n ≡ suc u
  choose_first n u p = go (choose_cases n)
    where
      same : (v : ℕ) → Picked bound keys n v → Dec (u < v) → Dec (v < u) → suc v ≡ suc u
      same v q (yes l) m = absurd (omega (arith, q.first u l, p.least v q.inside))
      same v q (no d) (yes l) = absurd (omega (arith, p.first v l, q.least u p.inside))
      same v q (no d) (no f) = omega arith

      go : Choice bound keys n (choose_by bound keys n) → choose_by bound keys n ≡ suc u
      go (inl (_, none)) = absurd (omega (arith, p.below, none u p.inside))
      go (inr (v, (e, q))) = e ∙ same v q (dec_lt u v) (dec_lt v u)

  -- the choice among fewer keys, where none of the others is below the bound
  pub choose_fewer : (m n : ℕ) → m ≤ n → ((w : ℕ) → m ≤ w → w < n → bound ≤ get_or keys w 0) → choose_by bound keys m ≡ choose_by bound keys n
  choose_fewer m n few rest = go (choose_cases m)
    where
      all : (k : ℕ) → k ≤ bound → ((w : ℕ) → w < m → k ≤ get_or keys w 0) → (w : ℕ) → w < n → Dec (w < m) → k ≤ get_or keys w 0
      all k l low w i (yes j) = low w j
      all k l low w i (no d) = omega (arith, rest w (omega arith) i)

      go : Choice bound keys m (choose_by bound keys m) → choose_by bound keys m ≡ choose_by bound keys n
      go (inl (e, none)) = e ∙ sym (choose_none n (λ w i. all bound (omega arith) none w i (dec_lt w m)))
      go (inr (u, (e, p))) =
          e
          ∙ sym
          (choose_first n u
          (record {
            inside = omega (arith, p.inside);
            below = p.below;
            least = λ w i. all (get_or keys u 0) (omega (arith, p.below)) p.least w i (dec_lt w m);
            first = p.first;
          }))

  -- the node that is picked is that of the choice, and there is none where the choice is 0
  pub picked_by : (n : ℕ) (r : Option ℕ) → MatchOption r (NoneBelow bound keys n) (Picked bound keys n)
      → MatchOption r (choose_by bound keys n ≡ 0) (λ u. choose_by bound keys n ≡ suc u)
  picked_by n None none = choose_none n none
  picked_by n (Some u) p = choose_first n u p

  -- no key is below the bound where the choice is 0
  pub none_chosen : (n : ℕ) → choose_by bound keys n ≡ 0 → NoneBelow bound keys n
  none_chosen n e = go (choose_cases n)
    where
      go : Choice bound keys n (choose_by bound keys n) → NoneBelow bound keys n
      go (inl (_, none)) = none
      go (inr (u, (f, p))) = absurd (omega arith)

module _ (bound : ℕ) (keys others : List ℕ) (n : ℕ) (same : (w : ℕ) → w < n → get_or keys w 0 ≡ get_or others w 0) where
  -- what is picked depends on the first n keys
  pub none_same : NoneBelow bound keys n → NoneBelow bound others n
  none_same none w l = rw (same w l) at (none w l)

  pub picked_same : (u : ℕ) → Picked bound keys n u → Picked bound others n u
  picked_same u p = record {
    inside = p.inside;
    below = rw (same u p.inside) at p.below;
    least = λ w l. rw (same u p.inside, same w l) at (p.least w l);
    first = λ w l. rw (same u p.inside, same w (omega (arith, p.inside))) at (p.first w l);
  }
