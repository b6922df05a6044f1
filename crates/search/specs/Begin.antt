-- A layer's begin: what comes through a centre action, before it settles. Key and dominance can be told from it. Assumes nothing; what needs it
-- says that the task is valid.
use Rattle.std.specs.Prelude.{◌≡◌, ◌⊎◌, Bool, true, false, List, ◌++◌, get_or, take, drop}
use Rattle.std.proofs.Math.Path.{refl, sym, ap}
use Rattle.std.proofs.Common.{◌∙◌, inl, inr, true≢false, le_antisymm, add-one, length-take, length-drop, take_all, take-add, get_or-append-add, ext_get_or}
use Rattle.std.proofs.Math.Bool.{and-true}
use Prim.Native.Nat.{ℕ, zero, suc, ◌+◌, ◌-◌, ◌≤◌, ◌<◌}
use Rattle.std.proofs.Math.Decide.{dec_le, dec_lt}
use native.Mathlib.Omega.{arith}
use Rattle.std.proofs.Math.ListN.{length, length-append, get_or-append, get_or-eq_default}
use Rattle.std.proofs.lemmas.List.{take-append-le, drop-append-le}
use Rattle.loops.specs.Count.{all, sum}
use Rattle.loops.specs.Count.Laws.{test_cases, sum_ext, list_length}
use Rattle.task.specs.declared.Task.{Task}
use Rattle.task.specs.declared.Centre.{Centre}
use Rattle.task.specs.Meaning.{factor, condition, cost}
use Rattle.task.specs.Factors.{states, all_states}
use Rattle.task.specs.Centre.{centre_meets, centre_after}
use Rattle.task.specs.Valid.{Valid}
use Rattle.leaf.specs.Price.{mark}
use Rattle.leaf.specs.Settle.Steps.{price_in_lem}
use Rattle.leaf.specs.Settle.Walks.{Capped, Below}
use Rattle.leaf.specs.Pass.{pass}
use Rattle.leaf.specs.Pass.Laws.{pass_length, pass_hit, pass_from}
use Rattle.layer.specs.Layer.{settle_leaf, LeafWalk, pass_leaf, passes, base, leaf_part, joined, next_prices, applies_to, next_centre}
use Rattle.layer.specs.Layer.Leaf.{leaf_length, leaf_below, leaf_floor, leaf_real, leaf_walk_in, pass_leaf_length, pass_leaf_cap, pass_leaf_from, passes_in}
use Rattle.layer.specs.Layer.Laws.{sum_part, base_fits, part_length, joined_length, part_joined, next_length, part_next}
use Rattle.layer.specs.Board.{Board, Fits, begin_on, settled_on}
use Rattle.layer.specs.Board.Laws.{joined_ext, joined_on, part_on_lem, settle_on_lem, pass_on_lem}
use Rattle.price.specs.Path.{Layer}
use Rattle.price.specs.Path.Laws.{price, Settled}
use Rattle.search.specs.Node.{Node, next_node, least_of, key, dominates}
use Rattle.search.specs.Node.Laws.{least_of_le, least_of_cap, least_of_ge, Dominates, dominates_in, dominates_out}
use Rattle.search.specs.Cover.{layer_of, price_at}
use Rattle.search.specs.Made.{Made, made_sound}

-- the begin of the layer behind centre action a; P are the prices before it
unfoldable pub begin_prices : Task → ℕ → List ℕ → List ℕ
begin_prices t a P = joined t.leaves (λ i. pass_leaf t (suc i) a (leaf_part t i P))

-- prices settled leaf by leaf, in the centre state c
unfoldable pub settled_prices : Task → Centre → List ℕ → List ℕ
settled_prices t c P = joined t.leaves (λ i. settle_leaf t (suc i) c (leaf_part t i P))

-- what centre action a makes of node n, with the begin's prices for the settled ones; any centre state, parent and action stand beside them
abbrev pub begin_node : Task → Node → ℕ → Centre → ℕ → ℕ → Node
begin_node t n a c p q = record { spot = c; paid = n.paid + cost t a; prices = begin_prices t a n.prices; parent = p; action = q }

-- ---- the begin's prices

-- states that stay as they are keep their prices
pub pass_still : (n : ℕ) (thr : ℕ → ℕ) (P : List ℕ) → length P ≡ n → Capped mark P → ((x : ℕ) → x < n → thr x ≡ x + 1) → pass mark n thr P n ≡ P
pass_still n thr P long cap h =
    ext_get_or mark (pass mark n thr P n) P (many ∙ sym long) (λ y l. at y (omega (arith, many)) (dec_le mark (get_or (pass mark n thr P n) y mark)))
  where
    many : length (pass mark n thr P n) ≡ n
    many = pass_length mark n thr P n

    at : (y : ℕ) → y < n → Dec (mark ≤ get_or (pass mark n thr P n) y mark) → get_or (pass mark n thr P n) y mark ≡ get_or P y mark
    at y l (yes q) = omega (arith, pass_hit mark n thr P n y y l l (h y l ∙ add-one y), cap y)
    at y l (no q) =
        let (x, k, t, e) = pass_from mark n thr P n y (omega arith) in
        let same : x ≡ y = omega (arith, h x k) in
        e ∙ ap (λ z. get_or P z mark) same

module _ (t : Task) (a : ℕ) (P : List ℕ) where
  -- each leaf's list is as long as the leaf has states
  begin_fits : (i : ℕ) → i < t.leaves → length (pass_leaf t (suc i) a (leaf_part t i P)) ≡ states t (suc i)
  begin_fits i l = pass_leaf_length t (suc i) a (leaf_part t i P)

  -- there is a price for every state of every leaf
  pub begin_length : length (begin_prices t a P) ≡ all_states t
  unfolding begin_prices
  begin_length = joined_length t _ begin_fits

  -- a leaf's part is what came through
  pub part_begin : (i : ℕ) → i < t.leaves → leaf_part t i (begin_prices t a P) ≡ pass_leaf t (suc i) a (leaf_part t i P)
  unfolding begin_prices
  part_begin = part_joined t _ begin_fits

-- ---- parts

-- what stands behind the prices of all leaves is in no leaf's part
part_append : (t : Task) (i : ℕ) (P rest : List ℕ) → i < t.leaves → all_states t ≤ length P → leaf_part t i (P ++ rest) ≡ leaf_part t i P
unfolding leaf_part
part_append t i P rest l h =
    let fits = base_fits t i l in
    rw (
      drop-append-le (base t i) P rest (omega arith),
      take-append-le (states t (suc i)) (drop (base t i) P) rest (simp length-drop (omega arith)),
    )

-- a leaf's part of a long enough list has as many prices as the leaf has states
part_many : (t : Task) (i : ℕ) (P : List ℕ) → i < t.leaves → all_states t ≤ length P → length (leaf_part t i P) ≡ states t (suc i)
unfolding leaf_part
part_many t i P l h = simp (length-take, length-drop) (omega (arith, base_fits t i l))

-- the parts of n leaves, one behind the other, are the front of the list
parts_front : (t : Task) (P : List ℕ) (n : ℕ) → joined n (λ i. leaf_part t i P) ≡ take (base t n) P
unfolding joined leaf_part base sum
parts_front t P zero = refl
parts_front t P (suc n) =
    ap (λ (xs : List ℕ). xs ++ take (states t (suc n)) (drop (base t n) P)) (parts_front t P n) ∙ sym (take-add (base t n) (states t (suc n)) P)

-- the parts of all leaves, one behind the other, are the whole list
pub parts_all : (t : Task) (P : List ℕ) → length P ≡ all_states t → joined t.leaves (λ i. leaf_part t i P) ≡ P
unfolding base all_states
parts_all t P h = parts_front t P t.leaves ∙ take_all (base t t.leaves) P (omega arith)

-- ---- the begin by the tables

module _ (t : Task) (b : Board) (f : Fits t b) where
  -- the begin
  pub begin_on_lem : (a : ℕ) (P : List ℕ) → a < t.actions → begin_on b a P ≡ begin_prices t a P
  unfolding begin_on begin_prices
  begin_on_lem a P h = joined_on t b f _ _ (λ i l. rw (part_on_lem t b f i P l) (pass_on_lem t b f i a (leaf_part t i P) l h))

  -- prices settled leaf by leaf
  pub settled_on_lem : (c : Centre) (P : List ℕ) → all_states t ≤ length P → settled_on b c P ≡ settled_prices t c P
  unfolding settled_on settled_prices
  settled_on_lem c P h = joined_on t b f _ _ (λ i l. rw (part_on_lem t b f i P l) (settle_on_lem t b f i c (leaf_part t i P) l (part_many t i P l h)))

-- the begin, settled, is the next layer
pub settled_begin : (t : Task) (c : Centre) (a : ℕ) (P rest : List ℕ) → settled_prices t c (begin_prices t a P ++ rest) ≡ next_prices t c a P
unfolding settled_prices next_prices
settled_begin t c a P rest =
    let many = begin_length t a P in
    joined_ext t.leaves _ _
    (λ i l. ap (settle_leaf t (suc i) c) (part_append t i (begin_prices t a P) rest l (omega arith) ∙ part_begin t a P i l))

-- the begin, settled by the tables, is the next layer
pub settled_next : (t : Task) (b : Board) → Fits t b → (c : Centre) (a : ℕ) (P rest : List ℕ) → settled_on b c (begin_prices t a P ++ rest) ≡ next_prices t c a P
settled_next t b f c a P rest =
    settled_on_lem t b f c (begin_prices t a P ++ rest) (simp length-append (omega (arith, begin_length t a P))) ∙ settled_begin t c a P rest

-- ---- lists

-- an entry behind the first list
get_d_behind : (xs ys : List ℕ) (u d : ℕ) → length xs ≤ u → get_or (xs ++ ys) u d ≡ get_or ys (u - length xs) d
get_d_behind xs ys u d h =
    let e : u ≡ length xs + (u - length xs) = omega arith in
    ap (λ (k : ℕ). get_or (xs ++ ys) k d) e ∙ get_or-append-add xs ys (u - length xs) d

-- lists of one length: no price is higher where none is below that length
below_in : (M : ℕ) (Q R : List ℕ) → length Q ≡ length R → ((u : ℕ) → u < length R → get_or Q u M ≤ get_or R u M) → Below M Q R
below_in M Q R e h u = go (dec_lt u (length R))
  where
    go : Dec (u < length R) → get_or Q u M ≤ get_or R u M
    go (yes l) = h u l
    go (no l) = rw (get_or-eq_default Q M {n = u} (omega arith), get_or-eq_default R M {n = u} (omega arith)) (omega arith)

module _ (M : ℕ) (f g : ℕ → List ℕ) where
  -- lists of the same lengths, one behind the other, are of one length
  joined_even : (n : ℕ) → ((j : ℕ) → j < n → length (f j) ≡ length (g j)) → length (joined n f) ≡ length (joined n g)
  unfolding joined
  joined_even zero e = refl
  joined_even (suc n) e = simp length-append (omega (arith, joined_even n (λ j l. e j (omega arith)), e n (omega arith)))

  -- and no price is higher, where none is in the lists
  joined_below : (n : ℕ) → ((j : ℕ) → j < n → length (f j) ≡ length (g j)) → ((j : ℕ) → j < n → Below M (f j) (g j)) → Below M (joined n f) (joined n g)
  unfolding joined
  joined_below zero e h u = omega arith
  joined_below (suc n) e h u = go (dec_lt u (length (joined n g))) (joined_below n (λ j l. e j (omega arith)) (λ j l. h j (omega arith)) u)
    where
      even : length (joined n f) ≡ length (joined n g)
      even = joined_even n (λ j l. e j (omega arith))

      go : Dec (u < length (joined n g)) → get_or (joined n f) u M ≤ get_or (joined n g) u M → get_or (joined n f ++ f n) u M ≤ get_or (joined n g ++ g n) u M
      go (yes l) r = rw (get_or-append (joined n f) (f n) M u (omega (arith, even)), get_or-append (joined n g) (g n) M u l) r
      go (no l) r =
          rw (get_d_behind (joined n f) (f n) u M (omega (arith, even)), get_d_behind (joined n g) (g n) u M (omega arith), even)
          (h n (omega arith) (u - length (joined n g)))

-- a test of all numbers below n that fails, fails at one of them
all_false : (n : ℕ) (p : ℕ → Bool) → all n p ≡ false → (k : ℕ) × ((k < n) × (p k ≡ false))
unfolding all
all_false zero p e = absurd (true≢false e)
all_false (suc n) p e = go (test_cases (p n)) (all_false n p)
  where
    go : (p n ≡ true) ⊎ (p n ≡ false) → (all n p ≡ false → (k : ℕ) × ((k < n) × (p k ≡ false))) → (k : ℕ) × ((k < suc n) × (p k ≡ false))
    go (inl q) r = let (k, (l, f)) = r (sym (and-true (all n p)) ∙ rw q at e) in (k, (omega arith, f))
    go (inr q) r = (n, (omega arith, q))

-- two tests that pass just where the other does
same_test : (a b : Bool) → (a ≡ true → b ≡ true) → (b ≡ true → a ≡ true) → a ≡ b
same_test true b f g = sym (f refl)
same_test false true f g = g refl
same_test false false f g = refl

-- ---- keys

-- settling leaves a leaf's least price as it was
pub least_settled : (t : Task) (l : ℕ) (c : Centre) (P : List ℕ) → least_of (settle_leaf t l c P) ≡ least_of P
least_settled t l c P =
    let S = settle_leaf t l c P in
    le_antisymm
    (least_of_ge P (least_of S) (least_of_cap S) (λ x _. omega (arith, least_of_le S x, leaf_below t l c P x)))
    (least_of_ge S (least_of P) (least_of_cap P) (λ x _. leaf_floor t l c P (least_of P) (least_of_le P) x))

module _ (t : Task) (n : Node) (a : ℕ) (c : Centre) (p q : ℕ) where
  -- the key of the node that a centre action makes is that of the begin
  pub key_begin : (u : ℕ) → key t (next_node t u n a) ≡ key t (begin_node t n a c p q)
  unfolding key next_node
  key_begin u =
      ap (λ (k : ℕ). n.paid + cost t a + k) (sum_ext t.leaves _ _ (λ i l. rw (part_next t _ a n.prices i l, part_begin t a n.prices i l)
      (least_settled t (suc i) _ (pass_leaf t (suc i) a (leaf_part t i n.prices)))))

  -- in a leaf where no state passes, no price comes through
  none_passes : (i : ℕ) → passes t (suc i) a (leaf_part t i n.prices) ≡ false → mark ≤ least_of (pass_leaf t (suc i) a (leaf_part t i n.prices))
  none_passes i e = least_of_ge Q mark (omega arith) (λ y _. at y (dec_le mark (get_or Q y mark)))
    where
      R : List ℕ
      R = leaf_part t i n.prices

      Q : List ℕ
      Q = pass_leaf t (suc i) a R

      at : (y : ℕ) → Dec (mark ≤ get_or Q y mark) → mark ≤ get_or Q y mark
      at y (yes h) = h
      at y (no h) =
          let (x, l, g, f) = pass_leaf_from t (suc i) a R y (omega arith) in
          absurd (true≢false (sym (passes_in t (suc i) a R x y l (omega arith) g) ∙ e))

  -- where an action's centre conditions hold and it does not apply, the begin's key is not below the mark
  pub blocked_begin : centre_meets (factor t) (condition t a) n.spot ≡ true → applies_to t n.spot n.prices a ≡ false
      → mark ≤ key t (begin_node t n a c p q)
  unfolding applies_to key
  blocked_begin m e =
      let (i, (l, f)) = all_false t.leaves _ (rw m at e) in
      let low : mark ≤ least_of (leaf_part t i (begin_prices t a n.prices)) = rw (part_begin t a n.prices i l) (none_passes i f) in
      omega (arith, low, sum_part t.leaves i (λ i. least_of (leaf_part t i (begin_prices t a n.prices))) l)

-- ---- dominance

module _ (t : Task) (ok : Valid t) (m : Layer) (s : Settled t m) (i : ℕ) (l : i < t.leaves) where
  -- no walk leads to a state at less than its price in a settled layer
  walk_least : {x y w : ℕ} → x < states t (suc i) → LeafWalk t (suc i) m.spot x y w → price t m i y ≤ price t m i x + w
  walk_least h LeafWalk.stay = omega arith
  walk_least h (LeafWalk.go a r la el ec e k) =
      omega (arith, walk_least h r, s.closed i l a _ _ (leaf_walk_in t ok h r) (record { known = la; own = el; enabled = ec; takes = e }))

  -- a settled layer's prices that are no higher than P are no higher than P settled
  pub settled_low : (P : List ℕ) → length P ≡ states t (suc i) → Capped mark P → Below mark (leaf_part t i m.prices) P
      → Below mark (leaf_part t i m.prices) (settle_leaf t (suc i) m.spot P)
  settled_low P len cap b y = go (dec_le mark (get_or (settle_leaf t (suc i) m.spot P) y mark))
    where
      go : Dec (mark ≤ get_or (settle_leaf t (suc i) m.spot P) y mark) → price t m i y ≤ get_or (settle_leaf t (suc i) m.spot P) y mark
      go (yes h) = omega (arith, b y, cap y)
      go (no h) =
          let (x, w, g, r, e) = leaf_real t (suc i) m.spot P y (omega arith) in
          omega (arith, b x, walk_least (omega (arith, price_in_lem mark P x g)) r)

module _ (t : Task) (a : ℕ) (P : List ℕ) where
  -- settling raises no price of the begin
  pub next_low : (c : Centre) → Below mark (next_prices t c a P) (begin_prices t a P)
  unfolding next_prices begin_prices
  next_low c =
      joined_below mark _ _ t.leaves (λ i l. leaf_length t (suc i) c (pass_leaf t (suc i) a (leaf_part t i P)))
      (λ i l. leaf_below t (suc i) c (pass_leaf t (suc i) a (leaf_part t i P)))

  module _ (ok : Valid t) (m : Layer) (s : Settled t m) (low : (k : ℕ) → k < all_states t → get_or m.prices k mark ≤ get_or (begin_prices t a P) k mark) where
    -- a settled layer that is no higher than the begin is no higher there in any leaf
    part_low : (i : ℕ) → i < t.leaves → Below mark (leaf_part t i m.prices) (pass_leaf t (suc i) a (leaf_part t i P))
    part_low i l = below_in mark (leaf_part t i m.prices) (pass_leaf t (suc i) a (leaf_part t i P)) (part_length t i m.prices l s.full ∙ sym long) at
      where
        long : length (pass_leaf t (suc i) a (leaf_part t i P)) ≡ states t (suc i)
        long = pass_leaf_length t (suc i) a (leaf_part t i P)

        B : Layer
        B = record { spot = m.spot; prices = begin_prices t a P }

        at : (x : ℕ) → x < length (pass_leaf t (suc i) a (leaf_part t i P)) → price t m i x ≤ get_or (pass_leaf t (suc i) a (leaf_part t i P)) x mark
        at x h =
            let g : x < states t (suc i) = omega (arith, long) in
            rw (price_at t m i x g, ← part_begin t a P i l, price_at t B i x g) (low (base t i + x) (omega (arith, base_fits t i l)))

    -- and so no higher than the begin, settled in the layer's own centre state
    pub next_high : Below mark m.prices (next_prices t m.spot a P)
    unfolding next_prices
    next_high =
        rw (parts_all t m.prices s.full) at
        (joined_below mark (λ i. leaf_part t i m.prices) (λ i. settle_leaf t (suc i) m.spot (pass_leaf t (suc i) a (leaf_part t i P))) t.leaves
        (λ i l. part_length t i m.prices l s.full ∙ sym (leaf_length t (suc i) m.spot _ ∙ pass_leaf_length t (suc i) a (leaf_part t i P)))
        (λ i l. settled_low t ok m s i l (pass_leaf t (suc i) a (leaf_part t i P)) (pass_leaf_length t (suc i) a _) (pass_leaf_cap t (suc i) a _) (part_low i l)))

-- a kept node dominates the node that a centre action makes just where it dominates the begin
pub dominates_begin : (t : Task) → Valid t → (v : ℕ) (m : Node) → Made t v m → (u : ℕ) (n : Node) (a p q : ℕ)
    → dominates m (next_node t u n a)
    ≡ dominates m (record { spot = (next_node t u n a).spot; paid = (next_node t u n a).paid; prices = begin_prices t a n.prices; parent = p; action = q })
unfolding next_node centre_after
dominates_begin t ok v m made u n a p q =
    same_test (dominates m N) (dominates m B) (λ e. dominates_in m B (rise (dominates_out m N made.wide wide e)))
    (λ e. dominates_in m N (fall (dominates_out m B made.wide wide e)))
  where
    c : Centre
    c = next_centre t a n.spot

    N : Node
    N = next_node t u n a

    B : Node
    B = begin_node t n a c p q

    wide : length c.values ≡ 32
    wide = list_length 32 _

    many : length (next_prices t c a n.prices) ≡ length (begin_prices t a n.prices)
    many = next_length t c a n.prices ∙ sym (begin_length t a n.prices)

    rise : Dominates m N → Dominates m B
    rise d = record { same = d.same; cheap = d.cheap; low = λ k h. omega (arith, d.low k (omega (arith, many)), next_low t a n.prices c k) }

    fall : Dominates m B → Dominates m N
    fall d =
        let sound = (made_sound t ok v m made).settled in
        let high = next_high t a n.prices ok (layer_of m) sound (λ k h. d.low k (omega (arith, begin_length t a n.prices))) in
        let here : Below mark m.prices (next_prices t c a n.prices) = rw d.same at high in
        record { same = d.same; cheap = d.cheap; low = λ k h. here k }
