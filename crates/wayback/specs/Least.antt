-- The lowest source of each state, met in one pass over the listed tight edges: what is kept of it, and that it is by the first action with a
-- source, from its lowest source. Assumes nothing.
use Rattle.std.specs.Prelude.{◌≡◌, refl, ◌⊎◌, true, List, ℕ, suc, ◌+◌, ◌-◌, ◌*◌, ◌/◌, ◌%◌, ◌≤◌, ◌<◌, length, get_or, set}
use Rattle.std.proofs.Common.{sym, ap, ◌∙◌, inl, inr, true≢false, not-suc-le-zero, add-zero, mod-eq_of_lt, add-one, arith, get_or-set_same, get_or-set_other, eq-eqb}
use Rattle.std.proofs.Math.Nat.{div-eq_of_lt, mul-add-div_right, mul-add-mod_self_right}
use Rattle.std.proofs.Math.Decide.{ℕ_discrete, dec_lt}
use Rattle.loops.specs.Count.{any}
use Rattle.loops.specs.Count.Laws.{and_in, below_cases, any_in, any_out}
use Rattle.leaf.specs.Price.{mark}
use Rattle.search.specs.Plan.Lowest.{lowest_is}
use Rattle.edges.specs.Edges.{edges_at}
use Rattle.wayback.specs.Steps.{source_by, entry_by, origin_by}
use Rattle.wayback.specs.Sources.{Source, Sourced, Leads, source_taken}
use Rattle.wayback.specs.Woven.{Woven}

-- ---- the least number met

-- s' is the least of s and the numbers with P
pub record Least (P : ℕ → Type 0) (s s' : ℕ) : Type 0 where
  pub below : s' ≤ s
  pub low : (q : ℕ) → P q → s' ≤ q
  pub is : (s' ≡ s) ⊎ P s'

-- there is none
pub least_none : (P : ℕ → Type 0) (s : ℕ) → ((q : ℕ) → P q → ⊥) → Least P s s
least_none P s none = record { below = omega arith; low = λ q h. absurd (none q h); is = inl refl }

-- the numbers with P, then those with Q, are those with R
pub least_more : (P Q R : ℕ → Type 0) (s s' s'' : ℕ) → ((q : ℕ) → R q → P q ⊎ Q q) → ((q : ℕ) → P q → R q) → ((q : ℕ) → Q q → R q)
    → Least P s s' → Least Q s' s'' → Least R s s''
least_more P Q R s s' s'' split left right f g = record { below = omega (arith, f.below, g.below); low = λ q h. low q (split q h); is = is g.is f.is }
  where
    low : (q : ℕ) → P q ⊎ Q q → s'' ≤ q
    low q (inl h) = omega (arith, f.low q h, g.below)
    low q (inr h) = g.low q h

    is : (s'' ≡ s') ⊎ Q s'' → (s' ≡ s) ⊎ P s' → (s'' ≡ s) ⊎ R s''
    is (inl e) (inl h) = inl (e ∙ h)
    is (inl e) (inr h) = rw e (inr (left s' h))
    is (inr h) _ = inr (right s'' h)

-- ---- sources

-- an edge to the state before `to`, from a state of depth p, leads to y from depth k; its place is q
abbrev pub Ends : ℕ → ℕ → ℕ → ℕ → ℕ → ℕ → Type 0
Ends to p q y k r = (to ≡ suc y) × (p ≡ k) × (r ≡ q)

-- one of the first i actions of a list leads from x, of depth k, to y; its place is 256 times its index, counted from 0, and x
pub record Here (moves : List ℕ) (row at : ℕ) (index acts D : List ℕ) (x y k i q : ℕ) : Type 0 where
  pub spot : ℕ
  pub below : spot < i
  pub ends : Ends (get_or moves (get_or acts spot 0 * row + (at + x)) 0) (get_or D x mark) ((get_or index (get_or acts spot 0) 0 - 1) * 256 + x) y k q

-- a listed edge leads from one of the first n states, of depth k, to y
pub record Among (moves : List ℕ) (row at : ℕ) (index tight stops D : List ℕ) (y k n q : ℕ) : Type 0 where
  pub from : ℕ
  pub inside : from < n
  pub here : Here moves row at index (edges_at tight stops from) D from y k (length (edges_at tight stops from)) q

-- an edge was met; the first i edges of a list were met, from state x; those of the first n states were. What each state keeps, of a depth that is
-- not 0
abbrev pub EdgeMet : ℕ → ℕ → ℕ → List ℕ → List ℕ → List ℕ → Type 0
EdgeMet to p q D S S' = (y k : ℕ) → y < length D → get_or D y mark ≡ suc k → Least (Ends to p q y k) (get_or S y 0) (get_or S' y 0)

abbrev pub StateMet : List ℕ → ℕ → ℕ → List ℕ → List ℕ → List ℕ → ℕ → ℕ → List ℕ → List ℕ → Type 0
StateMet moves row at index acts D x i S S' = (y k : ℕ) → y < length D → get_or D y mark ≡ suc k
    → Least (Here moves row at index acts D x y k i) (get_or S y 0) (get_or S' y 0)

abbrev pub AllMet : List ℕ → ℕ → ℕ → List ℕ → List ℕ → List ℕ → List ℕ → ℕ → List ℕ → Type 0
AllMet moves row at index tight stops D n S = (y k : ℕ) → y < length D → get_or D y mark ≡ suc k
    → Least (Among moves row at index tight stops D y k n) 65535 (get_or S y 0)

-- ---- one edge

module _ (p q : ℕ) (D S : List ℕ) where
  -- no edge changes nothing
  pub edge_none : EdgeMet 0 p q D S S
  edge_none y k l e = least_none _ _ (λ r h. absurd (omega (arith, h.0)))

  -- an edge to state z: z keeps the lower, where the depth is right, and no other state changes
  pub edge_met : (to z v : ℕ) → to ≡ suc z → z < length S → (suc p ≡ get_or D z mark → (v ≤ get_or S z 0) × (v ≤ q) × ((v ≡ get_or S z 0) ⊎ (v ≡ q)))
      → ((suc p ≡ get_or D z mark → ⊥) → v ≡ get_or S z 0) → EdgeMet to p q D S (set S z v)
  edge_met to z v t h hit miss y k l e = go (ℕ_discrete y z)
    where
      took : y ≡ z → p ≡ k → (v ≡ get_or S z 0) ⊎ (v ≡ q) → (v ≡ get_or S y 0) ⊎ Ends to p q y k v
      took s d (inl f) = inl (f ∙ ap (λ u. get_or S u 0) (sym s))
      took s d (inr f) = inr (omega arith, d, f)

      same : y ≡ z → Dec (p ≡ k) → Least (Ends to p q y k) (get_or S y 0) v
      same s (yes d) =
          let f = hit (omega (arith, rw s at e)) in
          record { below = rw s f.0; low = λ r w. omega (arith, w.2, f.1); is = took s d f.2 }
      same s (no d) =
          let f = miss (λ w. d (omega (arith, rw s at e))) in
          rw (f, s) (least_none _ _ (λ r w. d w.1))

      go : Dec (y ≡ z) → Least (Ends to p q y k) (get_or S y 0) (get_or (set S z v) y 0)
      go (yes s) = let new : get_or (set S z v) y 0 ≡ v = ap (λ u. get_or (set S z v) u 0) s ∙ get_or-set_same S z v 0 h in rw new (same s (ℕ_discrete p k))
      go (no s) = rw (get_or-set_other S z y v 0 s) (least_none _ _ (λ r w. s (omega (arith, w.0))))

-- ---- the edges of one state

module _ (moves : List ℕ) (row at : ℕ) (index acts D : List ℕ) (x : ℕ) (S : List ℕ) where
  -- none yet
  pub state_none : StateMet moves row at index acts D x 0 S S
  state_none y k l e = least_none _ _ (λ q h. not-suc-le-zero h.below)

  -- one more
  pub state_more : (i : ℕ) (S' S'' : List ℕ) → StateMet moves row at index acts D x i S S'
      → EdgeMet (get_or moves (get_or acts i 0 * row + (at + x)) 0) (get_or D x mark) ((get_or index (get_or acts i 0) 0 - 1) * 256 + x) D S' S''
      → StateMet moves row at index acts D x (i + 1) S S''
  state_more i S' S'' f g y k l e =
      least_more _ _ _ _ _ _ (λ q h. split q h (below_cases (rw add-one at h.below)))
      (λ q h. record { spot = h.spot; below = omega (arith, h.below); ends = h.ends }) (λ q h. record { spot = i; below = omega arith; ends = h })
      (f y k l e) (g y k l e)
    where
      split : (q : ℕ) (h : Here moves row at index acts D x y k (i + 1) q) → (h.spot < i) ⊎ (h.spot ≡ i)
          → Here moves row at index acts D x y k i q
          ⊎ Ends (get_or moves (get_or acts i 0 * row + (at + x)) 0) (get_or D x mark) ((get_or index (get_or acts i 0) 0 - 1) * 256 + x) y k q
      split q h (inl b) = inl (record { spot = h.spot; below = b; ends = h.ends })
      split q h (inr b) = inr (rw b at h.ends)

-- ---- the edges of all states

module _ (moves : List ℕ) (row at : ℕ) (index tight stops D : List ℕ) where
  -- no state yet
  pub all_none : (S : List ℕ) → ((y : ℕ) → y < length D → get_or S y 0 ≡ 65535) → AllMet moves row at index tight stops D 0 S
  all_none S blank y k l e = rw (blank y l) (least_none _ _ (λ q h. not-suc-le-zero h.inside))

  -- one more
  pub all_more : (n : ℕ) (S S' : List ℕ) → AllMet moves row at index tight stops D n S
      → StateMet moves row at index (edges_at tight stops n) D n (length (edges_at tight stops n)) S S' → AllMet moves row at index tight stops D (n + 1) S'
  all_more n S S' f g y k l e =
      least_more _ _ _ _ _ _ (λ q h. split q h (below_cases (rw add-one at h.inside)))
      (λ q h. record { from = h.from; inside = omega (arith, h.inside); here = h.here }) (λ q h. record { from = n; inside = omega arith; here = h })
      (f y k l e) (g y k l e)
    where
      split : (q : ℕ) (h : Among moves row at index tight stops D y k (n + 1) q) → (h.from < n) ⊎ (h.from ≡ n)
          → Among moves row at index tight stops D y k n q
          ⊎ Here moves row at index (edges_at tight stops n) D n y k (length (edges_at tight stops n)) q
      split q h (inl b) = inl (record { from = h.from; inside = b; here = h.here })
      split q h (inr b) = inr (rw b at h.here)

-- ---- what a state keeps

-- the actions and their edges by which each state keeps its first source: 256 times the first action with one, and its lowest source
pub record Guided (acts D S : List ℕ) : Type 0 where
  pub count : ℕ
  pub edges : ℕ → ℕ → ℕ
  pub acts_long : count ≤ length acts
  pub few_states : length D ≤ 256
  pub sourced : Sourced (length D) count edges D
  pub kept : (k y : ℕ) → y < length D → get_or D y mark ≡ suc k → suc k < mark
      → get_or S y 0 ≡ entry_by edges count (length D) D k y * 256 + origin_by edges count (length D) D k y

-- two numbers below a third, by their row and entry
least_place : (j x i z : ℕ) → x < 256 → z < 256 → (j < i → ⊥) → (j ≡ i → x < z → ⊥) → i * 256 + z ≤ j * 256 + x
least_place j x i z h l a b = go (dec_lt i j) (ℕ_discrete j i)
  where
    go : Dec (i < j) → Dec (j ≡ i) → i * 256 + z ≤ j * 256 + x
    go (yes g) _ = omega arith
    go (no g) (yes e) = last (dec_lt x z) e
      where
        last : Dec (x < z) → j ≡ i → i * 256 + z ≤ j * 256 + x
        last (yes f) e = absurd (b e f)
        last (no f) e = omega arith
    go (no g) (no e) = absurd (a (omega arith))

module _ (moves : List ℕ) (row at : ℕ) (acts index tight stops D : List ℕ) (w : Woven moves row at acts index tight stops (length D)) (S : List ℕ)
    (met : AllMet moves row at index tight stops D (length D) S) where
  abbrev n : ℕ
  n = length D

  abbrev E : ℕ → ℕ → ℕ
  E = w.edges

  module _ (k y : ℕ) (inside : y < n) (deep : get_or D y mark ≡ suc k) (some : Source n w.count E D k y) where
    abbrev j : ℕ
    j = entry_by E w.count n D k y

    abbrev x : ℕ
    x = origin_by E w.count n D k y

    led : Leads n w.count E D k y j x
    led = source_taken n w.count E D k y some

    passes : (i z : ℕ) → E i z ≡ suc y → get_or D z mark ≡ k → source_by E D k y i z ≡ true
    unfolding source_by
    passes i z e d = and_in (eq-eqb _ _ e) (eq-eqb _ _ d)

    -- the first source is met, maybe under a lower number
    upper : get_or S y 0 ≤ j * 256 + x
    upper =
        let (p, pos, low, to) = w.all j x y led.below led.inside led.edge in
        let a = get_or acts j 0 in
        let here : Here moves row at index (edges_at tight stops x) D x y k (length (edges_at tight stops x)) ((get_or index a 0 - 1) * 256 + x) =
        record { spot = p.at; below = p.inside; ends = rw p.is (to, led.depth, refl) } in
        omega (arith, (met y k inside deep).low _ (record { from = x; inside = led.inside; here = here }))

    -- what is kept was met, and no source is lower
    lower : (get_or S y 0 ≡ 65535) ⊎ Among moves row at index tight stops D y k n (get_or S y 0) → j * 256 + x ≤ get_or S y 0
    lower (inl e) = omega (arith, led.below, led.inside, w.few_actions, w.few_states)
    lower (inr m) =
        let h = m.here in
        let t = w.sound m.from h.spot m.inside h.below in
        let edge : E t.act m.from ≡ suc y = sym t.leads ∙ h.ends.0 in
        let test : source_by E D k y t.act m.from ≡ true = passes t.act m.from edge h.ends.1 in
        let f = lowest_is w.count (λ i. any n (source_by E D k y i)) t.act t.below (any_in n _ m.from m.inside test) in
        let (z, (u, v)) = any_out n (source_by E D k y j) f.passes in
        let g = lowest_is n (source_by E D k y j) z u v in
        let place : get_or S y 0 ≡ t.act * 256 + m.from = h.ends.2 ∙ rw t.indexed (ap (λ i. i * 256 + m.from) (omega arith)) in
        let first : t.act < j → ⊥ = λ b. true≢false (sym (any_in n _ m.from m.inside test) ∙ f.first t.act b) in
        let lowest : t.act ≡ j → m.from < x → ⊥ = λ b c. true≢false (sym (rw b at test) ∙ g.first m.from c) in
        omega (arith, place, least_place t.act m.from j x (omega (arith, m.inside, w.few_states)) (omega (arith, led.inside, w.few_states)) first lowest)

    pub kept_first : get_or S y 0 ≡ j * 256 + x
    kept_first = omega (arith, upper, lower (met y k inside deep).is)

-- the row of a place in a table with rows of n entries
pub place_row : (n j x : ℕ) → x < n → (j * n + x) / n ≡ j
place_row n j x h = mul-add-div_right (omega arith) j x ∙ rw (div-eq_of_lt h, add-zero)

-- and its entry there
pub place_entry : (n j x : ℕ) → x < n → (j * n + x) % n ≡ x
place_entry n j x h = mul-add-mod_self_right j n x ∙ mod-eq_of_lt h
