-- A leaf none of whose edges has its flag set: its prices are settled as they are. Assumes nothing.
use Rattle.std.specs.Prelude.{◌≡◌, Bool, false, not, ◌||◌, List, ◌++◌, ℕ, zero, suc, ◌+◌, ◌-◌, ◌≤◌, ◌<◌, eqb, length, get_or, take, drop}
use Rattle.std.proofs.Common.{sym, ap, ◌∙◌, true≢false, add-one, arith, length-take, length-drop, take-append-drop, get_or-take, get_or-drop, ne_eqb}
use Rattle.std.proofs.Math.Decide.{ℕ_discrete}
use Rattle.loops.specs.Count.{any}
use Rattle.loops.specs.Count.Laws.{any_in}
use Rattle.leaf.specs.Settle.{settled}
use Rattle.leaf.specs.Settle.Walks.{stand, Capped, Closed}
use Rattle.leaf.specs.Settle.Laws.{settled_unique}
use Rattle.layer.specs.Board.{Board, Sound, base_on, row_on, states_on}
use Rattle.layer.specs.Board.Turns.{base_in}
use Rattle.edges.specs.Edges.{edges_at, Edges}
use Rattle.sweeps.specs.Sweeps.{Unmet, some_met, Meant}
use Rattle.sweeps.specs.Sweeps.Leaf.{gated_out}

-- what stands in a part of a list, from e to f of it, stands in a part around it, from d to g
part_in : (xs : List ℕ) (d e f g j : ℕ) → d ≤ e → e ≤ f → f ≤ g → j < f - e →
    get_or (take (f - e) (drop e xs)) j 0 ≡ get_or (take (g - d) (drop d xs)) (e - d + j) 0
part_in xs d e f g j h k l m =
    let i : e - d + j < g - d = omega arith in
    let same : d + (e - d + j) ≡ e + j = omega arith in
    rw (get_or-take, get_or-drop, get_or-take, get_or-drop, same)

-- a turn of a loop that gathers whether a test passes so far
pub any_next : (n : ℕ) (p : ℕ → Bool) {a b : Bool} → a ≡ any n p → b ≡ p n → (a || b) ≡ any (n + 1) p
unfolding any
any_next n p e q = rw (e, q, add-one n)

-- where no flag of these actions is set
pub some_none : (mets acts : List ℕ) → some_met mets acts ≡ false → Unmet mets acts (length acts)
unfolding some_met
some_none mets acts e j l = go (ℕ_discrete (get_or mets (get_or acts j 0) 0) 0)
  where
    go : Dec (get_or mets (get_or acts j 0) 0 ≡ 0) → get_or mets (get_or acts j 0) 0 ≡ 0
    go (yes q) = q
    go (no d) =
        absurd (true≢false (sym (any_in (length acts) (λ k. not (eqb (get_or mets (get_or acts k 0) 0) 0)) j l (ap not (ne_eqb _ _ d))) ∙ e))

module _ (b : Board) (sound : Sound b) (edges ends : List ℕ) (table : Edges b edges ends) where
  -- the edges of a later state begin later
  pub ends_up : (s t : ℕ) → s ≤ t → t ≤ row_on b → get_or ends s 0 ≤ get_or ends t 0
  ends_up s zero h l = let e : s ≡ 0 = omega arith in rw e (omega arith)
  ends_up s (suc t) h l = go (ℕ_discrete s (suc t)) (λ k. ends_up s t k (omega arith))
    where
      go : Dec (s ≡ suc t) → (s ≤ t → get_or ends s 0 ≤ get_or ends t 0) → get_or ends s 0 ≤ get_or ends (suc t) 0
      go (yes e) r = rw e (omega arith)
      go (no n) r = let up = rw add-one at (table.rise t (omega arith)) in omega (arith, up, r (omega arith))

  module _ (i : ℕ) (l : i < b.leaves) where
    -- the edges of the leaf's states, one state's behind the other's
    abbrev leaf_edges : List ℕ
    leaf_edges = take (get_or ends (base_on b (i + 1)) 0 - get_or ends (base_on b i) 0) (drop (get_or ends (base_on b i) 0) edges)

    -- they lie within the table
    pub leaf_part_lem : (base_on b (i + 1) < length ends) × (get_or ends (base_on b i) 0 ≤ get_or ends (base_on b (i + 1)) 0)
        × (get_or ends (base_on b (i + 1)) 0 ≤ length edges)
    leaf_part_lem =
        let top = base_in b sound i l in
        let up = ends_up _ _ (sound.bases_rise i l) top in
        let all = ends_up _ _ top (omega arith) in
        (omega (arith, table.ends_long), up, omega (arith, table.room, table.edges_long))

    -- where none of their flags is set, none is set of a state's edges
    pub leaf_unmet : (mets : List ℕ) → Unmet mets leaf_edges (length leaf_edges) → (x : ℕ) → x < states_on b i
        → Unmet mets (edges_at edges ends (base_on b i + x)) (length (edges_at edges ends (base_on b i + x)))
    leaf_unmet mets unmet x h j k =
        let top = base_in b sound i l in
        let before = ends_up (base_on b i) (base_on b i + x) (omega arith) (omega arith) in
        let here = table.rise (base_on b i + x) (omega arith) in
        let after = ends_up (base_on b i + x + 1) (base_on b (i + 1)) (omega arith) top in
        let end = leaf_part_lem.2 in
        let g : j < get_or ends (base_on b i + x + 1) 0 - get_or ends (base_on b i + x) 0 = omega (arith, simp (length-take, length-drop) at k) in
        rw (part_in edges _ _ _ _ j before here.0 after g) (unmet _ (simp (length-take, length-drop) (omega arith)))

-- actions that lead where edges without a set flag do lead nowhere, and prices settle along them to what they are
pub still_settled : (M : ℕ) (moves : List ℕ) (row at : ℕ) (costs mets edges ends : List ℕ) (n m : ℕ) (cost : ℕ → ℕ) (to : ℕ → ℕ → ℕ) (P : List ℕ)
    → Meant moves row at costs mets edges ends n m cost to
    → ((x : ℕ) → x < n → Unmet mets (edges_at edges ends (at + x)) (length (edges_at edges ends (at + x))))
    → length P ≡ n → Capped M P → P ≡ settled M m cost to P
unfolding Closed
still_settled M moves row at costs mets edges ends n m cost to P meant unmet l c =
    settled_unique M n m cost to meant.ranged P P l l c c (λ u. omega arith)
    (λ x a y h k e. let t = meant.out x h a y k e in absurd ((gated_out _ _ y t.leads).0 (unmet x h t.act t.below)))
    (λ u _. record { from = u; toll = 0; walk = stand; sum = omega arith })

-- a part that is put back where it was taken from
pub put_back : (a n : ℕ) (ys Q : List ℕ) → Q ≡ take n (drop a ys) → take a ys ++ (Q ++ drop n (drop a ys)) ≡ ys
put_back a n ys Q e = rw e (ap (λ (zs : List ℕ). take a ys ++ zs) (take-append-drop n (drop a ys)) ∙ take-append-drop a ys)
