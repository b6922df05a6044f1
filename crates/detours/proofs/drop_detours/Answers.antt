use Rattle.std.proofs.Common.{◌≡◌, refl, ap, ◌∙◌, Bool, cond, not, true, false, List, set, ℕ, ◌+◌, ◌≤◌, ◌<◌, le_antisymm, arith, length, get_or, rules, w8, Fits}
use Rattle.loops.specs.Count.{sum}
use Rattle.detours.specs.Detours.{detours, kept_of, kept_in}
use Rattle.detours.specs.Detours.Laws.{detours_told, kept_turn, kept_few, kept_long, kept_behind}
use Rattle.detours.proofs.drop_detours.Goals as goal

-- one more where the test fails
count_turn : (b b' : Bool) (n n' : ℕ) → b ≡ b' → (b ≡ false → n' ≡ n + 1) → (b ≡ true → n' ≡ n) → n' ≡ n + cond (not b') 1 0
count_turn false b' n n' q f t = rw (← q) (f refl)
count_turn true b' n n' q f t = rw (← q) (omega (arith, t refl))

-- the list, whether the number stays or not
kept_listed_turn : (d : ℕ → Bool) (xs : List ℕ) (j : ℕ) (ys : List ℕ) (i k : ℕ) → i ≡ kept_of d xs j → ys ≡ kept_in d xs j → k ≡ get_or xs j 0
    → set ys i k ≡ kept_in d xs (j + 1)
kept_listed_turn d xs j ys i k isI isYs isK = (kept_turn d xs j ys i (i + cond (not (d (get_or xs j 0))) 1 0) k isI isYs isK refl).1

pub loop-j-init : goal.loop-j-init
unfolding kept_of kept_in sum
loop-j-init c = (omega arith, refl, refl)

pub bounds-list-j : goal.bounds-list-j
bounds-list-j c =
    let drops : ℕ → Bool = λ k. let a = c.args in detours a.hops.now a.ways.now a.costs.now a.word a.c k in
    let long : length c.loop-j.list ≡ 256 = let l = c.loop-j in ap length l.invariant.2 ∙ kept_long drops c.args.list.now l.j ∙ c.requires.3 in
    let few : (c.loop-j.j < 256) × (c.loop-j.kept ≤ c.loop-j.j) = let l = c.loop-j in (omega (arith, c.requires.4, c.loop-j-test.true), omega (arith, l.invariant.1, kept_few drops c.args.list.now l.j)) in
    omega (arith, long, few.0)

pub bounds-list-kept : goal.bounds-list-kept
bounds-list-kept c =
    let drops : ℕ → Bool = λ k. let a = c.args in detours a.hops.now a.ways.now a.costs.now a.word a.c k in
    let long : length c.loop-j.list ≡ 256 = let l = c.loop-j in ap length l.invariant.2 ∙ kept_long drops c.args.list.now l.j ∙ c.requires.3 in
    let few : (c.loop-j.j < 256) × (c.loop-j.kept ≤ c.loop-j.j) = let l = c.loop-j in (omega (arith, c.requires.4, c.loop-j-test.true), omega (arith, l.invariant.1, kept_few drops c.args.list.now l.j)) in
    omega (arith, long, few.0, few.1)

pub is_detour-requires : goal.is_detour-requires
is_detour-requires c =
    let p = c.requires in
    let k = get_or c.loop-j.list c.loop-j.j 0 in
    let small : Fits w8 (get_or c.loop-j.list c.loop-j.j 0) = search rules in
    (p.0, p.1, p.2, omega (arith, p.5), small.fits, p.7 k)

pub overflow_add-kept : goal.overflow_add-kept
overflow_add-kept c =
    let drops : ℕ → Bool = λ k. let a = c.args in detours a.hops.now a.ways.now a.costs.now a.word a.c k in
    let few : (c.loop-j.j < 256) × (c.loop-j.kept ≤ c.loop-j.j) = let l = c.loop-j in (omega (arith, c.requires.4, c.loop-j-test.true), omega (arith, l.invariant.1, kept_few drops c.args.list.now l.j)) in
    omega (arith, few.0, few.1)

pub overflow_step-j : goal.overflow_step-j
overflow_step-j c = omega (arith, c.loop-j-test.true)

pub loop-j-smaller : goal.loop-j-smaller
loop-j-smaller c = omega (arith, c.loop-j-test.true)

pub loop-j-preserved : goal.loop-j-preserved
loop-j-preserved c =
    let drops : ℕ → Bool = λ k. let a = c.args in detours a.hops.now a.ways.now a.costs.now a.word a.c k in
    let read : get_or c.loop-j.list c.loop-j.j 0 ≡ get_or c.args.list.now c.loop-j.j 0 = let l = c.loop-j in ap (λ (xs : List ℕ). get_or xs l.j 0) l.invariant.2 ∙ kept_behind drops c.args.list.now l.j l.j (omega arith) in
    let l = c.loop-j in
    let a = c.args in
    let is : c.is_detour.result ≡ drops (get_or a.list.now l.j 0) =
    detours_told c.is_detour.result a.hops.now a.ways.now a.costs.now a.word a.c (get_or l.list l.j 0)
    (get_or a.list.now l.j 0) c.is_detour.ensures read in
    let next = λ (kept' : ℕ) (more : kept' ≡ l.kept + cond (not (drops (get_or a.list.now l.j 0))) 1 0).
    kept_turn drops a.list.now l.j l.list l.kept kept' (get_or l.list l.j 0) l.invariant.1 l.invariant.2 read more in (
      omega (arith, c.loop-j-test.true),
      (next _ (count_turn c.is_detour.result (drops (get_or a.list.now l.j 0)) l.kept _ is (λ e. grind arith) (λ e. grind arith))).0,
      kept_listed_turn drops a.list.now l.j l.list l.kept (get_or l.list l.j 0) l.invariant.1 l.invariant.2 read,
    )

pub shape_of-list : goal.shape_of-list
shape_of-list c =
    let drops : ℕ → Bool = λ k. let a = c.args in detours a.hops.now a.ways.now a.costs.now a.word a.c k in
    let l = c.loop-j in
    ap length l.invariant.2 ∙ kept_long drops c.args.list.now l.j

pub returns : goal.returns
returns c =
    let l = c.loop-j in
    let all = le_antisymm l.invariant.0 c.loop-j-test.false in
    (l.invariant.1 ∙ rw all, l.invariant.2 ∙ rw all)
