-- Wrong answers that a clause of the contract refuses by itself, without the equation: for each, the clause and what it contradicts. Assumes nothing.
use Rattle.std.specs.Prelude.{◌≡◌, refl, Bool, true, false, ◌&&◌, List, ℕ, zero, suc, ◌≤◌, ◌<◌, leb, length, replicate}
use Rattle.std.proofs.Common.{sym, ◌∙◌, inl, inr, arith}
use Rattle.std.proofs.Math.Decide.{dec_lt}
use Rattle.std.proofs.lemmas.List.{length-replicate}
use Rattle.fields.specs.Answers.Laws.{record_number}
use Rattle.task.specs.declared.Task.{Task}
use Rattle.task.specs.Factors.{all_states}
use Rattle.whole.specs.Verdict.{Verdict, Accepted as Read, Refused as NotRead}
use Rattle.record.specs.Record.{read_record}
use Rattle.answers.specs.declared.Told.{Told}
use Rattle.answers.specs.declared.PlanAnswer.{PlanAnswer}
use Rattle.answers.specs.Told.{plan_told}
use Rattle.price.specs.Demand.{PathCall, PathOutside, PathFits, SomeSequence, PathDecided}
use Rattle.search.specs.Explore.{Search, Reason, finished, tableFull, budgetSpent, explored}
use Rattle.search.specs.Plan.{plan_of}
use Rattle.solve.specs.Solve.{counts_of, with_plan, at_best, at_stop, table_words, cleared, searched}
use Rattle.planner.specs.Planner.{task_plan, on_verdict, record_plan, call_on, given_with}
use Rattle.planner.specs.Planner.Demands.{Call, Given, CarriesOut, LeastCost, Reachable, Decided}
use Rattle.planner.specs.Planner.Demands.Laws.{not_outside, record_meets}
use Rattle.depot.specs.Depot.Demands.{JustEnough}

-- ---- the planner, by `decided`

module _ (c : Call) (again : List ℕ → Given) (a : Told) (d : Decided c again a) where
  -- 20 whatever the nodes are
  pub twenty_always : 1 ≤ c.nodes → c.nodes ≤ 4096 → a.number ≡ 20 → ⊥
  twenty_always some few e = not_outside c.nodes some few (d.nodes_wrong.0 e).1

  -- 21 for a table that is just long enough
  pub twenty_one_early : length c.words ≡ c.need → a.number ≡ 21 → ⊥
  twenty_one_early q e = absurd (omega (arith, (d.table_short.0 e).1.1.1))

  -- a plan, or "unsolvable", for a refused record
  pub plan_for_refused : (c.verdict ≡ 0 → ⊥) → a.number ≡ 0 → ⊥
  plan_for_refused n e = n (d.searched.0 (inl e)).read

  pub none_for_refused : (c.verdict ≡ 0 → ⊥) → a.number ≡ 255 → ⊥
  none_for_refused n e = n (d.searched.0 (inr (inl e))).read

  -- "unsolvable" always
  pub unsolvable_always : Reachable c.task → a.number ≡ 255 → ⊥
  unsolvable_always r e = d.unsolvable e r

-- what the planner's plans have in common, whatever the buffer: their length
abbrev Long : ℕ → PlanAnswer → Type 0
Long n a = (plan_told a).number ≡ 0 → (plan_told a).length ≡ n

with_long : (p : List ℕ) (cost : ℕ) (s : Search) (b ws : List ℕ) → Long (length p) (with_plan p cost (counts_of s) b ws).answer
unfolding with_plan
with_long p cost s b ws = go (leb (length p) (length b)) refl
  where
    go : (x : Bool) → leb (length p) (length b) ≡ x → Long (length p) (with_plan p cost (counts_of s) b ws).answer
    go true e = rw (e, with_plan) (λ _. refl)
    go false e = rw (e, with_plan) (λ x. absurd (omega arith))

one_length : (rec : List ℕ) (nodes budget : ℕ) (words : List ℕ) → (n : ℕ) × ((b : List ℕ) → Long n (record_plan rec nodes budget b words).answer)
unfolding record_plan task_plan searched
one_length rec nodes budget words = read (read_record rec).verdict
  where
    t : Task
    t = (read_record rec).task

    s : Search
    s = (explored t nodes budget).search

    ws : List ℕ
    ws = cleared (table_words t nodes) words

    best : (u : ℕ) → (n : ℕ) × ((b : List ℕ) → Long n (at_best t s u b ws).answer)
    best zero = (0, λ b x. absurd (omega arith))
    best (suc u) = (length (plan_of t s u), λ b. with_long (plan_of t s u) _ s b ws)

    stop : (r : Reason) → (n : ℕ) × ((b : List ℕ) → Long n (at_stop t r s b ws).answer)
    stop finished = best s.best
    stop tableFull = (0, λ b x. absurd (omega arith))
    stop budgetSpent = (0, λ b x. absurd (omega arith))

    task : (x : Bool) → (leb 1 nodes && leb nodes 4096) ≡ x → (y : Bool) → leb (table_words t nodes) (length words) ≡ y
        → (n : ℕ) × ((b : List ℕ) → Long n (task_plan t nodes budget b words).answer)
    task true e true f = let (n, h) = stop (explored t nodes budget).reason in (n, λ b. rw (e, f, task_plan) (h b))
    task true e false f = (0, λ b. rw (e, f, task_plan) (λ x. absurd (omega arith)))
    task false e y f = (0, λ b. rw (e, task_plan) (λ x. absurd (omega arith)))

    read : (v : Verdict) → (n : ℕ) × ((b : List ℕ) → Long n (on_verdict v t nodes budget b words).answer)
    read Read = task (leb 1 nodes && leb nodes 4096) refl (leb (table_words t nodes) (length words)) refl
    read (NotRead why) = (0, λ b x. absurd (omega (arith, (record_number why).0)))

-- 24 where the plan has space: the planner gives a plan with this buffer, so no answer 24 meets the clause
pub long_with_space : (rec : List ℕ) (nodes budget : ℕ) (plan words : List ℕ) (a : Told) → (plan_told (record_plan rec nodes budget plan words).answer).number ≡ 0
    → Decided (call_on rec nodes plan words) (given_with rec nodes budget words) a → a.number ≡ 24 → ⊥
long_with_space rec nodes budget plan words a e d q =
    let w = d.plan_long q in
    let g = w.given w.plan (omega arith) in
    let (n, same) = one_length rec nodes budget words in
    let here = same plan e in
    let there = same w.plan g.number in
    let fits = ((record_meets rec nodes budget plan words).decided.plan e).1 in
    absurd (omega (arith, w.longer, g.actions))

-- ---- the pricer, by `decided`

module _ (c : PathCall) (number : ℕ) (d : PathDecided c number) where
  -- 13 always, 12 for a path that fits, 21 before 12, 13 before 21, prices for a refused record
  pub thirteen_always : SomeSequence c.task c.path → number ≡ 13 → ⊥
  thirteen_always (acts, w) e = (d.not_applicable.0 e).1 acts w

  pub twelve_always : PathFits c.task c.path → number ≡ 12 → ⊥
  twelve_always f e = go (d.path_wrong.0 e).1
    where
      go : PathOutside c.task c.path → ⊥
      go (inl h) = absurd (omega (arith, f.0))
      go (inr (k, (l, n))) = n (f.1 k l)

  pub twelve_after_twenty_one : c.verdict ≡ 0 → PathOutside c.task c.path → number ≡ 21 → ⊥
  twelve_after_twenty_one v w e = let q = d.path_wrong.1 (v, w) in absurd (omega arith)

  pub thirteen_before_twenty_one : length c.out < all_states c.task → number ≡ 13 → ⊥
  thirteen_before_twenty_one l e = absurd (omega (arith, (d.not_applicable.0 e).0.long))

  pub prices_for_refused : (c.verdict ≡ 0 → ⊥) → number ≡ 0 → ⊥
  prices_for_refused n e = n (d.priced.0 e).0.read

-- ---- the library's table words, by `just_enough`

-- no other number of words is just enough: neither one less nor one more
pub one_size : (number : List ℕ → ℕ) (v w : ℕ) → JustEnough v number → JustEnough w number → v ≡ w
one_size number v w p q = go (dec_lt v w) (dec_lt w v)
  where
    -- a table of n words is refused 21 by the longer size and not by the other
    apart : (m n : ℕ) → JustEnough m number → JustEnough n number → m < n → ⊥
    apart m n p q l =
        let table : List ℕ = replicate m 0 in
        let long = length-replicate {A = ℕ} m 0 in
        absurd (omega (arith, long, (p.short table).0 ((q.short table).1 (omega (arith, long)))))

    go : Dec (v < w) → Dec (w < v) → v ≡ w
    go (yes l) d = absurd (apart v w p q l)
    go (no n) (yes l) = absurd (apart w v q p l)
    go (no n) (no m) = omega arith
