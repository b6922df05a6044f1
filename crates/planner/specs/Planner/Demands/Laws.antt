-- The planner's outcome meets the demands. Assumes nothing.
use Rattle.std.specs.Prelude.{◌≡◌, Bool, true, false, ◌&&◌, leb, length, take, drop}
use Rattle.std.proofs.Math.Path.{refl}
use Rattle.std.proofs.Common.{sym, ◌∙◌, inl, inr, arith, length-append, take_at, drop_at, leb-true, leb-false, le-leb}
use mathlib.Core.List.{List, ◌++◌}
use Prim.Native.Nat.{ℕ, zero, suc, ◌≤◌, ◌<◌}
use Rattle.loops.specs.Count.Laws.{and_out}
use Rattle.task.specs.declared.Task.{Task}
use Rattle.task.specs.Meaning.{reaches, cost_of, Least}
use Rattle.task.specs.Valid.{Valid}
use Rattle.fields.specs.Answers.Laws.{record_number}
use Rattle.fields.specs.declared.Refusal.{Refusal}
use Rattle.fields.specs.Answers.{number_of}
use Rattle.whole.specs.Verdict.{Verdict, Accepted as Read, Refused as NotRead}
use Rattle.record.specs.Record.{verdict_number, read_record}
use Rattle.record.specs.Record.Laws.{accepted_valid}
use Rattle.search.specs.Node.{goal_cost}
use Rattle.search.specs.Explore.{Search, Reason, finished, tableFull, budgetSpent, node_at, explored}
use Rattle.search.specs.Optimal.{demand_3}
use Rattle.search.specs.Plan.{plan_of}
use Rattle.search.specs.Plan.Found.{best_plan}
use Rattle.answers.specs.declared.Counts.{Counts}
use Rattle.answers.specs.declared.Told.{Told}
use Rattle.answers.specs.declared.PlanRefusal.{PlanRefusal}
use Rattle.answers.specs.declared.PlanRefusal.TheVariants.{InRecord, NodesWrong, TableShort, TableFull, BudgetSpent, PlanLong}
use Rattle.answers.specs.declared.PlanAnswer.TheVariants.{Unsolvable, Refused}
use Rattle.answers.specs.Told.{plan_refusal_number, plan_told}
use Rattle.solve.specs.Solve.{counts_of, unwritten, with_plan, planned, at_best, at_stop, table_words, cleared, searched}
use Rattle.planner.specs.Planner.{no_counts, task_plan, on_verdict, record_plan, call_on, given_by, given_with}
use Rattle.planner.specs.Planner.Demands.{Call, Given, NodesOutside, Searched, Reachable, Gave, ThatPlan, Decided, Meets}

-- no number of a search lies between 1 and 21
pub not_early : (n : ℕ) → 1 ≤ n → n ≤ 21 → Searched n → ⊥
not_early n some few (inl e) = absurd (omega arith)
not_early n some few (inr (inl e)) = absurd (omega arith)
not_early n some few (inr (inr (inl e))) = absurd (omega arith)
not_early n some few (inr (inr (inr (inl e)))) = absurd (omega arith)
not_early n some few (inr (inr (inr (inr e)))) = absurd (omega arith)

-- nodes from 1 to 4,096 are not outside
pub not_outside : (nodes : ℕ) → 1 ≤ nodes → nodes ≤ 4096 → NodesOutside nodes → ⊥
not_outside nodes some few (inl e) = absurd (omega arith)
not_outside nodes some few (inr h) = absurd (omega arith)

-- ---- refused before the search

module _ (c : Call) (again : List ℕ → Given) (why : PlanRefusal) (some : 1 ≤ plan_refusal_number why) (few : plan_refusal_number why ≤ 21) where
  -- nothing is written
  early_meets : Decided c again (plan_told (Refused why no_counts)) → Meets c again (given_by (unwritten (Refused why no_counts) c.plan c.words))
  early_meets d =
      record {
        carries_out = record { written = λ e. absurd (omega arith); to_goal = λ e. absurd (omega arith); at_cost = λ e. absurd (omega arith) };
        least_cost = λ e. absurd (omega arith);
        decided = d;
        untouched = record { behind = λ e. absurd (omega arith); whole = λ e. refl };
        zeroed = record { early = λ e. refl; late = λ s. absurd (not_early (plan_refusal_number why) some few s) };
      }

-- 1 to 11
record_decided : (c : Call) (again : List ℕ → Given) (why : Refusal) → c.verdict ≡ number_of why → Decided c again (plan_told (Refused (InRecord why) no_counts))
record_decided c again why v =
    let (some, few) = record_number why in
    record {
      in_record = λ n a b. (λ e. v ∙ e, λ e. sym v ∙ e);
      nodes_wrong = (λ e. absurd (omega arith), λ h. absurd (omega (arith, h.0)));
      table_short = (λ e. absurd (omega arith), λ h. absurd (omega (arith, h.0)));
      searched = (λ s. absurd (not_early (number_of why) some (omega arith) s), λ h. absurd (omega (arith, h.read)));
      no_counts = λ s. (refl, refl);
      plan = λ e. absurd (omega arith);
      unsolvable = λ e. absurd (omega arith);
      plan_long = λ e. absurd (omega arith);
    }

module _ (c : Call) (again : List ℕ → Given) (v : c.verdict ≡ 0) where
  -- 20
  nodes_decided : NodesOutside c.nodes → Decided c again (plan_told (Refused NodesWrong no_counts))
  nodes_decided h =
      record {
        in_record = λ n a b. (λ e. absurd (omega arith), λ e. absurd (omega arith));
        nodes_wrong = (λ e. (v, h), λ _. refl);
        table_short = (λ e. absurd (omega arith), λ w. absurd (not_outside c.nodes w.1.0 w.1.1.0 h));
        searched = (λ s. absurd (not_early 20 (omega arith) (omega arith) s), λ w. absurd (not_outside c.nodes w.some_nodes w.few_nodes h));
        no_counts = λ s. (refl, refl);
        plan = λ e. absurd (omega arith);
        unsolvable = λ e. absurd (omega arith);
        plan_long = λ e. absurd (omega arith);
      }

  module _ (some : 1 ≤ c.nodes) (few : c.nodes ≤ 4096) where
    -- 21
    short_decided : length c.words < c.need → Decided c again (plan_told (Refused TableShort no_counts))
    short_decided h =
        record {
          in_record = λ n a b. (λ e. absurd (omega arith), λ e. absurd (omega arith));
          nodes_wrong = (λ e. absurd (omega arith), λ w. absurd (not_outside c.nodes some few w.1));
          table_short = (λ e. (v, (some, (few, h))), λ _. refl);
          searched = (λ s. absurd (not_early 21 (omega arith) (omega arith) s), λ w. absurd (omega (arith, w.long_table)));
          no_counts = λ s. (refl, refl);
          plan = λ e. absurd (omega arith);
          unsolvable = λ e. absurd (omega arith);
          plan_long = λ e. absurd (omega arith);
        }

    -- ---- after the search

    module _ (long : c.need ≤ length c.words) (a : Told) (s : Searched a.number) where
      -- what the search found is left to say
      late_decided : (a.number ≡ 0 → Reachable c.task × (a.length ≤ length c.plan)) → (a.number ≡ 255 → Reachable c.task → ⊥)
          → (a.number ≡ 24 → ThatPlan c.task again (length c.plan)) → Decided c again a
      late_decided found none more =
          record {
            in_record = λ n h k. (λ e. absurd (not_early n h (omega arith) (rw e at s)), λ e. absurd (omega arith));
            nodes_wrong = (λ e. absurd (not_early 20 (omega arith) (omega arith) (rw e at s)), λ w. absurd (not_outside c.nodes some few w.1));
            table_short = (λ e. absurd (not_early 21 (omega arith) (omega arith) (rw e at s)), λ w. absurd (omega (arith, w.1.1.1)));
            searched = (λ _. record { read = v; some_nodes = some; few_nodes = few; long_table = long }, λ _. s);
            no_counts = λ n. absurd (n s);
            plan = found;
            unsolvable = none;
            plan_long = more;
          }

-- the call on a task that the reader accepted
abbrev call_for : Task → ℕ → List ℕ → List ℕ → Call
call_for t nodes plan words = record { verdict = 0; task = t; nodes = nodes; need = table_words t nodes; plan = plan; words = words }

-- what the numbers of a search say where no plan is given
late_meets : (c : Call) (again : List ℕ → Given) (a : Told) → Searched a.number → (a.number ≡ 0 → ⊥) → Decided c again a
    → Meets c again (record { told = a; plan = c.plan; words = cleared c.need c.words })
late_meets c again a s none d =
    record {
      carries_out = record { written = λ e. absurd (none e); to_goal = λ e. absurd (none e); at_cost = λ e. absurd (none e) };
      least_cost = λ e. absurd (none e);
      decided = d;
      untouched = record { behind = λ e. absurd (none e); whole = λ _. refl };
      zeroed = record { early = λ n. absurd (n s); late = λ _. refl };
    }

module _ (t : Task) (nodes budget : ℕ) (plan words : List ℕ) (again : List ℕ → Given) (some : 1 ≤ nodes) (few : nodes ≤ 4096)
    (long : table_words t nodes ≤ length words) where
  abbrev c : Call
  c = call_for t nodes plan words

  -- the table's words after the search
  abbrev ws : List ℕ
  ws = cleared (table_words t nodes) words

  -- a plan of least cost: at the buffer's front, or longer than the buffer
  planned_meets : (s : Search) (u : ℕ) → reaches t (plan_of t s u) ≡ true → cost_of t (plan_of t s u) ≡ goal_cost t (node_at t s u)
      → Least t (goal_cost t (node_at t s u)) → ((buffer : List ℕ) → again buffer ≡ given_by (planned t s u buffer ws))
      → Meets c again (given_by (planned t s u plan ws))
  unfolding with_plan
  planned_meets s u r paid l same = go (leb (length (plan_of t s u)) (length plan)) refl
    where
      p : List ℕ
      p = plan_of t s u

      front : (buffer : List ℕ) → take (length p) (p ++ drop (length p) buffer) ≡ p
      front buffer = take_at p (drop (length p) buffer) (length p) refl

      written : length p ≤ length (p ++ drop (length p) plan)
      written = simp length-append (omega arith)

      fits : leb (length p) (length plan) ≡ true
          → Decided c again (record { number = 0; length = length p; cost = goal_cost t (node_at t s u); expanded = s.begun; kept = length s.kept })
      fits e = late_decided c again refl some few long _ (inl refl) (λ _. ((p, r), leb-true _ _ e)) (λ x. absurd (omega arith)) (λ x. absurd (omega arith))

      gave : (buffer : List ℕ) → length p ≤ length buffer → Gave p (again buffer)
      gave buffer h =
          let e : leb (length (plan_of t s u)) (length buffer) ≡ true = le-leb _ _ h in
          rw (same buffer, e, with_plan) (record { number = refl; actions = refl; bytes = front buffer })

      go : (b : Bool) → leb (length (plan_of t s u)) (length plan) ≡ b → Meets c again (given_by (planned t s u plan ws))
      go true e =
          rw (e, with_plan)
          (record {
            carries_out = record { written = λ _. written; to_goal = λ _. rw (front plan) r; at_cost = λ _. rw (front plan) paid };
            least_cost = λ _. l;
            decided = fits e;
            untouched = record { behind = λ _. (written, drop_at p (drop (length p) plan) (length p) refl); whole = λ n. absurd (n refl) };
            zeroed = record { early = λ n. absurd (n (inl refl)); late = λ _. refl };
          })
      go false e =
          let a = plan_told (Refused PlanLong (counts_of s)) in
          rw (e, with_plan)
          (late_meets c again a (inr (inr (inr (inr refl)))) (λ x. absurd (omega arith))
          (late_decided c again refl some few long a (inr (inr (inr (inr refl)))) (λ x. absurd (omega arith)) (λ x. absurd (omega arith))
          (λ _. record { plan = p; to_goal = r; least = rw paid l; longer = leb-false _ _ e; given = gave })))

  -- 22 and 23
  stopped_meets : (why : PlanRefusal) (k : Counts) → Searched (plan_refusal_number why) → (plan_refusal_number why ≡ 0 → ⊥) → (plan_refusal_number why ≡ 255 → ⊥)
      → (plan_refusal_number why ≡ 24 → ⊥) → Meets c again (given_by (unwritten (Refused why k) plan ws))
  stopped_meets why k s a b d =
      late_meets c again (plan_told (Refused why k)) s a
      (late_decided c again refl some few long (plan_told (Refused why k)) s (λ e. absurd (a e)) (λ e. absurd (b e)) (λ e. absurd (d e)))

  -- no sequence reaches the goal
  none_meets : (k : Counts) → (Reachable t → ⊥) → Meets c again (given_by (unwritten (Unsolvable k) plan ws))
  none_meets k h =
      late_meets c again (plan_told (Unsolvable k)) (inr (inl refl)) (λ x. absurd (omega arith))
      (late_decided c again refl some few long (plan_told (Unsolvable k)) (inr (inl refl)) (λ x. absurd (omega arith)) (λ _. h) (λ x. absurd (omega arith)))

  -- the outcome of a search
  searched_meets : Valid t → ((buffer : List ℕ) → again buffer ≡ given_by (searched t nodes budget buffer words))
      → Meets c again (given_by (searched t nodes budget plan words))
  unfolding searched
  searched_meets ok = go (explored t nodes budget).reason refl
    where
      s : Search
      s = (explored t nodes budget).search

      best : (b : ℕ) → s.best ≡ b → (explored t nodes budget).reason ≡ finished → ((buffer : List ℕ) → again buffer ≡ given_by (at_best t s b buffer ws))
          → Meets c again (given_by (at_best t s b plan ws))
      best zero q e same = none_meets (counts_of s) (λ w. (demand_3 t nodes budget ok some few e).0 q w.0 w.1)
      best (suc u) q e same =
          let w = best_plan t nodes ok some budget u q in
          planned_meets s u w.0 w.1 ((demand_3 t nodes budget ok some few e).1 u q) same

      go : (r : Reason) → (explored t nodes budget).reason ≡ r → ((buffer : List ℕ) → again buffer ≡ given_by (at_stop t r s buffer ws))
          → Meets c again (given_by (at_stop t r s plan ws))
      go finished e same = best s.best refl e same
      go tableFull e same = stopped_meets TableFull (counts_of s) (inr (inr (inl refl))) (λ x. absurd (omega arith)) (λ x. absurd (omega arith)) (λ x. absurd (omega arith))
      go budgetSpent e same = stopped_meets BudgetSpent (counts_of s) (inr (inr (inr (inl refl)))) (λ x. absurd (omega arith)) (λ x. absurd (omega arith)) (λ x. absurd (omega arith))

-- ---- a task and a record

-- the outcome for a task
task_meets : (t : Task) → Valid t → (nodes budget : ℕ) (plan words : List ℕ)
    → Meets (call_for t nodes plan words) (λ b. given_by (task_plan t nodes budget b words)) (given_by (task_plan t nodes budget plan words))
unfolding task_plan
task_meets t ok nodes budget plan words = go (leb 1 nodes && leb nodes 4096) refl (leb (table_words t nodes) (length words)) refl
  where
    again : List ℕ → Given
    again b = given_by (task_plan t nodes budget b words)

    wrong : (a b : Bool) → leb 1 nodes ≡ a → leb nodes 4096 ≡ b → (a && b) ≡ false → NodesOutside nodes
    wrong true true e f x = absurd (let z : ◌≡◌ {A = ℕ} 0 1 = cc in omega arith)
    wrong true false e f x = inr (leb-false nodes 4096 f)
    wrong false b e f x = inl (omega (arith, leb-false 1 nodes e))

    go : (a : Bool) → (leb 1 nodes && leb nodes 4096) ≡ a → (b : Bool) → leb (table_words t nodes) (length words) ≡ b
        → Meets (call_for t nodes plan words) again (given_by (task_plan t nodes budget plan words))
    go true e true f =
        let (some, few) = and_out (leb 1 nodes) (leb nodes 4096) e in
        rw (e, f, task_plan)
        (searched_meets t nodes budget plan words again (leb-true _ _ some) (leb-true _ _ few) (leb-true _ _ f) ok (λ b. rw (e, f, task_plan) refl))
    go true e false f =
        let (some, few) = and_out (leb 1 nodes) (leb nodes 4096) e in
        rw (e, f, task_plan)
        (early_meets (call_for t nodes plan words) again TableShort (omega arith) (omega arith)
        (short_decided (call_for t nodes plan words) again refl (leb-true _ _ some) (leb-true _ _ few) (leb-false _ _ f)))
    go false e b f =
        rw (e, task_plan)
        (early_meets (call_for t nodes plan words) again NodesWrong (omega arith) (omega arith)
        (nodes_decided (call_for t nodes plan words) again refl (wrong (leb 1 nodes) (leb nodes 4096) refl refl e)))

-- the outcome for a record: the task is the one that the record holds
pub record_meets : (rec : List ℕ) (nodes budget : ℕ) (plan words : List ℕ)
    → Meets (call_on rec nodes plan words) (given_with rec nodes budget words) (given_by (record_plan rec nodes budget plan words))
unfolding record_plan
record_meets rec nodes budget plan words = go (read_record rec).verdict refl
  where
    t : Task
    t = (read_record rec).task

    go : (v : Verdict) → (read_record rec).verdict ≡ v
        → Meets (record { verdict = verdict_number v; task = t; nodes = nodes; need = table_words t nodes; plan = plan; words = words })
        (λ b. given_by (on_verdict v t nodes budget b words)) (given_by (on_verdict v t nodes budget plan words))
    go Read e = task_meets t (accepted_valid rec e) nodes budget plan words
    go (NotRead why) e =
        let (some, few) = record_number why in
        early_meets _ (λ b. given_by (on_verdict (NotRead why) t nodes budget b words)) (InRecord why) some (omega arith)
        (record_decided _ (λ b. given_by (on_verdict (NotRead why) t nodes budget b words)) why refl)
