-- The words of an answer, and the sizes of what is lent, case by case. Assumes nothing.
use Rattle.std.specs.Prelude.{◌≡◌, refl, ◌⊎◌, Bool, true, false, ◌&&◌, List, [], ◌∷◌, ℕ, zero, suc, ◌+◌, ◌*◌, ◌≤◌, ◌<◌, leb, length, set, drop}
use Rattle.std.proofs.Common.{sym, ◌∙◌, ap₂, inl, inr, mul-le-mul, arith, le-leb, leb-true}
use Rattle.std.proofs.Math.Decide.{dec_le}
use Rattle.std.proofs.lemmas.Bool.{lt-leb}
use Rattle.loops.specs.Count.{sum}
use Rattle.loops.specs.Count.Laws.{and_out}
use Rattle.task.specs.declared.Task.{Task}
use Rattle.task.specs.Factors.{states, all_states}
use Rattle.task.specs.Valid.{Valid}
use Rattle.task.specs.Star.{number_lt}
use Rattle.fields.specs.Answers.Laws.{record_number}
use Rattle.fields.specs.declared.Refusal.{Refusal}
use Rattle.whole.specs.Verdict.{Verdict, Accepted, Refused as NotAccepted}
use Rattle.record.specs.Record.{verdict_number, read_record}
use Rattle.record.specs.Record.Laws.{accepted_valid}
use Rattle.answers.specs.declared.Told.{Told}
use Rattle.answers.specs.Told.{plan_told}
use Rattle.solve.specs.Solve.{table_words}
use Rattle.planner.specs.Planner.{record_plan, call_on, given_with}
use Rattle.planner.specs.Planner.Demands.{Decided, NodesOutside}
use Rattle.planner.specs.Planner.Demands.Laws.{not_early, not_outside, record_meets}
use Rattle.planner.specs.Planner.Room.{record_fits}
use Rattle.depot.specs.Depot.{answered, for_nodes, on_verdict, for_record, size_for, words_for, bytes_for}
use Rattle.depot.specs.Depot.Demands.{RefusedEarly, JustEnough, Enough}

-- ---- the answer

-- a slice of less than four words, and one of four or more
pub answered_short : (t : Told) (answer : List ℕ) → length answer < 4 → answer ≡ answered t answer
unfolding answered
answered_short t answer h = let e : leb 4 (length answer) ≡ false = lt-leb 4 (length answer) h in rw (e, answered)

pub answered_long : (t : Told) (answer : List ℕ) → 4 ≤ length answer → t.length ∷ t.cost ∷ t.expanded ∷ t.kept ∷ drop 4 answer ≡ answered t answer
unfolding answered
answered_long t answer h = let e : leb 4 (length answer) ≡ true = le-leb 4 (length answer) h in rw (e, answered)

-- four words written one by one
pub four_words : (a b c d : ℕ) (answer : List ℕ) → 4 ≤ length answer → set (set (set (set answer 0 a) 1 b) 2 c) 3 d ≡ a ∷ b ∷ c ∷ d ∷ drop 4 answer
four_words a b c d [] h = absurd (omega arith)
four_words a b c d (x ∷ []) h = absurd (omega arith)
four_words a b c d (x ∷ y ∷ []) h = absurd (omega arith)
four_words a b c d (x ∷ y ∷ z ∷ []) h = absurd (omega arith)
four_words a b c d (x ∷ y ∷ z ∷ w ∷ xs) h = refl

-- ---- sizes

-- 20, and the nodes that are allowed
pub nodes_none : (size : ℕ → ℕ) (states nodes : ℕ) → NodesOutside nodes → 0 ≡ for_nodes size states nodes
unfolding for_nodes
nodes_none size states nodes (inl e) = let f : leb 1 nodes ≡ false = lt-leb 1 nodes (omega arith) in rw (f, for_nodes)
nodes_none size states nodes (inr h) =
    let f : leb 1 nodes ≡ true = le-leb 1 nodes (omega arith) in
    let g : leb nodes 4096 ≡ false = lt-leb nodes 4096 h in
    rw (f, g, for_nodes)

pub nodes_some : (size : ℕ → ℕ) (states nodes : ℕ) → 1 ≤ nodes → nodes ≤ 4096 → size states ≡ for_nodes size states nodes
unfolding for_nodes
nodes_some size states nodes some few =
    let f : leb 1 nodes ≡ true = le-leb 1 nodes some in
    let g : leb nodes 4096 ≡ true = le-leb nodes 4096 few in
    rw (f, g, for_nodes)

module _ (size : ℕ → ℕ) (rec : List ℕ) (nodes : ℕ) where
  -- a refused record, and an accepted one
  pub record_none : {why : Refusal} → (read_record rec).verdict ≡ NotAccepted why → 0 ≡ for_record size rec nodes
  unfolding for_record
  record_none e = rw e

  pub record_some : {n : ℕ} → (read_record rec).verdict ≡ Accepted → n ≡ for_nodes size (all_states (read_record rec).task) nodes → n ≡ for_record size rec nodes
  unfolding for_record
  record_some e f = f ∙ rw e

-- an accepted task has a leaf state
states_some : (t : Task) → Valid t → 1 ≤ all_states t
unfolding all_states sum
states_some t ok = go t.leaves refl
  where
    go : (n : ℕ) → t.leaves ≡ n → 1 ≤ sum n (λ i. states t (suc i))
    go zero e = absurd (omega (arith, ok.fields.some_leaf))
    go (suc n) e = omega (arith, number_lt t (suc n) ok.fields.initial_inside)

-- the record or the number of nodes is refused: every size is 0, and every call is refused early
record Blank (rec : List ℕ) (nodes : ℕ) : Type 0 where
  sizes : (size : ℕ → ℕ) → for_record size rec nodes ≡ 0
  early : (budget : ℕ) (plan words : List ℕ) → RefusedEarly (plan_told (record_plan rec nodes budget plan words).answer).number

-- neither is: sizes go by S
record Whole (rec : List ℕ) (nodes : ℕ) : Type 0 where
  read : verdict_number (read_record rec).verdict ≡ 0
  some_nodes : 1 ≤ nodes
  few_nodes : nodes ≤ 4096
  some_states : 1 ≤ all_states (read_record rec).task
  few_states : all_states (read_record rec).task ≤ 1024
  sizes : (size : ℕ → ℕ) → for_record size rec nodes ≡ size (all_states (read_record rec).task)

-- what the planner's number says
abbrev decided : (rec : List ℕ) (nodes budget : ℕ) (plan words : List ℕ)
    → Decided (call_on rec nodes plan words) (given_with rec nodes budget words) (plan_told (record_plan rec nodes budget plan words).answer)
decided rec nodes budget plan words = (record_meets rec nodes budget plan words).decided

-- one of the two is so
size_cases : (rec : List ℕ) (nodes : ℕ) → Blank rec nodes ⊎ Whole rec nodes
size_cases rec nodes = go (read_record rec).verdict refl
  where
    outside : (read_record rec).verdict ≡ Accepted → NodesOutside nodes → Blank rec nodes
    outside e h =
        record {
          sizes = λ size. sym (record_some size rec nodes e (nodes_none size (all_states (read_record rec).task) nodes h));
          early = λ budget plan words. let n = (decided rec nodes budget plan words).nodes_wrong.1 (rw e, h) in (omega arith, omega arith);
        }

    inside : (read_record rec).verdict ≡ Accepted → 1 ≤ nodes → nodes ≤ 4096 → Whole rec nodes
    inside e some few =
        record {
          read = rw e;
          some_nodes = some;
          few_nodes = few;
          some_states = states_some (read_record rec).task (accepted_valid rec e);
          few_states = (accepted_valid rec e).whole.few_all_states;
          sizes = λ size. sym (record_some size rec nodes e (nodes_some size (all_states (read_record rec).task) nodes some few));
        }

    which : (read_record rec).verdict ≡ Accepted → Dec (1 ≤ nodes) → Dec (nodes ≤ 4096) → Blank rec nodes ⊎ Whole rec nodes
    which e (yes some) (yes few) = inr (inside e some few)
    which e (yes some) (no n) = inl (outside e (inr (omega arith)))
    which e (no n) d = inl (outside e (inl (omega arith)))

    go : (v : Verdict) → (read_record rec).verdict ≡ v → Blank rec nodes ⊎ Whole rec nodes
    go Accepted e = which e (dec_le 1 nodes) (dec_le nodes 4096)
    go (NotAccepted why) e =
        let (some, few) = record_number why in
        inl (record {
          sizes = λ size. sym (record_none size rec nodes e);
          early = λ budget plan words. let n = ((decided rec nodes budget plan words).in_record _ some few).1 (rw e) in (omega arith, omega arith);
        })

-- no state is told: the size is 0. A state is told: the size goes by it, and neither it nor the nodes are many
pub size_none : (size : ℕ → ℕ) (rec : List ℕ) (nodes s : ℕ) → s ≡ for_record (λ x. x) rec nodes → s ≡ 0 → 0 ≡ for_record size rec nodes
size_none size rec nodes s e z = go (size_cases rec nodes)
  where
    go : Blank rec nodes ⊎ Whole rec nodes → 0 ≡ for_record size rec nodes
    go (inl b) = sym (b.sizes size)
    go (inr w) = absurd (omega (arith, w.sizes (λ x. x), w.some_states))

pub size_some : (size : ℕ → ℕ) (rec : List ℕ) (nodes s : ℕ) → s ≡ for_record (λ x. x) rec nodes → (s ≡ 0 → ⊥)
    → (size s ≡ for_record size rec nodes) × ((s ≤ 1024) × (nodes ≤ 4096))
size_some size rec nodes s e n = go (size_cases rec nodes)
  where
    go : Blank rec nodes ⊎ Whole rec nodes → (size s ≡ for_record size rec nodes) × ((s ≤ 1024) × (nodes ≤ 4096))
    go (inl b) = absurd (n (e ∙ b.sizes (λ x. x)))
    go (inr w) =
        let q : s ≡ all_states (read_record rec).task = e ∙ w.sizes (λ x. x) in
        (rw q (sym (w.sizes size)), (rw q w.few_states, w.few_nodes))

-- ---- what the sizes promise

-- the words that the demands speak of
need_is : (t : Task) (nodes : ℕ) → table_words t nodes ≡ words_for nodes (all_states t)
unfolding table_words
need_is t nodes = refl

-- and the bytes that 24 speaks of
bytes_is : (nodes states : ℕ) → nodes * (states + 1) ≡ bytes_for nodes states
bytes_is nodes states = ap₂ {C = ℕ} ◌*◌ (omega arith) (omega arith)

-- no size is 0 where there is a node and a state
size_positive : (rows width nodes states : ℕ) → 1 ≤ nodes → 1 ≤ states → size_for rows width nodes states ≡ 0 → ⊥
size_positive rows width nodes states some s e =
    let one : 1 * 1 ≤ (nodes + rows) * (width + states) = mul-le-mul {n₁ = 1} {m₁ = 1} {n₂ = nodes + rows} {m₂ = width + states} (omega arith) (omega arith) in
    absurd (omega arith)

module _ (rec : List ℕ) (nodes budget : ℕ) where
  -- a call that is not refused early: 21, or an answer of its search
  not_refused : Whole rec nodes → (plan words : List ℕ) → RefusedEarly (plan_told (record_plan rec nodes budget plan words).answer).number → ⊥
  not_refused w plan words r = go (dec_le (table_words (read_record rec).task nodes) (length words))
    where
      d : Decided (call_on rec nodes plan words) (given_with rec nodes budget words) (plan_told (record_plan rec nodes budget plan words).answer)
      d = decided rec nodes budget plan words

      go : Dec (table_words (read_record rec).task nodes ≤ length words) → ⊥
      go (yes long) =
          not_early _ r.0 (omega (arith, r.1))
          (d.searched.1 (record { read = w.read; some_nodes = w.some_nodes; few_nodes = w.few_nodes; long_table = long }))
      go (no n) = let e = d.table_short.1 (w.read, (w.some_nodes, (w.few_nodes, omega arith))) in absurd (omega (arith, r.1))

  pub just_enough : (plan : List ℕ) → JustEnough (for_record (words_for nodes) rec nodes) (λ table. (plan_told (record_plan rec nodes budget plan table).answer).number)
  just_enough plan = go (size_cases rec nodes)
    where
      number : List ℕ → ℕ
      number table = (plan_told (record_plan rec nodes budget plan table).answer).number

      go : Blank rec nodes ⊎ Whole rec nodes → JustEnough (for_record (words_for nodes) rec nodes) number
      go (inl b) =
          rw (b.sizes (words_for nodes))
          (record {
            none = λ table. (λ _. b.early budget plan table, λ _. refl);
            short = λ table. (λ e. absurd (omega (arith, (b.early budget plan table).1)), λ l. absurd (omega arith));
          })
      go (inr w) =
          rw (w.sizes (words_for nodes))
          (record {
            none = λ table. (λ e. absurd (size_positive 1 40 nodes (all_states (read_record rec).task) w.some_nodes w.some_states e), λ r. absurd (not_refused w plan table r));
            short = λ table. (
              λ e. rw (need_is (read_record rec).task nodes) at ((decided rec nodes budget plan table).table_short.0 e).1.1.1,
              λ l. (decided rec nodes budget plan table).table_short.1
                  (w.read, (w.some_nodes, (w.few_nodes, rw (need_is (read_record rec).task nodes) l))),
            );
          })

  pub enough : (table : List ℕ) → Enough (for_record (bytes_for nodes) rec nodes) (λ plan. (plan_told (record_plan rec nodes budget plan table).answer).number)
  enough table = go (size_cases rec nodes)
    where
      go : Blank rec nodes ⊎ Whole rec nodes → Enough (for_record (bytes_for nodes) rec nodes) (λ plan. (plan_told (record_plan rec nodes budget plan table).answer).number)
      go (inl b) =
          rw (b.sizes (bytes_for nodes))
          (record {
            none = λ plan. (λ _. b.early budget plan table, λ _. refl);
            fits = λ plan l e. absurd (omega (arith, (b.early budget plan table).1));
          })
      go (inr w) =
          rw (w.sizes (bytes_for nodes))
          (record {
            none = λ plan. (λ e. absurd (size_positive 0 1 nodes (all_states (read_record rec).task) w.some_nodes w.some_states e), λ r. absurd (not_refused w plan table r));
            fits = λ plan l e. absurd (omega (arith, bytes_is nodes (all_states (read_record rec).task), record_fits rec nodes budget plan table e));
          })
