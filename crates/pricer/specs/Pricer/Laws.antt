-- Laws of the pricer: the test of the path, the answers step by step, and what they say of sequences. Assumes nothing.
use Rattle.std.specs.Prelude.{◌≡◌, ◌&&◌, Option, Some, None, Result, Ok, Err, List, ◌++◌, length, get_or, take, drop}
use Rattle.std.proofs.Math.Path.{refl, sym, ap}
use Rattle.std.proofs.Common.{◌∙◌, inl, inr, true≢false, arith, get_or-take, drop_at}
use Rattle.std.proofs.Math.Bool.{Bool, true, false}
use Prim.Native.Nat.{ℕ, zero, suc, ◌+◌, ◌≤◌, ◌<◌}
use Rattle.std.proofs.Math.Dec.{ltb, leb}
use Rattle.std.proofs.Math.ListN.{get_or-append}
use Rattle.std.proofs.Math.Seq.{get_or-drop}
use borrow.Author.Tests.{ltb-true, lt-ltb, lt-leb, le-leb, leb-true, leb-false}
use Rattle.loops.specs.Count.{all, sum}
use Rattle.loops.specs.Count.Laws.{and_in, and_out, all_out, all_fails, all_ext, sum_ext}
use Rattle.task.specs.declared.Task.{Task}
use Rattle.task.specs.declared.Centre.{Centre}
use Rattle.task.specs.Meaning.{initial}
use Rattle.task.specs.Factors.{centre_action, states, all_states, leaf_cost}
use Rattle.task.specs.Valid.{Valid}
use Rattle.task.specs.Star.{number_lt}
use Rattle.fields.specs.Answers.Laws.{record_number}
use Rattle.fields.specs.declared.Refusal.{Refusal}
use Rattle.fields.specs.Answers.{number_of}
use Rattle.whole.specs.Verdict.{Verdict, Accepted, Refused}
use Rattle.record.specs.Record.{verdict_number, read_told, read_record}
use Rattle.record.specs.Record.Laws.{accepted_valid}
use Rattle.leaf.specs.Price.{mark}
use Rattle.layer.specs.Layer.{base, leaf_part}
use Rattle.layer.specs.Layer.Laws.{base_fits}
use Rattle.tables.specs.Tables.{Kinds}
use Rattle.price.specs.Path.{Layer, End, ends, stuck, first_layer, walk}
use Rattle.price.specs.Prices.{Centred}
use Rattle.price.specs.Sequences.{final_inside}
use Rattle.price.specs.Demand.{EndsAt, Choice, NoSequence, SomeSequence, Priced, PathCall, PathOutside, PathFits, PathAccepted, PathDecided, PricesUntouched, PathMeets}
use Rattle.price.specs.Demand2.{walk_stuck, walk_priced, walk_full, walk_some}
use Rattle.paths.specs.Paths.{entry_by, fits_by, walked}
use Rattle.answers.specs.declared.PriceRefusal.{PriceRefusal}
use Rattle.answers.specs.declared.PriceRefusal.TheVariants.{InRecord as PriceInRecord, PathWrong, SliceShort, NotApplicable}
use Rattle.answers.specs.Told.{price_refusal_number, price_told}
use Rattle.pricer.specs.Pricer.{Outcome, refuse, unless, on_verdict, path_fits, at_end, task_prices, prices_of, call_on, price_in}

-- ---- the path

module _ (t : Task) (path : List ℕ) where
  -- by the table of kinds
  pub fits_is : (kinds : List ℕ) → Kinds t kinds → fits_by t.actions kinds path ≡ path_fits t path
  unfolding fits_by path_fits
  fits_is kinds isk = ap (λ b. leb (length path) 4095 && b) (all_ext (length path) _ _ (λ k l. same k _ refl))
    where
      same : (k : ℕ) (b : Bool) → ltb (get_or path k 0) t.actions ≡ b
          → entry_by t.actions kinds path k ≡ (ltb (get_or path k 0) t.actions && centre_action t (get_or path k 0))
      same k true e = rw (e, isk.centre (get_or path k 0) (ltb-true _ _ e))
      same k false e = rw e

  -- what a path that fits has
  pub fits_short : path_fits t path ≡ true → length path ≤ 4095
  unfolding path_fits
  fits_short e = leb-true _ _ (and_out (leb (length path) 4095) _ e).0

  pub fits_centred : path_fits t path ≡ true → Centred t path
  unfolding path_fits
  fits_centred e k l =
      let w = and_out (ltb (get_or path k 0) t.actions) (centre_action t (get_or path k 0)) (all_out (length path) _ (and_out (leb (length path) 4095) _ e).1 k l) in
      (ltb-true _ _ w.0, w.1)

  -- in the demand's words: it fits, or an entry or its length is outside
  pub fits_in : path_fits t path ≡ true → PathFits t path
  fits_in e = (fits_short e, fits_centred e)

  pub fits_out : path_fits t path ≡ false → PathOutside t path
  unfolding path_fits
  fits_out e = go (leb (length path) 4095) refl
    where
      test : ℕ → Bool
      test k = ltb (get_or path k 0) t.actions && centre_action t (get_or path k 0)

      go : (b : Bool) → leb (length path) 4095 ≡ b → PathOutside t path
      go true f =
          let g : all (length path) test ≡ false = rw f at e in
          let (k, (l, n)) = all_fails (length path) test g in
          inr (k, (l, λ w. true≢false (sym (and_in (lt-ltb _ _ w.0) w.1) ∙ n)))
      go false f = inl (leb-false _ _ f)

-- the two exclude each other
not_fits : (t : Task) (path : List ℕ) → PathFits t path → PathOutside t path → ⊥
not_fits t path f (inl h) = absurd (omega (arith, f.0))
not_fits t path f (inr (k, (l, n))) = n (f.1 k l)

-- ---- the answers, step by step

module _ (t : Task) (path out : List ℕ) where
  -- 12
  pub task_wrong : path_fits t path ≡ false → refuse PathWrong out ≡ task_prices t path out
  unfolding task_prices
  task_wrong e = rw e

  -- 21
  pub task_short : path_fits t path ≡ true → length out < all_states t → refuse SliceShort out ≡ task_prices t path out
  unfolding task_prices
  task_short e h = rw (e, lt-leb (all_states t) (length out) h)

  -- what the walk says
  pub task_end : {o : Outcome} → path_fits t path ≡ true → all_states t ≤ length out → o ≡ at_end t out (walk t (first_layer t) path) → o ≡ task_prices t path out
  unfolding task_prices
  task_end e h q = rw (e, le-leb (all_states t) (length out) h) q

module _ (t : Task) (out : List ℕ) where
  -- 13
  pub end_stuck : (P : List ℕ) (n : End) → walked None P ≡ n → refuse NotApplicable out ≡ at_end t out n
  end_stuck P n f = rw (← f)

  -- prices
  pub end_prices : (spot : Centre) (L ws : List ℕ) (n : End) (s : ℕ) → walked (Some spot) (take (all_states t) L) ≡ n → s ≡ all_states t
      → ws ≡ take s L ++ drop s out → ◌≡◌ {A = Outcome} (record { answer = Ok s; words = ws }) (at_end t out n)
  end_prices spot L ws n s f q h = rw (← f, h, q)

-- ---- what the words say

module _ (t : Task) (ok : Valid t) (path : List ℕ) (fits : length path ≤ 4095) (centred : Centred t path) (l : Layer) (e : walk t (first_layer t) path ≡ ends l) (rest : List ℕ) where
  -- a leaf state's price in the words
  word_is : (i x : ℕ) → i < t.leaves → x < states t (suc i) → price_in t (l.prices ++ rest) i x ≡ get_or (leaf_part t i l.prices) x mark
  unfolding leaf_part base
  word_is i x m h =
      let g = base_fits t i m in
      let n = walk_full t ok path fits centred l e in
      get_or-append l.prices rest mark (base t i + x) (omega arith)
      ∙ sym (get_or-take (states t (suc i)) (drop (base t i) l.prices) x mark h ∙ get_or-drop (base t i) l.prices x mark)

  -- demand 2 of the words
  pub priced_words : Priced t path mark (price_in t (l.prices ++ rest))
  priced_words = record { reached = reached; least = least }
    where
      w : Priced t path mark (λ i x. get_or (leaf_part t i l.prices) x mark)
      w = walk_priced t ok path fits centred l e

      sums : (xs : ℕ → ℕ) → Choice t xs
          → sum t.leaves (λ i. price_in t (l.prices ++ rest) i (xs i)) ≡ sum t.leaves (λ i. get_or (leaf_part t i l.prices) (xs i) mark)
      sums xs c = sum_ext t.leaves _ _ (λ i m. word_is i (xs i) m (c i m))

      reached : (xs : ℕ → ℕ) → Choice t xs → ((i : ℕ) → i < t.leaves → price_in t (l.prices ++ rest) i (xs i) < mark)
          → (acts : List ℕ) × (EndsAt t path xs acts × (leaf_cost t acts ≡ sum t.leaves (λ i. price_in t (l.prices ++ rest) i (xs i))))
      reached xs c h =
          let (acts, r) = w.reached xs c (λ i m. rw (← word_is i (xs i) m (c i m)) (h i m)) in
          (acts, (r.0, r.1 ∙ sym (sums xs c)))

      least : (xs : ℕ → ℕ) (acts : List ℕ) → EndsAt t path xs acts
          → ((i : ℕ) → i < t.leaves → price_in t (l.prices ++ rest) i (xs i) < mark)
          × (sum t.leaves (λ i. price_in t (l.prices ++ rest) i (xs i)) ≤ leaf_cost t acts)
      least xs acts z =
          let inside = final_inside t ok (initial t) acts ok.fields.initial_inside z.along.carries in
          let c : Choice t xs = λ i m. rw (← z.chosen i m) (number_lt t (suc i) inside) in
          let r = w.least xs acts z in
          (λ i m. rw (word_is i (xs i) m (c i m)) (r.0 i m), rw (sums xs c) r.1)

-- ---- the demands

-- the numbers of a call that is refused before the walk are none of the others
module _ (c : PathCall) where
  -- 1 to 11
  record_decided : (why : Refusal) → c.verdict ≡ number_of why → PathDecided c (number_of why)
  record_decided why v =
      let (some, few) = record_number why in
      record {
        in_record = λ n a b. (λ e. v ∙ e, λ e. sym v ∙ e);
        path_wrong = (λ e. absurd (omega arith), λ h. absurd (omega (arith, h.0)));
        slice_short = (λ e. absurd (omega arith), λ h. absurd (omega (arith, h.0)));
        not_applicable = (λ e. absurd (omega arith), λ h. absurd (omega (arith, h.0.read)));
        priced = (λ e. absurd (omega arith), λ h. absurd (omega (arith, h.0.read)));
      }

  module _ (v : c.verdict ≡ 0) where
    -- 12
    wrong_decided : PathOutside c.task c.path → PathDecided c 12
    wrong_decided w =
        record {
          in_record = λ n a b. (λ e. absurd (omega arith), λ e. absurd (omega arith));
          path_wrong = (λ e. (v, w), λ _. refl);
          slice_short = (λ e. absurd (omega arith), λ h. absurd (not_fits c.task c.path h.1.0 w));
          not_applicable = (λ e. absurd (omega arith), λ h. absurd (not_fits c.task c.path h.0.fits w));
          priced = (λ e. absurd (omega arith), λ h. absurd (not_fits c.task c.path h.0.fits w));
        }

    module _ (f : PathFits c.task c.path) where
      -- 21
      short_decided : length c.out < all_states c.task → PathDecided c 21
      short_decided l =
          record {
            in_record = λ n a b. (λ e. absurd (omega arith), λ e. absurd (omega arith));
            path_wrong = (λ e. absurd (omega arith), λ h. absurd (not_fits c.task c.path f h.1));
            slice_short = (λ e. (v, (f, l)), λ _. refl);
            not_applicable = (λ e. absurd (omega arith), λ h. absurd (omega (arith, h.0.long)));
            priced = (λ e. absurd (omega arith), λ h. absurd (omega (arith, h.0.long)));
          }

      module _ (l : all_states c.task ≤ length c.out) where
        accepted : PathAccepted c
        accepted = record { read = v; fits = f; long = l }

        -- 13
        stuck_decided : NoSequence c.task c.path → PathDecided c 13
        stuck_decided none =
            record {
              in_record = λ n a b. (λ e. absurd (omega arith), λ e. absurd (omega arith));
              path_wrong = (λ e. absurd (omega arith), λ h. absurd (not_fits c.task c.path f h.1));
              slice_short = (λ e. absurd (omega arith), λ h. absurd (omega (arith, h.1.1)));
              not_applicable = (λ e. (accepted, none), λ _. refl);
              priced = (λ e. absurd (omega arith), λ h. absurd (none h.1.0 h.1.1));
            }

        -- prices
        ends_decided : SomeSequence c.task c.path → PathDecided c 0
        ends_decided some =
            record {
              in_record = λ n a b. (λ e. absurd (omega arith), λ e. absurd (omega arith));
              path_wrong = (λ e. absurd (omega arith), λ h. absurd (not_fits c.task c.path f h.1));
              slice_short = (λ e. absurd (omega arith), λ h. absurd (omega (arith, h.1.1)));
              not_applicable = (λ e. absurd (omega arith), λ h. absurd (h.1 some.0 some.1));
              priced = (λ e. (accepted, some), λ _. refl);
            }

-- an outcome as the demands see it
abbrev pub Met : PathCall → Outcome → Type 0
Met c o = PathMeets c mark (price_in c.task o.words) o.words (price_told o.answer).number

-- a refusal leaves the slice as it was
refused_meets : (c : PathCall) (why : PriceRefusal) → (price_refusal_number why ≡ 0 → ⊥) → PathDecided c (price_refusal_number why) → Met c (refuse why c.out)
refused_meets c why n d =
    record { decided = d; prices = λ e. absurd (n e); untouched = record { behind = λ e. absurd (n e); whole = λ _. refl } }

-- the outcome for a task
module _ (t : Task) (ok : Valid t) (path out : List ℕ) where
  abbrev c : PathCall
  c = record { verdict = 0; task = t; path = path; out = out }

  -- where the walk ends or is stuck
  end_meets : path_fits t path ≡ true → all_states t ≤ length out → (n : End) → walk t (first_layer t) path ≡ n → Met c (at_end t out n)
  end_meets f long stuck e =
      refused_meets c NotApplicable (λ x. absurd (omega arith))
      (stuck_decided c refl (fits_in t path f) long (walk_stuck t ok path (fits_short t path f) (fits_centred t path f) e))
  end_meets f long (ends l) e =
      record {
        decided = ends_decided c refl (fits_in t path f) long (walk_some t ok path (fits_short t path f) (fits_centred t path f) l e);
        prices = λ _. priced_words t ok path (fits_short t path f) (fits_centred t path f) l e (drop (all_states t) out);
        untouched =
            record {
              behind = λ _. drop_at l.prices (drop (all_states t) out) (all_states t) (walk_full t ok path (fits_short t path f) (fits_centred t path f) l e);
              whole = λ n. absurd (n refl);
            };
      }

  task_meets : Met c (task_prices t path out)
  unfolding task_prices
  task_meets = go (path_fits t path) refl (leb (all_states t) (length out)) refl
    where
      go : (a : Bool) → path_fits t path ≡ a → (b : Bool) → leb (all_states t) (length out) ≡ b
          → Met c (unless a PathWrong out (unless b SliceShort out (at_end t out (walk t (first_layer t) path))))
      go true f true g = end_meets f (leb-true _ _ g) (walk t (first_layer t) path) refl
      go true f false g = refused_meets c SliceShort (λ x. absurd (omega arith)) (short_decided c refl (fits_in t path f) (leb-false _ _ g))
      go false f b g = refused_meets c PathWrong (λ x. absurd (omega arith)) (wrong_decided c refl (fits_out t path f))

-- how many prices are written
abbrev Counted : Task → Result ℕ PriceRefusal → Type 0
Counted t a = (price_told a).number ≡ 0 → (price_told a).count ≡ all_states t

refused_count : (t : Task) (why : PriceRefusal) → (price_refusal_number why ≡ 0 → ⊥) → Counted t (Err why)
refused_count t why n e = absurd (n e)

task_count : (t : Task) (path out : List ℕ) → Counted t (task_prices t path out).answer
unfolding task_prices
task_count t path out = go (path_fits t path) (leb (all_states t) (length out)) (walk t (first_layer t) path)
  where
    go : (a b : Bool) (n : End) → Counted t (unless a PathWrong out (unless b SliceShort out (at_end t out n))).answer
    go true true (ends l) = λ _. refl
    go true true stuck = refused_count t NotApplicable (λ x. absurd (omega arith))
    go true false n = refused_count t SliceShort (λ x. absurd (omega arith))
    go false b n = refused_count t PathWrong (λ x. absurd (omega arith))

module _ (rec path out : List ℕ) where
  -- the outcome for a record meets the demands
  pub record_meets : Met (call_on rec path out) (prices_of rec path out)
  unfolding prices_of
  record_meets = go (read_record rec).verdict refl
    where
      t : Task
      t = (read_record rec).task

      go : (v : Verdict) → (read_record rec).verdict ≡ v → Met (record { verdict = verdict_number v; task = t; path = path; out = out }) (on_verdict v t path out)
      go Accepted e = task_meets t (accepted_valid rec e) path out
      go (Refused why) e =
          refused_meets _ (PriceInRecord why) (λ x. absurd (omega (arith, (record_number why).0))) (record_decided _ why refl)

  record_count : Counted (read_record rec).task (prices_of rec path out).answer
  unfolding prices_of
  record_count = go (read_record rec).verdict
    where
      go : (v : Verdict) → Counted (read_record rec).task (on_verdict v (read_record rec).task path out).answer
      go Accepted = task_count (read_record rec).task path out
      go (Refused why) = refused_count (read_record rec).task (PriceInRecord why) (λ x. absurd (omega (arith, (record_number why).0)))

  -- a refused record
  pub record_refused : {why : Refusal} → (read_record rec).verdict ≡ Refused why → refuse (PriceInRecord why) out ≡ prices_of rec path out
  unfolding prices_of
  record_refused e = rw e

  -- an accepted one
  pub record_accepted : {t : Task} {o : Outcome} → read_told (Ok t) ≡ read_record rec → o ≡ task_prices t path out → o ≡ prices_of rec path out
  unfolding prices_of
  record_accepted e q = rw (← e) q

  -- what the answer says
  pub outcome_says : (r : Result ℕ PriceRefusal) (ws : List ℕ) → ◌≡◌ {A = Outcome} (record { answer = r; words = ws }) (prices_of rec path out)
      → let t = (read_record rec).task in
      ◌≡◌ {A = Outcome} (record { answer = r; words = ws }) (prices_of rec path out)
      × (PathDecided (call_on rec path out) (price_told r).number
      × (((price_told r).number ≡ 0 → Priced t path mark (price_in t ws))
      × (PricesUntouched (call_on rec path out) ws (price_told r).number × ((price_told r).number ≡ 0 → (price_told r).count ≡ all_states t))))
  outcome_says r ws e =
      let m : Met (call_on rec path out) (record { answer = r; words = ws }) = rw (← e) at record_meets in
      let k : Counted (read_record rec).task r = rw (← e) at record_count in
      (e, (m.decided, (m.prices, (m.untouched, k))))
