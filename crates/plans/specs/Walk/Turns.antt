-- The loops over the leaves of a node, a turn at a time: walking back, the last leaf first, and going over the node's action. Assumes nothing.
use Rattle.std.specs.Prelude.{◌≡◌, refl, ℕ, zero, suc, ◌+◌, ◌-◌, ◌*◌, ◌≤◌, ◌<◌, set}
use Rattle.std.proofs.Math.Path.{sym, ap}
use Rattle.std.proofs.Common.{◌∙◌, not-suc-le-zero, arith, length-set, get_or-set_same}
use mathlib.Core.List.{List, reverse}
use Rattle.std.proofs.Math.Decide.{ℕ_discrete}
use Rattle.std.proofs.Math.ListN.{length, get_or, length-append}
use Rattle.std.proofs.lemmas.List.{length-reverse}
use Rattle.std.proofs.Math.Seq.{get_or-set_other}
use Rattle.digits.specs.Digits.{Filled}
use Rattle.tables.specs.Tables.Laws.{filled_more}
use Rattle.search.specs.Plan.{Back}
use Rattle.search.specs.Plan.Laid.{put, laid, laid_append}
use Rattle.wayback.specs.Walked.{Walked}
use Rattle.plans.specs.Walk.{backs, LayerWalked, NodeWalked}

-- ---- walking back

-- leaf j's way, from the state in `ends`
abbrev pub ways_from : (ℕ → ℕ → Back) → List ℕ → ℕ → Back
ways_from g ends j = g j (get_or ends j 0)

-- i leaves are left: they are in their states, the others where their ways begin; and what is left is written from here as the whole from the start
pub record LayerLeft (n : ℕ) (g : ℕ → ℕ → Back) (total p₀ : ℕ) (ends₀ plan₀ : List ℕ) (i p : ℕ) (ends plan : List ℕ) : Type 0 where
  pub waits : (j : ℕ) → j < i → get_or ends j 0 ≡ get_or ends₀ j 0
  pub done : (j : ℕ) → i ≤ j → j < n → get_or ends j 0 ≡ (ways_from g ends₀ j).from
  pub room : p + i * 256 ≤ p₀ + n * 256
  pub end : p + length (backs (ways_from g ends₀) i) ≡ p₀ + length (backs (ways_from g ends₀) n)
  pub written : laid total p (backs (ways_from g ends₀) i) plan ≡ laid total p₀ (backs (ways_from g ends₀) n) plan₀

module _ (n : ℕ) (g : ℕ → ℕ → Back) (total p₀ : ℕ) (ends₀ plan₀ : List ℕ) where
  -- all leaves are left
  pub layer_all : LayerLeft n g total p₀ ends₀ plan₀ n p₀ ends₀ plan₀
  layer_all = record { waits = λ j l. refl; done = λ j a b. absurd (omega arith); room = omega arith; end = refl; written = refl }

  -- one leaf less
  less : (i p : ℕ) (ends plan : List ℕ) (s q : ℕ) (plan' : List ℕ) → i < length ends → length (g i (get_or ends i 0)).acts ≤ 256
      → Walked (g i (get_or ends i 0)) total p plan s q plan' → LayerLeft n g total p₀ ends₀ plan₀ (suc i) p ends plan
      → LayerLeft n g total p₀ ends₀ plan₀ i q (set ends i s) plan'
  unfolding backs
  less i p ends plan s q plan' h few w l =
      let same : g i (get_or ends i 0) ≡ ways_from g ends₀ i = ap (g i) (l.waits i (omega arith)) in
      let xs = reverse (ways_from g ends₀ i).acts in
      let many : length (g i (get_or ends i 0)).acts ≡ length xs =
      ap (λ (b : Back). length b.acts) same ∙ sym (length-reverse (ways_from g ends₀ i).acts) in
      let plan_is : plan' ≡ laid total p xs plan = w.plan ∙ ap (λ (b : Back). laid total p (reverse b.acts) plan) same in
      record {
        waits = λ j k. get_or-set_other ends i j s 0 (λ e. omega arith) ∙ l.waits j (omega arith);
        done = λ j a b. state j a b (ℕ_discrete j i);
        room = omega (arith, w.place, l.room);
        end = omega (arith, w.place, many, simp length-append at l.end);
        written =
            rw (w.place, plan_is, many) (sym (laid_append total p xs (backs (ways_from g ends₀) i) plan) ∙ l.written);
      }
    where
      state : (j : ℕ) → i ≤ j → j < n → Dec (j ≡ i) → get_or (set ends i s) j 0 ≡ (ways_from g ends₀ j).from
      state j a b (yes e) =
          rw e (get_or-set_same ends i s 0 h ∙ w.state ∙ ap (λ (y : ℕ). (g i y).from) (l.waits i (omega arith)))
      state j a b (no d) = get_or-set_other ends i j s 0 d ∙ l.done j (omega arith) b

  pub layer_less : (i p : ℕ) (ends plan : List ℕ) (s q : ℕ) (plan' : List ℕ) → 0 < i → i ≤ length ends
      → length (g (i - 1) (get_or ends (i - 1) 0)).acts ≤ 256
      → Walked (g (i - 1) (get_or ends (i - 1) 0)) total p plan s q plan' → LayerLeft n g total p₀ ends₀ plan₀ i p ends plan
      → LayerLeft n g total p₀ ends₀ plan₀ (i - 1) q (set ends (i - 1) s) plan'
  layer_less zero p ends plan s q plan' z h few w l = absurd (not-suc-le-zero z)
  layer_less (suc i) p ends plan s q plan' z h few w l =
      let back : suc i - 1 ≡ i = omega arith in
      rw back (less i p ends plan s q plan' h (rw back at few) (rw back at w) l)

  -- no leaf is left
  pub layer_end : (i p : ℕ) (ends plan : List ℕ) → i ≡ 0 → LayerLeft n g total p₀ ends₀ plan₀ i p ends plan
      → LayerWalked n (ways_from g ends₀) total p₀ plan₀ p ends plan
  unfolding backs laid
  layer_end i p ends plan z l =
      let d = rw z at l in
      record { place = omega (arith, d.end); written = d.written; states = λ j b. d.done j (omega arith) b }

-- ---- going over

-- the leaves below i are where `go` leads from their states, the others as they were
pub record OverLeft (go : ℕ → ℕ → ℕ) (ends₀ : List ℕ) (i : ℕ) (ends : List ℕ) : Type 0 where
  pub kept : length ends ≡ length ends₀
  pub done : Filled i (λ j. go j (get_or ends₀ j 0)) ends
  pub waits : (j : ℕ) → i ≤ j → get_or ends j 0 ≡ get_or ends₀ j 0

module _ (go : ℕ → ℕ → ℕ) (ends₀ : List ℕ) where
  -- none so far
  pub over_none : OverLeft go ends₀ 0 ends₀
  over_none = record { kept = refl; done = λ j l. absurd (not-suc-le-zero l); waits = λ j l. refl }

  -- one leaf more
  pub over_more : (i : ℕ) (ends : List ℕ) {y : ℕ} → i < length ends → y ≡ go i (get_or ends i 0)
      → OverLeft go ends₀ i ends → OverLeft go ends₀ (i + 1) (set ends i y)
  over_more i ends {y} h e l =
      record {
        kept = simp length-set l.kept;
        done = filled_more (λ j. go j (get_or ends₀ j 0)) i ends h l.done (e ∙ ap (go i) (l.waits i (omega arith)));
        waits = λ j k. get_or-set_other ends i j y 0 (λ q. omega arith) ∙ l.waits j (omega arith);
      }

-- ---- a node

-- its layer, its action, and over it
pub node_done : (n : ℕ) (f : ℕ → Back) (go : ℕ → ℕ → ℕ) (total p : ℕ) (plan : List ℕ) (r a b : ℕ) (ends' plan' ends'' plan'' : List ℕ)
    → LayerWalked n f total p plan r ends' plan' → plan'' ≡ put total r b plan' → b ≡ a → Filled n (λ i. go i (get_or ends' i 0)) ends''
    → NodeWalked n f a go total p plan (r + 1) ends'' plan''
node_done n f go total p plan r a b ends' plan' ends'' plan'' w e q over =
    record {
      place = rw w.place;
      written = e ∙ rw (w.place, w.written, q);
      states = λ i l. over i l ∙ ap (go i) (w.states i l);
    }
