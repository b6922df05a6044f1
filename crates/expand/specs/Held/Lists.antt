-- Which actions of a node need a turn: those whose centre conditions hold, but for detours. Assumes nothing.
use Rattle.std.specs.Prelude.{◌≡◌, ◌⊎◌, Bool, true, false, not, ◌&&◌, List, ℕ, ◌+◌, ◌-◌, ◌*◌, ◌/◌, ◌%◌, ◌≤◌, ◌<◌, leb, eqb, length, take}
use Rattle.std.proofs.Math.Path.{refl}
use Rattle.std.proofs.Common.{sym, ap, ◌∙◌, inl, inr, true≢false, arith}
use Rattle.std.proofs.Math.ListN.{get_or}
use borrow.Author.Tests.{leb-true, eqb-true, eqb-false, not-true}
use Rattle.loops.specs.Count.Laws.{and_out, or_out}
use Rattle.task.specs.declared.Centre.{Centre}
use Rattle.layer.specs.Board.{Board, row_on, met_on}
use Rattle.mets.specs.Listed.{Listed, listed_front}
use Rattle.rows.specs.Row.{node_in}
use Rattle.hops.specs.Hops.{HopOn, Hops, Ways}
use Rattle.detours.specs.Detours.{detours}
use Rattle.expand.specs.Held.{Aside, Useful}

-- the word of the hop from the value that the first leaves to the one that the second takes has the variable and the values of those
way_parts : (h m n : ℕ) → n ≡ (h - 1) / 16 * 16 + (m - 1) % 16 + 1
    → ((n - 1) / 256 ≡ (h - 1) / 256) × ((n - 1) / 16 % 16 ≡ (h - 1) / 16 % 16) × ((n - 1) % 16 ≡ (m - 1) % 16)
way_parts h m n e =
    let left : (n - 1) / 16 ≡ (h - 1) / 16 = omega arith in
    (omega arith, ap (λ (k : ℕ). k % 16) left, omega arith)

module _ (b : Board) (effects : List ℕ) (spot : Centre) (T : List ℕ) (u : ℕ) (old : List ℕ) where
  -- all whose conditions hold
  pub useful_all : (m : ℕ) (f : ℕ → ℕ) → Listed (met_on b spot) b.actions m f → Useful b effects spot T u old m f
  useful_all m f listed = record { test = met_on b spot; listed = listed; met = λ a l e. e; out = λ a l e. inl e }

  -- the same at the front of a longer list
  pub useful_front : (m : ℕ) (acts : List ℕ) → m ≤ length acts → Useful b effects spot T u old m (λ j. get_or acts j 0)
      → Useful b effects spot T u old (length (take m acts)) (λ j. get_or (take m acts) j 0)
  useful_front m acts fits x = record { test = x.test; listed = listed_front _ _ m acts fits x.listed; met = x.met; out = x.out }

  -- the hop that made the node
  abbrev by : ℕ
  by = (node_in (row_on b) T u).action

  module _ (hops ways : List ℕ) (isHops : Hops b.actions b effects hops) (isWays : Ways b.actions hops ways) (h : ℕ) (some : h ≡ 0 → ⊥)
      (lower : (node_in (row_on b) T u).parent < u) (known : by < b.actions) (word : get_or hops by 0 ≡ h)
      (alike : (node_in (row_on b) T (node_in (row_on b) T u).parent).prices ≡ take (row_on b) old) where
    -- what the test finds is a detour
    aside : (k : ℕ) → k < b.actions → detours hops ways b.costs h (get_or b.costs by 0) k ≡ true → Aside b effects T u old k
    unfolding detours
    aside k l e =
        let m = get_or hops k 0 in
        let d = get_or ways ((h - 1) / 16 * 16 + (m - 1) % 16) 0 in
        let (p, q) = and_out (not (eqb m 0)) _ e in
        let (same, w) = and_out (eqb ((h - 1) / 256) ((m - 1) / 256)) _ q in
        let variable : (h - 1) / 256 ≡ (m - 1) / 256 = eqb-true _ _ same in
        record {
          lower = lower;
          known = known;
          alike = alike;
          v = (h - 1) / 256;
          x = (h - 1) / 16 % 16;
          y = (h - 1) % 16;
          w = (m - 1) / 16 % 16;
          z = (m - 1) % 16;
          first = rw word at ((isHops.word by known).hop (λ z. some (sym word ∙ z)));
          second = rw (← variable) at ((isHops.word k l).hop (eqb-false m 0 (not-true (eqb m 0) p)));
          way = way d refl (or_out _ _ w);
        }
      where
        Way : Type 0
        Way = ((get_or hops k 0 - 1) % 16 ≡ (h - 1) / 16 % 16)
            ⊎ ((d : ℕ) × ((d < b.actions) × (HopOn b effects d ((h - 1) / 256) ((h - 1) / 16 % 16) ((get_or hops k 0 - 1) % 16)
            × (get_or b.costs d 0 ≤ get_or b.costs by 0 + get_or b.costs k 0))))

        way : (d : ℕ) → get_or ways ((h - 1) / 16 * 16 + (get_or hops k 0 - 1) % 16) 0 ≡ d
            → (eqb ((h - 1) / 16 % 16) ((get_or hops k 0 - 1) % 16) ≡ true)
            ⊎ ((not (eqb d 0) && leb (get_or b.costs (d - 1) 0) (get_or b.costs by 0 + get_or b.costs k 0)) ≡ true)
            → Way
        way d isWay (inl e) = inl (sym (eqb-true _ _ e))
        way d isWay (inr e) =
            let (p, q) = and_out (not (eqb d 0)) _ e in
            let g = (h - 1) / 16 * 16 + (get_or hops k 0 - 1) % 16 in
            let inside : g < 8192 = omega (arith, (isHops.word by known).few, word) in
            let some-way : d ≡ 0 → ⊥ = eqb-false d 0 (not-true (eqb d 0) p) in
            let (l, f) = isWays.way g inside (λ z. some-way (sym isWay ∙ z)) in
            let isWord : get_or hops (d - 1) 0 ≡ g + 1 = rw isWay at f in
            let (one, two, three) = way_parts h (get_or hops k 0) (get_or hops (d - 1) 0) isWord in
            let hop = (isHops.word (d - 1) (rw isWay at l)).hop (λ z. omega (arith, z, isWord)) in
            inr (d - 1, (rw isWay at l, (rw (one, two, three) at hop, leb-true _ _ q)))

    -- those whose conditions hold and that are no detours
    pub useful_dropped : (m : ℕ) (f : ℕ → ℕ) → Listed (λ k. met_on b spot k && not (detours hops ways b.costs h (get_or b.costs by 0) k)) b.actions m f
        → Useful b effects spot T u old m f
    useful_dropped m f listed =
        record {
          test = λ k. met_on b spot k && not (detours hops ways b.costs h (get_or b.costs by 0) k);
          listed = listed;
          met = λ a l e. (and_out (met_on b spot a) _ e).0;
          out = λ a l e. go a l (met_on b spot a) refl (detours hops ways b.costs h (get_or b.costs by 0) a) refl e;
        }
      where
        go : (a : ℕ) → a < b.actions → (p : Bool) → met_on b spot a ≡ p → (q : Bool) → detours hops ways b.costs h (get_or b.costs by 0) a ≡ q → (p && not q) ≡ false
            → (met_on b spot a ≡ false) ⊎ Aside b effects T u old a
        go a l false e q f z = inl e
        go a l true e true f z = inr (aside a l f)
        go a l true e false f z = absurd (true≢false z)
