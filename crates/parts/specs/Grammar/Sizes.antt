-- Of the sizes that pairs are read with, only those of the task's own variables count. Assumes nothing.
use Rattle.std.specs.Prelude.{◌≡◌, refl, Bool, true, false, List, ℕ, ◌*◌, ◌<◌, ◌≤◌, leb, ltb, eqb, get_or, take, length}
use Rattle.std.proofs.Common.{leb-false, get_or-take, length-take-le}
use Rattle.loops.specs.Parsed.{Parsed, got, and_then, refuse_if, turns}
use Rattle.fields.specs.Fields.{VARIABLE, VALUE, PAIRS}
use Rattle.fields.specs.declared.Refusal.{Refusal}
use Rattle.fields.specs.declared.Refusal.TheVariants.{PairVariable, PairValue, NoEffects}
use Rattle.parts.specs.declared.Pair.{Pair}
use Rattle.parts.specs.declared.Actions.{Actions}
use Rattle.parts.specs.Grammar.{put_pair, put_action, pair_of, pairs_from, counted_pairs, effect_pairs, costs_of, action_of, actions_from}

module _ {S : Type 0} (next : ℕ → S → Parsed Refusal S ℕ) (sizes other : List ℕ) (n : ℕ)
    (same : (v : ℕ) → v < n → get_or other v 0 ≡ get_or sizes v 0) where
  -- the value of a pair whose variable is v
  abbrev value_from : List ℕ → ℕ → S → Parsed Refusal S Pair
  value_from xs v s =
      and_then (next VALUE s) λ x s'. refuse_if (leb (get_or xs v 0) x) PairValue (got (record { variable = v; value = x }) s')

  known : (v : ℕ) (s : S) (b : Bool) → leb n v ≡ b
      → refuse_if b PairVariable (value_from other v s) ≡ refuse_if b PairVariable (value_from sizes v s)
  known v s true e = refl
  known v s false e = rw (same v (leb-false n v e))

  pub pair_same : (low : ℕ) (s : S) → pair_of next other n low s ≡ pair_of next sizes n low s
  unfolding pair_of
  pair_same low s i = and_then (next VARIABLE s) λ v s'. refuse_if (ltb v low) PairVariable (known v s' (leb n v) refl i)

  pub pairs_same : (base count : ℕ) (into : List ℕ) (s : S) → pairs_from next other n base count into s ≡ pairs_from next sizes n base count into s
  unfolding pairs_from
  pairs_same base count into s i =
      and_then (turns (λ k ps s'. and_then (pair_same ps.low s' i) λ p s''. got (put_pair base ps p) s'') count 0 (record { low = 0; into = into }) s)
      λ ps s'. got ps.into s'

  pub counted_same : (base : ℕ) (into : List ℕ) (s : S) → counted_pairs next other n base into s ≡ counted_pairs next sizes n base into s
  unfolding counted_pairs
  counted_same base into s i = and_then (next PAIRS s) λ count s'. pairs_same base count into s' i

  pub effects_same : (base : ℕ) (into : List ℕ) (s : S) → effect_pairs next other n base into s ≡ effect_pairs next sizes n base into s
  unfolding effect_pairs
  effects_same base into s i = and_then (next PAIRS s) λ count s'. refuse_if (eqb count 0) NoEffects (pairs_same base count into s' i)

  pub action_same : (k : ℕ) (acts : Actions) (s : S) → action_of next other n k acts s ≡ action_of next sizes n k acts s
  unfolding action_of
  action_same k acts s i =
      and_then (costs_of next s) λ c s₁.
      and_then (counted_same (k * 32) acts.conditions s₁ i) λ cs s₂.
      and_then (effects_same (k * 32) acts.effects s₂ i) λ es s₃.
      got (put_action k acts c.handling c.distance cs es) s₃

  pub actions_same : (m k : ℕ) (acts : Actions) (s : S) → actions_from next other n m k acts s ≡ actions_from next sizes n m k acts s
  actions_same m k acts s i = turns (λ j a s'. action_same j a s' i) m k acts s

-- so it is the same to read with the n sizes alone
module _ {S : Type 0} (next : ℕ → S → Parsed Refusal S ℕ) (sizes : List ℕ) (n : ℕ) (few : n ≤ length sizes) where
  taken : (v : ℕ) → v < n → get_or (take n sizes) v 0 ≡ get_or sizes v 0
  taken v h = get_or-take n sizes v 0 h

  pub counted_taken : (base : ℕ) (into : List ℕ) (s : S)
      → counted_pairs next (take n sizes) (length (take n sizes)) base into s ≡ counted_pairs next sizes n base into s
  counted_taken base into s = rw (length-take-le n sizes few) (counted_same next sizes (take n sizes) n taken base into s)

  pub actions_taken : (m : ℕ) (acts : Actions) (s : S)
      → actions_from next (take n sizes) (length (take n sizes)) m 0 acts s ≡ actions_from next sizes n m 0 acts s
  actions_taken m acts s = rw (length-take-le n sizes few) (actions_same next sizes (take n sizes) n taken m 0 acts s)
