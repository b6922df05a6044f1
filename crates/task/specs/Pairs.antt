-- Laws of partial assignments by factors, of the centre state, and of the gate: what pairs on one factor see of a state.
-- Each is about any count of variables and any factors, no task. Assumes nothing.
use Rattle.std.specs.Prelude.{◌≡◌, refl, ◌≢◌, Bool, true, false, cond, not, ◌&&◌, ◌||◌, ℕ, suc, ◌≤◌, ◌<◌, eqb}
use Rattle.std.proofs.Common.{sym, ap, ◌∙◌, true≢false, arith, eqb-true, eq-eqb, ne_eqb}
use Rattle.loops.specs.Count.Laws.{all_in, all_out, all_ext, all_rest, list_at, list_ext}
use Rattle.task.specs.declared.Centre.{Centre}
use Rattle.task.specs.Meaning.{State, Partial, free, met, holds, put}
use Rattle.task.specs.Factors.{named, within, holds_in, gate}
use Rattle.task.specs.Centre.{value_in, centre_of, centre_after}

-- ---- pairs, by the number of variables and their factors

-- a variable of a factor outside the two is not named
pub within_out : (n : ℕ) (fac : ℕ → ℕ) (g h : ℕ) (p : Partial) → within n fac g h p ≡ true → (v : ℕ) → v < n → fac v ≢ g → fac v ≢ h → p v ≡ free
unfolding within
within_out n fac g h p e v l d d' = go _ refl (all_out n _ e v l)
  where
    go : (b : Bool) → eqb (p v) free ≡ b → (not (not (eqb (p v) free)) || (eqb (fac v) g || eqb (fac v) h)) ≡ true → p v ≡ free
    go true q w = eqb-true (p v) free q
    go false q w = absurd (true≢false (sym (rw (q, ne_eqb (fac v) g d, ne_eqb (fac v) h d') at w)))

-- whether pairs hold depends on the factor's own values alone
pub holds_ext : (n : ℕ) (fac : ℕ → ℕ) (g : ℕ) (p : Partial) (s r : State) → ((v : ℕ) → v < n → fac v ≡ g → s v ≡ r v)
    → holds_in n fac g p s ≡ holds_in n fac g p r
unfolding holds_in
holds_ext n fac g p s r h = all_ext n _ _ (λ v l. go v l _ refl)
  where
    go : (v : ℕ) → v < n → (b : Bool) → eqb (fac v) g ≡ b → (not (eqb (fac v) g) || met (p v) (s v)) ≡ (not (eqb (fac v) g) || met (p v) (r v))
    go v l true e = rw (h v l (eqb-true _ _ e))
    go v l false e = rw e

-- where the factor has no named variable, its pairs hold
pub holds_free : (n : ℕ) (fac : ℕ → ℕ) (g : ℕ) (p : Partial) (s : State) → ((v : ℕ) → v < n → fac v ≡ g → p v ≡ free) → holds_in n fac g p s ≡ true
unfolding holds_in
holds_free n fac g p s h = all_in n _ (λ v l. go v l _ refl)
  where
    go : (v : ℕ) → v < n → (b : Bool) → eqb (fac v) g ≡ b → (not (eqb (fac v) g) || met (p v) (s v)) ≡ true
    go v l true e = rw (e, h v l (eqb-true _ _ e))
    go v l false e = rw e

-- pairs that hold do so in each factor
pub holds_split : (n : ℕ) (fac : ℕ → ℕ) (g : ℕ) (p : Partial) (s : State) → holds n p s ≡ true → holds_in n fac g p s ≡ true
unfolding holds holds_in
holds_split n fac g p s h = all_in n _ (λ v l. go (eqb (fac v) g) (all_out n _ h v l))
  where
    go : {c : Bool} (b : Bool) → c ≡ true → (not b || c) ≡ true
    go true e = e
    go false e = refl

-- pairs that hold in the factor of each variable hold
pub holds_join : (n : ℕ) (fac : ℕ → ℕ) (p : Partial) (s : State) → ((v : ℕ) → v < n → holds_in n fac (fac v) p s ≡ true) → holds n p s ≡ true
unfolding holds holds_in
holds_join n fac p s h = all_in n _ (λ v l. rw (eq-eqb (fac v) (fac v) refl) at (all_out n _ (h v l) v l))

-- variables from n up that are not in the factor do not count
pub holds_rest : (n m : ℕ) (fac : ℕ → ℕ) (g : ℕ) (p : Partial) (s : State) → n ≤ m → ((v : ℕ) → n ≤ v → v < m → fac v ≢ g)
    → holds_in m fac g p s ≡ holds_in n fac g p s
unfolding holds_in
holds_rest n m fac g p s l h = all_rest n m _ l (λ v k k'. rw (ne_eqb (fac v) g (h v k k')))

-- ---- the centre state, by the variables' factors

-- a centre variable's value
pub centre_value : (fac : ℕ → ℕ) (s : State) (v : ℕ) → v < 32 → fac v ≡ 0 → value_in (centre_of fac s) v ≡ s v
unfolding centre_of
centre_value fac s v l f = list_at 32 _ v l ∙ rw (eq-eqb (fac v) 0 f)

-- elsewhere stands 0
pub centre_blank : (fac : ℕ → ℕ) (s : State) (v : ℕ) → v < 32 → eqb (fac v) 0 ≡ false → value_in (centre_of fac s) v ≡ 0
unfolding centre_of
centre_blank fac s v l e = list_at 32 _ v l ∙ rw e

-- a centre state depends on the centre's own values alone
pub centre_ext : (fac : ℕ → ℕ) (s r : State) → ((v : ℕ) → v < 32 → fac v ≡ 0 → s v ≡ r v) → centre_of fac s ≡ centre_of fac r
unfolding centre_of
centre_ext fac s r h = ap {B = Centre} (λ xs. record { values = xs }) (list_ext 32 _ _ (λ v l. go v l _ refl))
  where
    go : (v : ℕ) → v < 32 → (b : Bool) → eqb (fac v) 0 ≡ b → cond (eqb (fac v) 0) (s v) 0 ≡ cond (eqb (fac v) 0) (r v) 0
    go v l true e = rw (h v l (eqb-true (fac v) 0 e))
    go v l false e = rw e

-- a centre state takes effects as the state does
pub centre_put : (fac : ℕ → ℕ) (q : Partial) (s : State) → centre_of fac (put q s) ≡ centre_after fac q (centre_of fac s)
unfolding centre_of centre_after
centre_put fac q s = ap {B = Centre} (λ xs. record { values = xs }) (list_ext 32 _ _ (λ v l. go v l _ refl _ refl))
  where
    go : (v : ℕ) → v < 32 → (b : Bool) → eqb (fac v) 0 ≡ b → (c : Bool) → eqb (q v) free ≡ c
        → cond (eqb (fac v) 0) (put q s v) 0 ≡ cond (eqb (fac v) 0 && named (q v)) (q v) (value_in (centre_of fac s) v)
    go v l true e true d = rw (e, d) (sym (centre_value fac s v l (eqb-true (fac v) 0 e)))
    go v l true e false d = rw (e, d)
    go v l false e c d = rw e (sym (centre_blank fac s v l e))

-- ---- the gate of a leaf state

-- where the test passes, the gate lets the number through
pub gate_in : (b : Bool) (y : ℕ) → b ≡ true → gate b y ≡ suc y
gate_in b y e = rw e

-- what comes through has passed the test
pub gate_out : (b : Bool) (y : ℕ) {z : ℕ} → gate b y ≡ suc z → (b ≡ true) × (y ≡ z)
gate_out true y e = (refl, omega arith)
gate_out false y e = absurd (omega arith)
