-- The known words: slots of 576 bytes that hold what is known of centre states met lately. In a slot stand 256 flags, the 32 values of the centre state, at 288 a 1
-- once it is filled, at 289 how many actions are listed, and these from 320 on. Nobody but the code and its proof looks at these.
use Rattle.std.specs.Prelude.{◌≡◌, refl, ◌⊎◌, Bool, true, false, cond, List, ◌++◌, ℕ, ◌+◌, ◌*◌, ◌-◌, ◌≤◌, ◌<◌, length, get_or, set, take, drop, replicate}
use Rattle.std.proofs.Common.{sym, ap, ◌∙◌, inl, inr, arith, length-set, length-take, length-drop, length-append, get_or-set_same, get_or-set_other, get_or-take, get_or-drop, get_or-append-add}
use Rattle.std.proofs.Math.Decide.{dec_le, ℕ_discrete}
use Rattle.std.proofs.lemmas.List.{get_or-replicate}
use Rattle.std.proofs.Math.ListN.{get_or-append}
use Rattle.loops.specs.Count.Laws.{all_ext, below_cases}
use Rattle.task.specs.declared.Centre.{Centre}
use Rattle.task.specs.Factors.{holds_in}
use Rattle.task.specs.Centre.{value_in, centre_meets}
use Rattle.layer.specs.Board.{Board, met_on}
use Rattle.layer.specs.First.{Firsts, asks_of}
use Rattle.mets.specs.Mets.{Mets}
use Rattle.mets.specs.Listed.{Listed, listed_ext}

-- the flags of the first n actions: 1 where the action's centre conditions hold in centre state c, else 0
pub record Flagged (b : Board) (c : Centre) (n : ℕ) (flags : List ℕ) : Type 0 where
  pub long : length flags ≡ 256
  pub right : (a : ℕ) → a < n → get_or flags a 0 ≡ cond (met_on b c a) 1 0

-- the first n entries of xs stand in K' from `at` on, and its others are those of K
pub record Stored (at n : ℕ) (xs K K' : List ℕ) : Type 0 where
  pub long : length K' ≡ length K
  pub inside : (j : ℕ) → j < n → get_or K' (at + j) 0 ≡ get_or xs j 0
  pub outside : (k : ℕ) → (k < at) ⊎ (at + n ≤ k) → get_or K' k 0 ≡ get_or K k 0

-- a slot, byte by byte, holds what is known of centre state c: right flags, and a list of the actions whose conditions hold
pub record Told (b : Board) (c : Centre) (f : ℕ → ℕ) : Type 0 where
  pub right : (a : ℕ) → a < b.actions → f a ≡ cond (met_on b c a) 1 0
  pub listed : Listed (met_on b c) b.actions (f 289) (λ j. f (320 + j))

-- where a slot is filled, it holds what is known of every centre state with the values that stand there
abbrev pub Slot : Board → (ℕ → ℕ) → Type 0
Slot b f = (f 288 ≡ 0 → ⊥) → (c : Centre) → ((v : ℕ) → v < 32 → f (256 + v) ≡ value_in c v) → Told b c f

-- 64 slots
pub record Known (b : Board) (K : List ℕ) : Type 0 where
  pub long : length K ≡ 36864
  pub slots : (s : ℕ) → s < 64 → Slot b (λ i. get_or K (s * 576 + i) 0)

-- no slot is filled
pub known_none : (b : Board) → Known b (replicate 36864 0)
known_none b =
    record {
      long = refl;
      slots = λ s l d. absurd (d (get_or-replicate {A = ℕ} 36864 (s * 576 + 288) 0 0 (omega arith)));
    }

-- what is stored one by one
pub stored_none : (at : ℕ) (xs K : List ℕ) → Stored at 0 xs K K
stored_none at xs K = record { long = refl; inside = λ j l. absurd (omega (arith, l)); outside = λ k _. refl }

pub stored_more : (at n : ℕ) (xs K K' : List ℕ) → at + n < length K → Stored at n xs K K' → Stored at (n + 1) xs K (set K' (at + n) (get_or xs n 0))
stored_more at n xs K K' h s =
    record {
      long = length-set K' (at + n) (get_or xs n 0) ∙ s.long;
      inside = λ j l. inside j (below_cases (omega arith));
      outside = λ k o. get_or-set_other K' (at + n) k (get_or xs n 0) 0 (apart k o) ∙ s.outside k (wider k o);
    }
  where
    inside : (j : ℕ) → (j < n) ⊎ (j ≡ n) → get_or (set K' (at + n) (get_or xs n 0)) (at + j) 0 ≡ get_or xs j 0
    inside j (inl l) = get_or-set_other K' (at + n) (at + j) (get_or xs n 0) 0 (λ e. omega arith) ∙ s.inside j l
    inside j (inr e) = rw (e, get_or-set_same K' (at + n) (get_or xs n 0) 0 (omega (arith, s.long)))

    apart : (k : ℕ) → (k < at) ⊎ (at + (n + 1) ≤ k) → k ≡ at + n → ⊥
    apart k (inl l) e = omega arith
    apart k (inr l) e = omega arith

    wider : (k : ℕ) → (k < at) ⊎ (at + (n + 1) ≤ k) → (k < at) ⊎ (at + n ≤ k)
    wider k (inl l) = inl l
    wider k (inr l) = inr (omega arith)

-- a flag of 0 or 1 tells whether the conditions hold
flag_unmet : (m : Bool) (f : ℕ) → f ≡ cond m 1 0 → f ≡ 0 → m ≡ false
flag_unmet true f e z = absurd (omega arith)
flag_unmet false f e z = refl

flag_met : (m : Bool) (f : ℕ) → f ≡ cond m 1 0 → (f ≡ 0 → ⊥) → m ≡ true
flag_met true f e z = refl
flag_met false f e z = absurd (z e)

-- so flags that are right for all actions are the table of flags
flagged_mets : (b : Board) (c : Centre) (flags : List ℕ) → Flagged b c b.actions flags → Mets b c flags
flagged_mets b c flags s =
    record {
      long = s.long;
      unmet = λ a l z. flag_unmet (met_on b c a) (get_or flags a 0) (s.right a l) z;
      met = λ a l z. flag_met (met_on b c a) (get_or flags a 0) (s.right a l) z;
    }

-- only the 32 values count
met_ext : (b : Board) (c d : Centre) (a : ℕ) → ((v : ℕ) → v < 32 → value_in c v ≡ value_in d v) → met_on b c a ≡ met_on b d a
unfolding centre_meets holds_in
met_ext b c d a e = all_ext 32 _ _ (λ v l. rw (e v l))

-- ---- what a slot tells

-- the same bytes
told_ext : (b : Board) (c : Centre) (f g : ℕ → ℕ) → b.actions ≤ 255 → ((i : ℕ) → i < 576 → f i ≡ g i) → Told b c f → Told b c g
told_ext b c f g few same t =
    record {
      right = λ a l. sym (same a (omega arith)) ∙ t.right a l;
      listed = rw (← same 289 (omega arith)) (listed_ext _ _ _ _ _ _ (λ a l. refl) (λ j l. same (320 + j) (omega (arith, t.listed.few))) t.listed);
    }

slot_ext : (b : Board) (f g : ℕ → ℕ) → b.actions ≤ 255 → ((i : ℕ) → i < 576 → f i ≡ g i) → Slot b f → Slot b g
slot_ext b f g few same h filled c values =
    told_ext b c f g few same (h (λ e. filled (sym (same 288 (omega arith)) ∙ e)) c (λ v l. same (256 + v) (omega arith) ∙ values v l))

-- another centre state with the same values
told_same : (b : Board) (c d : Centre) (f : ℕ → ℕ) → ((v : ℕ) → v < 32 → value_in c v ≡ value_in d v) → Told b c f → Told b d f
told_same b c d f values t =
    record {
      right = λ a l. t.right a l ∙ ap (λ m. cond m 1 0) (met_ext b c d a values);
      listed = listed_ext _ _ _ _ _ _ (λ a l. met_ext b c d a values) (λ j l. refl) t.listed;
    }

-- a slot that holds the centre state's values
told_slot : (b : Board) (c : Centre) (f : ℕ → ℕ) → ((v : ℕ) → v < 32 → f (256 + v) ≡ value_in c v) → Told b c f → Slot b f
told_slot b c f own t filled d values = told_same b c d f (λ v l. sym (own v l) ∙ values v l) t

-- what is lent of a list from `at` to `end`
lent_at : (K : List ℕ) (at end i : ℕ) → i < end - at → get_or (take (end - at) (drop at K)) i 0 ≡ get_or K (at + i) 0
lent_at K at end i l = get_or-take (end - at) (drop at K) i 0 l ∙ get_or-drop at K i 0

-- the flags are lent
pub told_mets : (b : Board) (c : Centre) (K : List ℕ) (at : ℕ) → b.actions ≤ 255 → at + 576 ≤ length K → Told b c (λ i. get_or K (at + i) 0)
    → Mets b c (take (at + 256 - at) (drop at K))
told_mets b c K at few room t =
    flagged_mets b c _ (record { long = simp (length-take, length-drop) (omega arith); right = λ a l. lent_at K at (at + 256) a (omega arith) ∙ t.right a l })

-- a part of a list is put in its place
pub stored_part : (K S : List ℕ) (at end : ℕ) → at ≤ end → end ≤ length K → length S ≡ end - at
    → Stored at (end - at) S K (take at K ++ (S ++ drop (end - at) (drop at K)))
stored_part K S at end h room long =
    record {
      long = simp (length-append, length-take, length-drop) (omega arith);
      inside = λ j l. behind j ∙ get_or-append S R 0 j (omega arith);
      outside = outside;
    }
  where
    R : List ℕ
    R = drop (end - at) (drop at K)

    front : length (take at K) ≡ at
    front = simp length-take (omega arith)

    behind : (j : ℕ) → get_or (take at K ++ (S ++ R)) (at + j) 0 ≡ get_or (S ++ R) j 0
    behind j = rw front at (get_or-append-add (take at K) (S ++ R) j 0)

    outside : (k : ℕ) → (k < at) ⊎ (at + (end - at) ≤ k) → get_or (take at K ++ (S ++ R)) k 0 ≡ get_or K k 0
    outside k (inl l) = get_or-append (take at K) (S ++ R) 0 k (omega (arith, front)) ∙ get_or-take at K k 0 l
    outside k (inr l) =
        let z : k ≡ at + (end - at + (k - end)) = omega arith in
        rw z (behind (end - at + (k - end))
        ∙ (rw long at (get_or-append-add S R (k - end) 0))
        ∙ get_or-drop (end - at) (drop at K) (k - end) 0
        ∙ get_or-drop at K (end - at + (k - end)) 0)

-- a place from 0 on
zero_first : (a : ℕ) → a ≡ 0 + a
zero_first a = omega arith

-- a list's front is put in its place
pub stored_front : (K S : List ℕ) (n : ℕ) → n ≤ length K → length S ≡ n → Stored 0 n S K (S ++ drop n K)
stored_front K S n room long =
    record {
      long = simp (length-append, length-drop) (omega arith);
      inside = λ j l. ap (λ k. get_or (S ++ drop n K) k 0) (sym (zero_first j)) ∙ get_or-append S (drop n K) 0 j (omega arith);
      outside = outside;
    }
  where
    outside : (k : ℕ) → (k < 0) ⊎ (0 + n ≤ k) → get_or (S ++ drop n K) k 0 ≡ get_or K k 0
    outside k (inl l) = absurd (omega (arith, l))
    outside k (inr l) =
        let z : k ≡ n + (k - n) = omega arith in
        rw z (rw long at (get_or-append-add S (drop n K) (k - n) 0) ∙ get_or-drop n K (k - n) 0)

-- ---- a slot is filled: the flags, the values, that it is filled, and then the list

module _ (b : Board) (c : Centre) (F vs S S₁ S₂ : List ℕ) (few : b.actions ≤ 255) (right : Flagged b c b.actions F)
    (one : Stored 0 256 F S S₁) (two : Stored 256 32 vs S₁ S₂) where
  -- before the list is made the flags are right, and none is above 1
  pub flags_right : (a : ℕ) → a < b.actions → get_or (set S₂ 288 1) a 0 ≡ cond (met_on b c a) 1 0
  flags_right a l =
      get_or-set_other S₂ 288 a 1 0 (λ e. omega arith)
      ∙ two.outside a (inl (omega arith))
      ∙ ap (λ k. get_or S₁ k 0) (zero_first a)
      ∙ one.inside a (omega arith)
      ∙ right.right a l

  pub flags_low : (a : ℕ) → a < b.actions → get_or (set S₂ 288 1) a 0 ≤ 1
  flags_low a l = rw (flags_right a l) (low (met_on b c a))
    where
      low : (t : Bool) → cond {A = ℕ} t 1 0 ≤ 1
      low true = omega arith
      low false = omega arith

  -- and behind that the slot holds what is known of the centre state
  pub slot_filled : (S₃ : List ℕ) → vs ≡ c.values → ((i : ℕ) → i < 289 → get_or S₃ i 0 ≡ get_or (set S₂ 288 1) i 0)
      → Listed (met_on b c) b.actions (get_or S₃ 289 0) (λ j. get_or S₃ (320 + j) 0) → Slot b (λ i. get_or S₃ i 0) × Told b c (λ i. get_or S₃ i 0)
  slot_filled S₃ isValues kept listed =
      let told : Told b c (λ i. get_or S₃ i 0) = record { right = λ a l. kept a (omega arith) ∙ flags_right a l; listed = listed } in
      (told_slot b c (λ i. get_or S₃ i 0) own told, told)
    where
      own : (v : ℕ) → v < 32 → get_or S₃ (256 + v) 0 ≡ value_in c v
      own v l =
          kept (256 + v) (omega arith)
          ∙ get_or-set_other S₂ 288 (256 + v) 1 0 (λ e. omega arith)
          ∙ two.inside v l
          ∙ ap (λ (xs : List ℕ). get_or xs v 0) isValues

-- ---- a slot among the others

-- what is lent of slot s, and the known words where that is S now
abbrev slot_in : List ℕ → ℕ → List ℕ
slot_in K s = take (s * 576 + 576 - s * 576) (drop (s * 576) K)

abbrev with_slot : List ℕ → ℕ → List ℕ → List ℕ
with_slot K s S = take (s * 576) K ++ (S ++ drop (s * 576 + 576 - s * 576) (drop (s * 576) K))

module _ (b : Board) (K : List ℕ) (k : Known b K) (few : b.actions ≤ 255) (s : ℕ) (l : s < 64) where
  -- one that holds the centre state's values
  pub known_told : (c : Centre) → (get_or (slot_in K s) 288 0 ≡ 0 → ⊥) × ((v : ℕ) → v < 32 → get_or (slot_in K s) (256 + v) 0 ≡ value_in c v)
      → Told b c (λ i. get_or K (s * 576 + i) 0)
  known_told c same = k.slots s l (λ e. same.0 (at 288 (omega arith) ∙ e)) c (λ v h. sym (at (256 + v) (omega arith)) ∙ same.1 v h)
    where
      at : (i : ℕ) → i < 576 → get_or (slot_in K s) i 0 ≡ get_or K (s * 576 + i) 0
      at i h = lent_at K (s * 576) (s * 576 + 576) i (omega arith)

  -- one that is filled anew
  module _ (S : List ℕ) (long : length S ≡ length (slot_in K s)) where
    -- it stands in its place
    new : Stored (s * 576) (s * 576 + 576 - s * 576) S K (with_slot K s S)
    new = stored_part K S (s * 576) (s * 576 + 576) (omega arith) (omega (arith, k.long)) (long ∙ simp (length-take, length-drop) (omega (arith, k.long)))

    pub told_filled : (c : Centre) → Told b c (λ i. get_or S i 0) → Told b c (λ i. get_or (with_slot K s S) (s * 576 + i) 0)
    told_filled c t = told_ext b c _ _ few (λ i h. sym (new.inside i (omega arith))) t

    pub known_filled : Slot b (λ i. get_or S i 0) → Known b (with_slot K s S)
    known_filled slot = record { long = new.long ∙ k.long; slots = λ r h. go r h (ℕ_discrete r s) }
      where
        -- outside the slot all is as it was
        other : (r i : ℕ) → (r ≡ s → ⊥) → i < 576 → (r * 576 + i < s * 576) ⊎ (s * 576 + (s * 576 + 576 - s * 576) ≤ r * 576 + i)
        other r i d h = side (dec_le (r + 1) s)
          where
            side : Dec (r + 1 ≤ s) → (r * 576 + i < s * 576) ⊎ (s * 576 + (s * 576 + 576 - s * 576) ≤ r * 576 + i)
            side (yes q) = inl (omega arith)
            side (no q) = inr (let z : s < r = omega (arith, d) in omega arith)

        go : (r : ℕ) → r < 64 → Dec (r ≡ s) → Slot b (λ i. get_or (with_slot K s S) (r * 576 + i) 0)
        go r h (no d) = slot_ext b _ _ few (λ i m. sym (new.outside (r * 576 + i) (other r i d m))) (k.slots r h)
        go r h (yes e) = rw e (slot_ext b _ _ few (λ i m. sym (new.inside i (omega arith))) slot)

-- ---- the list of a slot, copied to the front of L, is that of the centre state

pub list_copied : (b : Board) (c : Centre) (K L L' : List ℕ) (at count : ℕ) → Told b c (λ i. get_or K (at + i) 0) → count ≡ get_or K (at + 289) 0
    → Stored 0 count (take (at + 320 + count - (at + 320)) (drop (at + 320) K)) L L' → Listed (met_on b c) b.actions count (λ j. get_or L' j 0)
list_copied b c K L L' at count t many copied =
    rw many
    (listed_ext _ _ _ _ _ _ (λ a _. refl) (λ j l. sym (here j (omega (arith, many)))) t.listed)
  where
    here : (j : ℕ) → j < count → get_or L' j 0 ≡ get_or K (at + (320 + j)) 0
    here j l =
        let z : at + 320 + j ≡ at + (320 + j) = omega arith in
        ap (λ k. get_or L' k 0) (zero_first j)
        ∙ copied.inside j l
        ∙ lent_at K (at + 320) (at + 320 + count) j (omega arith)
        ∙ ap (λ k. get_or K k 0) z

-- ---- only the parts of a Board that say which conditions its actions have count

module _ (b : Board) where
  -- those parts
  abbrev pub asks : Board
  asks = asks_of b.actions b.factors b.conditions

  pub firsts_asks : (firsts : List ℕ) → Firsts b firsts → Firsts asks firsts
  firsts_asks firsts f = record { long = f.long; inside = f.inside; named = f.named }

  pub known_asks : (K : List ℕ) → Known b K → Known asks K
  known_asks K k = record { long = k.long; slots = λ s l d c v. let t = k.slots s l d c v in record { right = t.right; listed = t.listed } }

  pub asks_known : (K : List ℕ) → Known asks K → Known b K
  asks_known K k = record { long = k.long; slots = λ s l d c v. let t = k.slots s l d c v in record { right = t.right; listed = t.listed } }

  pub asks_told : (c : Centre) (f : ℕ → ℕ) → Told asks c f → Told b c f
  asks_told c f t = record { right = t.right; listed = t.listed }
