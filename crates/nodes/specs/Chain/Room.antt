-- Laws of the room that the last groups of classes have, by which there are few groups. Assumes nothing.
use Rattle.std.specs.Prelude.{◌≡◌, refl, ◌⊎◌, false, List, ℕ, zero, suc, ◌+◌, ◌-◌, ◌*◌, ◌%◌, ◌≤◌, ◌<◌}
use Rattle.std.proofs.Common.{sym, ap, ◌∙◌, inl, inr, arith, ltb-false}
use Rattle.loops.specs.Count.{sum}
use Rattle.loops.specs.Count.Laws.{sum_ext, below_cases}
use Rattle.nodes.specs.Chain.{head_at, groups_in, fill_at, room_of, room_at, has_room, Chained}

-- ---- sums

-- no term above 3
sum_three : (n : ℕ) (f : ℕ → ℕ) → ((k : ℕ) → k < n → f k ≤ 3) → sum n f ≤ 3 * n
unfolding sum
sum_three zero f h = omega arith
sum_three (suc n) f h = omega (arith, sum_three n f (λ k l. h k (omega arith)), h n (omega arith))

-- one term is another
pub sum_change : (i : ℕ) (f g : ℕ → ℕ) (n : ℕ) → i < n → ((k : ℕ) → k < n → (k ≡ i → ⊥) → g k ≡ f k) → sum n g + f i ≡ sum n f + g i
unfolding sum
sum_change i f g zero l h = absurd (omega arith)
sum_change i f g (suc n) l h = go (below_cases l) (λ b. sum_change i f g n b (λ k c. h k (omega arith)))
  where
    go : (i < n) ⊎ (i ≡ n) → (i < n → sum n g + f i ≡ sum n f + g i) → sum n g + g n + f i ≡ sum n f + f n + g i
    go (inl b) s = omega (arith, s b, h n (omega arith) (λ e. omega arith))
    go (inr e) s = rw e (omega (arith, sum_ext n g f (λ k c. h k (omega arith) (λ q. omega arith))))

-- ---- the room of a group

-- the head stands for no group
pub free_none : (C : List ℕ) (x : ℕ) → x ≡ 0 → room_of C x ≡ 0
unfolding room_of
free_none C x e = rw (e, room_of)

-- it stands for group f
pub free_some : (C : List ℕ) (x f : ℕ) → x ≡ suc f → room_of C x ≡ 4 - fill_at C f
unfolding room_of
free_some C x f e = rw (e, room_of)

-- the same head of a group with as many entries
pub free_same : (C D : List ℕ) (x y : ℕ) → y ≡ x → ((f : ℕ) → x ≡ suc f → fill_at D f ≡ fill_at C f) → room_of D y ≡ room_of C x
free_same C D zero y e h = free_none D y e ∙ sym (free_none C 0 refl)
free_same C D (suc f) y e h = free_some D y f e ∙ ap (λ (k : ℕ). 4 - k) (h f refl) ∙ sym (free_some C (suc f) f refl)

-- a group that has no room, of at most 2,048
pub free_full : (C : List ℕ) (x : ℕ) → x ≤ 2048 → has_room C x ≡ false → room_of C x ≡ 0
unfolding has_room
free_full C zero l e = free_none C 0 refl
free_full C (suc g) l e =
    let is : g % 2048 ≡ g = omega arith in
    let full : 4 ≤ fill_at C g = ltb-false (fill_at C g) 4 (rw is at e) in
    free_some C (suc g) g refl ∙ omega arith

-- at most three where the group has an entry
free_three : (C : List ℕ) (x : ℕ) → ((f : ℕ) → x ≡ suc f → 0 < fill_at C f) → room_of C x ≤ 3
free_three C zero h = omega (arith, free_none C 0 refl)
free_three C (suc f) h = omega (arith, free_some C (suc f) f refl, h f refl)

-- ---- the number of groups

-- of 4,096 nodes there are at most 1,792 groups
pub groups_few : (S : ℕ) (T C : List ℕ) (n : ℕ) → n ≤ 4096 → Chained S T C n → groups_in C ≤ 1792
groups_few S T C n few r =
    let free = sum_three 1024 (λ h. room_at C h) (λ h l. free_three C (head_at C h) (λ f e. r.started f (omega (arith, r.grouped.heads h l)))) in
    omega (arith, r.grouped.counted)
