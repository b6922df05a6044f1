-- Laws of groups: a new one is opened, a node joins one, and all is as it was under the same words. Assumes nothing.
use Rattle.std.specs.Prelude.{◌≡◌, refl, ◌⊎◌, true, false, List, ltb, length, get_or, set}
use Rattle.std.proofs.Common.{sym, ap, ◌∙◌, inl, inr, true≢false, not-suc-le-zero}
use Prim.Native.Nat.{ℕ, zero, suc, ◌+◌, ◌-◌, ◌*◌, ◌/◌, ◌%◌, ◌^◌, ◌≤◌, ◌<◌}
use native.Mathlib.Omega.{arith}
use Rattle.std.proofs.Math.Decide.{ℕ_discrete}
use Rattle.std.proofs.Math.ListN.{length-set}
use Rattle.std.proofs.Math.Seq.{get_or-set_same, get_or-set_other}
use Rattle.loops.specs.Count.{sum}
use Rattle.loops.specs.Count.Laws.{sum_ext, below_cases, test_cases}
use Rattle.price.specs.Sums.{sum_zero}
use Rattle.rows.specs.Row.{node_of, row_in, node_in}
use Rattle.rows.specs.Sign.{class_of, sign_of}
use Rattle.nodes.specs.Chain.{link_at, head_at, groups_in, word_at, class_at, fill_at, entry_of, shown_at, nodes_at, entry_at, room_at, has_room, group_for, with_group, opened_to, with_entry, joined_to, Entry, Placed, Grouped}
use Rattle.nodes.specs.Chain.Room.{sum_change, free_none, free_some, free_same}

-- ---- the group that a node goes to

module _ (C : List ℕ) where
  -- the head stands for no group, or for one
  pub room_none : (x : ℕ) → x ≡ 0 → has_room C x ≡ false
  unfolding has_room
  room_none x e = rw (e, has_room)

  pub room_some : (x : ℕ) → (x ≡ 0 → ⊥) → has_room C x ≡ ltb (fill_at C ((x - 1) % 2048)) 4
  unfolding has_room
  room_some zero d = absurd (d refl)
  room_some (suc g) d = let e : suc g - 1 ≡ g = omega arith in rw e

  pub room_head : (x : ℕ) → has_room C x ≡ true → 1 ≤ x
  unfolding has_room
  room_head zero e = absurd (true≢false (sym e))
  room_head (suc g) e = omega arith

  -- the last group of the class has room, or a new one is there
  pub group_last : (h : ℕ) → has_room C (head_at C h) ≡ true → (group_for C h ≡ (head_at C h - 1) % 2048) × (opened_to C h ≡ C)
  unfolding group_for opened_to
  group_last h e = (rw (group_for, e), rw (opened_to, e))

  pub group_new : (h : ℕ) → has_room C (head_at C h) ≡ false → (group_for C h ≡ groups_in C % 2048) × (opened_to C h ≡ with_group C h (groups_in C % 2048))
  unfolding group_for opened_to
  group_new h e = (rw (group_for, e), rw (opened_to, e))

  -- it is one of 2,048
  pub group_lt : (h : ℕ) → group_for C h < 2048
  group_lt h = go (test_cases (has_room C (head_at C h)))
    where
      go : (has_room C (head_at C h) ≡ true) ⊎ (has_room C (head_at C h) ≡ false) → group_for C h < 2048
      go (inl e) = omega (arith, (group_last h e).0)
      go (inr e) = omega (arith, (group_new h e).0)

-- ---- the nodes in a word

-- the unit of entry k, as a word that is shifted
pub unit_is : (k : ℕ) → k < 4 → (1 * 2 ^ (16 * k)) % 2 ^ 64 ≡ 2 ^ (16 * k)
unit_is zero b = refl
unit_is (suc zero) b = refl
unit_is (suc (suc zero)) b = refl
unit_is (suc (suc (suc zero))) b = refl
unit_is (suc (suc (suc (suc k)))) b = absurd (omega arith)

-- it is not 0, and the entry fits a word behind what stands before it
pub entry_fits : (w k n : ℕ) → k < 4 → n < 4096 → (0 < 2 ^ (16 * k)) × (w % 2 ^ (16 * k) + n * 2 ^ (16 * k) < 2 ^ 64)
entry_fits w zero n b l = (omega arith, omega arith)
entry_fits w (suc zero) n b l = (omega arith, omega arith)
entry_fits w (suc (suc zero)) n b l = (omega arith, omega arith)
entry_fits w (suc (suc (suc zero))) n b l = (omega arith, omega arith)
entry_fits w (suc (suc (suc (suc k)))) n b l = absurd (omega arith)

-- the entry that is stored
pub entry_here : (w k n : ℕ) → k < 4 → n < 4096 → entry_of (with_entry w k n) k ≡ n
unfolding entry_of with_entry
entry_here w zero n b l = omega arith
entry_here w (suc zero) n b l = omega arith
entry_here w (suc (suc zero)) n b l = omega arith
entry_here w (suc (suc (suc zero))) n b l = omega arith
entry_here w (suc (suc (suc (suc k)))) n b l = absurd (omega arith)

-- the entries before it
pub entry_before : (w i k n : ℕ) → i < k → k < 4 → entry_of (with_entry w k n) i ≡ entry_of w i
unfolding entry_of with_entry
entry_before w zero (suc zero) n a b = omega arith
entry_before w zero (suc (suc zero)) n a b = omega arith
entry_before w zero (suc (suc (suc zero))) n a b = omega arith
entry_before w (suc zero) (suc (suc zero)) n a b = omega arith
entry_before w (suc zero) (suc (suc (suc zero))) n a b = omega arith
entry_before w (suc (suc zero)) (suc (suc (suc zero))) n a b = omega arith
entry_before w i zero n a b = absurd (omega arith)
entry_before w (suc i) (suc zero) n a b = absurd (omega arith)
entry_before w (suc (suc i)) (suc (suc zero)) n a b = absurd (omega arith)
entry_before w (suc (suc (suc i))) (suc (suc (suc zero))) n a b = absurd (omega arith)
entry_before w i (suc (suc (suc (suc k)))) n a b = absurd (omega arith)

-- ---- none, and the same words

-- no group
pub grouped_none : (S : ℕ) (T C : List ℕ) → ((h : ℕ) → h < 1025 → head_at C h ≡ 0) → Grouped S T C 0
grouped_none S T C z =
    let none : groups_in C ≡ 0 = z 1024 (omega arith) in
    let free = sum_ext 1024 (λ h. room_at C h) (λ h. 0) (λ h l. free_none C (head_at C h) (z h (omega arith))) ∙ sum_zero 1024 in
    record {
      fills = λ g l. absurd (omega arith);
      links = λ g l. absurd (omega arith);
      skips = λ g f l. absurd (omega arith);
      linked = λ g f l. absurd (omega arith);
      heads = λ h b. omega (arith, z h (omega arith));
      last = λ h f b a k. absurd (omega arith);
      headed = λ h f b e. absurd (omega (arith, z h (omega arith)));
      entries = λ g k l. absurd (omega arith);
      placed = λ w l. absurd (not-suc-le-zero l);
      counted = omega arith;
    }

-- the words of groups are the same, with the heads, and from the entries' signatures on
pub record SameGroups (C D : List ℕ) : Type 0 where
  pub chains : (i : ℕ) → 4096 ≤ i → i < 7184 → get_or D i 0 ≡ get_or C i 0
  pub members : (i : ℕ) → 7456 ≤ i → i < 17696 → get_or D i 0 ≡ get_or C i 0

module _ (S : ℕ) (T C D : List ℕ) (n : ℕ) (few : groups_in C ≤ 2048) (s : SameGroups C D) (r : Grouped S T C n) where
  same_groups : groups_in D ≡ groups_in C
  same_groups = s.chains 7168 (omega arith) (omega arith)

  same_word : (g : ℕ) → g < groups_in C → word_at D g ≡ word_at C g
  same_word g l = s.chains (4096 + g) (omega arith) (omega arith)

  same_link : (g : ℕ) → g < groups_in C → link_at D g ≡ link_at C g
  same_link g l = ap (λ (x : ℕ). x % 65536) (same_word g l)

  same_head : (h : ℕ) → h < 1024 → head_at D h ≡ head_at C h
  same_head h l = s.chains (6144 + h) (omega arith) (omega arith)

  same_class : (g : ℕ) → g < groups_in C → class_at D g ≡ class_at C g
  same_class g l = ap (λ (x : ℕ). x / 65536 / 8) (same_word g l)

  same_entry : (g k : ℕ) → g < groups_in C → entry_at D g k ≡ entry_at C g k
  same_entry g k l = ap (λ (w : ℕ). entry_of w k) (s.members (15648 + g) (omega arith) (omega arith))

  same_entries : (g k : ℕ) → g < groups_in D → k < fill_at D g → Entry S T D n g k
  same_entries g k b f =
      let l : g < groups_in C = omega (arith, same_groups) in
      let low : k < fill_at C g = omega (arith, same_word g l) in
      let small : k < 4 = omega (arith, r.fills g l) in
      let e = r.entries g k l low in
      let is = same_entry g k l in
      record {
        inside = omega (arith, is, e.inside);
        shown = s.members (7456 + 4 * g + k) (omega arith) (omega arith) ∙ e.shown ∙ ap (λ (u : ℕ). sign_of (node_in S T u).prices) (sym is);
        class = ap (λ (u : ℕ). class_of (node_in S T u).spot) is ∙ e.class ∙ sym (same_class g l);
      }

  same_placed : (w : ℕ) → w < n → Placed D w
  same_placed w l =
      let p = r.placed w l in
      record {
        group = p.group;
        place = p.place;
        known = omega (arith, same_groups, p.known);
        filled = omega (arith, same_word p.group p.known, p.filled);
        is = same_entry p.group p.place p.known ∙ p.is;
      }

  same_free : sum 1024 (λ h. room_at D h) ≡ sum 1024 (λ h. room_at C h)
  same_free =
      sum_ext 1024 (λ h. room_at D h) (λ h. room_at C h)
      (λ h b. free_same C D (head_at C h) (head_at D h) (same_head h b)
      (λ f e. ap (λ (x : ℕ). x / 65536 % 8) (same_word f (omega (arith, r.heads h b)))))

  pub grouped_words : Grouped S T D n
  grouped_words = record {
    fills = λ g l. let k : g < groups_in C = omega (arith, same_groups) in rw (same_word g k) (r.fills g k);
    links = λ g l. let k : g < groups_in C = omega (arith, same_groups) in omega (arith, same_link g k, r.links g k);
    skips = λ g f l a b e. let k : g < groups_in C = omega (arith, same_groups) in
        r.skips g f k (omega (arith, same_link g k)) b (sym (same_class f (omega arith)) ∙ e ∙ same_class g k);
    linked = λ g f l e. let k : g < groups_in C = omega (arith, same_groups) in
        let q = sym (same_link g k) ∙ e in
        same_class f (omega (arith, r.links g k)) ∙ r.linked g f k q ∙ sym (same_class g k);
    heads = λ h b. omega (arith, same_groups, same_head h b, r.heads h b);
    last = λ h f b a l e. let k : f < groups_in C = omega (arith, same_groups) in
        r.last h f b (omega (arith, same_head h b)) k (sym (same_class f k) ∙ e);
    headed = λ h f b e. let q = sym (same_head h b) ∙ e in same_class f (omega (arith, r.heads h b)) ∙ r.headed h f b q;
    entries = same_entries;
    placed = same_placed;
    counted = omega (arith, same_groups, same_free, r.counted);
  }

-- another table with the same rows
pub grouped_same : (S : ℕ) (T T' C : List ℕ) (n : ℕ) → ((u : ℕ) → u < n → row_in S T' u ≡ row_in S T u) → Grouped S T C n → Grouped S T' C n
grouped_same S T T' C n s r = record {
  fills = r.fills;
  links = r.links;
  skips = r.skips;
  linked = r.linked;
  heads = r.heads;
  last = r.last;
  headed = r.headed;
  entries = λ g k l f. let e = r.entries g k l f in
      let row = s (entry_at C g k) e.inside in
      record {
        inside = e.inside;
        shown = e.shown ∙ ap (λ (w : List ℕ). sign_of (node_of S w).prices) (sym row);
        class = ap (λ (w : List ℕ). class_of (node_of S w).spot) row ∙ e.class;
      };
  placed = r.placed;
  counted = r.counted;
}

-- ---- a group is opened

module _ (S : ℕ) (T C : List ℕ) (n h : ℕ) (long : length C ≡ 17696) (few : groups_in C < 2048) (small : h < 1024) (r : Grouped S T C n) where
  abbrev g : ℕ
  g = groups_in C

  abbrev D : List ℕ
  D = with_group C h g

  -- a word that is none of the three
  pub open_other : (i : ℕ) → (i ≡ 4096 + g → ⊥) → (i ≡ 6144 + h → ⊥) → (i ≡ 7168 → ⊥) → get_or D i 0 ≡ get_or C i 0
  unfolding with_group
  open_other i a c d =
      get_or-set_other (set (set C (4096 + g) (h * 8 * 65536 + head_at C h % 65536)) (6144 + h) (g + 1)) 7168 i (g + 1) 0 d
      ∙ get_or-set_other (set C (4096 + g) (h * 8 * 65536 + head_at C h % 65536)) (6144 + h) i (g + 1) 0 c
      ∙ get_or-set_other C (4096 + g) i (h * 8 * 65536 + head_at C h % 65536) 0 a

  pub open_groups : groups_in D ≡ g + 1
  unfolding with_group
  open_groups = get_or-set_same (set (set C (4096 + g) (h * 8 * 65536 + head_at C h % 65536)) (6144 + h) (g + 1)) 7168 (g + 1) 0 (simp length-set (omega arith))

  pub open_head : head_at D h ≡ g + 1
  unfolding with_group
  open_head =
      get_or-set_other (set (set C (4096 + g) (h * 8 * 65536 + head_at C h % 65536)) (6144 + h) (g + 1)) 7168 (6144 + h) (g + 1) 0 (λ e. omega arith)
      ∙ get_or-set_same (set C (4096 + g) (h * 8 * 65536 + head_at C h % 65536)) (6144 + h) (g + 1) 0 (simp length-set (omega arith))

  pub open_word : word_at D g ≡ h * 8 * 65536 + head_at C h % 65536
  unfolding with_group
  open_word =
      get_or-set_other (set (set C (4096 + g) (h * 8 * 65536 + head_at C h % 65536)) (6144 + h) (g + 1)) 7168 (4096 + g) (g + 1) 0 (λ e. omega arith)
      ∙ get_or-set_other (set C (4096 + g) (h * 8 * 65536 + head_at C h % 65536)) (6144 + h) (4096 + g) (g + 1) 0 (λ e. omega arith)
      ∙ get_or-set_same C (4096 + g) (h * 8 * 65536 + head_at C h % 65536) 0 (omega arith)

  open_link : link_at D g ≡ head_at C h
  open_link = let top = r.heads h small in rw open_word (omega arith)

  pub open_length : length D ≡ length C
  unfolding with_group
  open_length = simp length-set

  open_class : class_at D g ≡ h
  open_class = rw open_word (omega arith)

  -- the words of the other groups and the heads of the other classes
  pub word_old : (f : ℕ) → f < g → word_at D f ≡ word_at C f
  word_old f l = open_other (4096 + f) (λ e. omega arith) (λ e. omega arith) (λ e. omega arith)

  class_old : (f : ℕ) → f < g → class_at D f ≡ class_at C f
  class_old f l = ap (λ (x : ℕ). x / 65536 / 8) (word_old f l)

  link_old : (f : ℕ) → f < g → link_at D f ≡ link_at C f
  link_old f l = ap (λ (x : ℕ). x % 65536) (word_old f l)

  head_old : (i : ℕ) → i < 1024 → (i ≡ h → ⊥) → head_at D i ≡ head_at C i
  head_old i b d = open_other (6144 + i) (λ e. omega arith) (λ e. d (omega arith)) (λ e. omega arith)

  entry_old : (f k : ℕ) → f < g → entry_at D f k ≡ entry_at C f k
  entry_old f k l = ap (λ (w : ℕ). entry_of w k) (open_other (15648 + f) (λ e. omega arith) (λ e. omega arith) (λ e. omega arith))

  shown_old : (f k : ℕ) → f < g → k < 4 → shown_at D f k ≡ shown_at C f k
  shown_old f k l b = open_other (7456 + 4 * f + k) (λ e. omega arith) (λ e. omega arith) (λ e. omega arith)

  cases : (f : ℕ) → f < groups_in D → (f < g) ⊎ (f ≡ g)
  cases f l = below_cases (omega (arith, open_groups))

  fills_more : (f : ℕ) → (f < g) ⊎ (f ≡ g) → (fill_at D f ≤ 4) × (class_at D f < 1024)
  fills_more f (inl l) = rw (word_old f l) (r.fills f l)
  fills_more f (inr e) = rw (e, open_word) (omega arith, omega arith)

  links_more : (f : ℕ) → (f < g) ⊎ (f ≡ g) → link_at D f ≤ f
  links_more f (inl l) = omega (arith, link_old f l, r.links f l)
  links_more f (inr e) = rw e (omega (arith, open_link, r.heads h small))

  skips_more : (f i : ℕ) → (f < g) ⊎ (f ≡ g) → link_at D f ≤ i → i < f → class_at D i ≡ class_at D f → ⊥
  skips_more f i (inl l) a b e = r.skips f i l (omega (arith, link_old f l)) b (sym (class_old i (omega arith)) ∙ e ∙ class_old f l)
  skips_more f i (inr q) a b e =
      let a' = rw q at a in
      let b' : i < g = omega arith in
      let e' = rw q at e in
      r.last h i small (omega (arith, open_link)) b' (sym (class_old i b') ∙ e' ∙ open_class)

  linked_more : (f i : ℕ) → (f < g) ⊎ (f ≡ g) → link_at D f ≡ suc i → class_at D i ≡ class_at D f
  linked_more f i (inl l) e =
      let q = sym (link_old f l) ∙ e in
      class_old i (omega (arith, r.links f l)) ∙ r.linked f i l q ∙ sym (class_old f l)
  linked_more f i (inr q) e =
      let e' = sym open_link ∙ rw q at e in
      rw q (class_old i (omega (arith, r.heads h small)) ∙ r.headed h i small e' ∙ sym open_class)

  heads_more : (i : ℕ) → i < 1024 → Dec (i ≡ h) → head_at D i ≤ groups_in D
  heads_more i b (yes e) = rw e (omega (arith, open_head, open_groups))
  heads_more i b (no d) = omega (arith, head_old i b d, r.heads i b, open_groups)

  last_more : (i f : ℕ) → i < 1024 → head_at D i ≤ f → (f < g) ⊎ (f ≡ g) → class_at D f ≡ i → Dec (i ≡ h) → ⊥
  last_more i f b a k c (yes e) = let a' = rw e at a in omega (arith, open_head, k' k)
    where
      k' : (f < g) ⊎ (f ≡ g) → f ≤ g
      k' (inl l) = omega arith
      k' (inr q) = omega arith
  last_more i f b a (inl l) c (no d) = r.last i f b (omega (arith, head_old i b d)) l (sym (class_old f l) ∙ c)
  last_more i f b a (inr q) c (no d) = d (sym c ∙ ap (λ (x : ℕ). class_at D x) q ∙ open_class)

  headed_more : (i f : ℕ) → i < 1024 → head_at D i ≡ suc f → Dec (i ≡ h) → class_at D f ≡ i
  headed_more i f b a (yes e) =
      let a' = rw e at a in
      let q : f ≡ g = omega (arith, open_head) in
      ap (λ (x : ℕ). class_at D x) q ∙ open_class ∙ sym e
  headed_more i f b a (no d) =
      let a' = sym (head_old i b d) ∙ a in
      class_old f (omega (arith, r.heads i b)) ∙ r.headed i f b a'

  entries_more : (f k : ℕ) → (f < g) ⊎ (f ≡ g) → k < fill_at D f → Entry S T D n f k
  entries_more f k (inl l) b =
      let low : k < fill_at C f = omega (arith, word_old f l) in
      let tiny : k < 4 = omega (arith, r.fills f l) in
      let e = r.entries f k l low in
      let is = entry_old f k l in
      record {
        inside = omega (arith, is, e.inside);
        shown = shown_old f k l tiny ∙ e.shown ∙ ap (λ (u : ℕ). sign_of (node_in S T u).prices) (sym is);
        class = ap (λ (u : ℕ). class_of (node_in S T u).spot) is ∙ e.class ∙ sym (class_old f l);
      }
  entries_more f k (inr q) b = absurd (let b' = rw (q, open_word) at b in omega arith)

  placed_old : (w : ℕ) → w < n → Placed D w
  placed_old w l =
      let p = r.placed w l in
      record {
        group = p.group;
        place = p.place;
        known = omega (arith, open_groups, p.known);
        filled = omega (arith, word_old p.group p.known, p.filled);
        is = entry_old p.group p.place p.known ∙ p.is;
      }

  -- the class had no group or a full one
  counted_open : room_at C h ≡ 0 → 4 * groups_in D ≡ n + sum 1024 (λ i. room_at D i)
  counted_open full =
      let new : room_at D h ≡ 4 - fill_at D g = free_some D (head_at D h) g (omega (arith, open_head)) in
      let none : fill_at D g ≡ 0 = rw open_word (omega arith) in
      let sums = sum_change h (λ i. room_at C i) (λ i. room_at D i) 1024 small (λ i b d. free_same C D (head_at C i) (head_at D i) (head_old i b d)
      (λ f e. ap (λ (x : ℕ). x / 65536 % 8) (word_old f (omega (arith, r.heads i b))))) in
      omega (arith, open_groups, r.counted)

  pub grouped_open : room_at C h ≡ 0 → Grouped S T D n
  grouped_open full = record {
    fills = λ f l. fills_more f (cases f l);
    links = λ f l. links_more f (cases f l);
    skips = λ f i l. skips_more f i (cases f l);
    linked = λ f i l. linked_more f i (cases f l);
    heads = λ i b. heads_more i b (ℕ_discrete i h);
    last = λ i f b a l c. last_more i f b a (cases f l) c (ℕ_discrete i h);
    headed = λ i f b a. headed_more i f b a (ℕ_discrete i h);
    entries = λ f k l. entries_more f k (cases f l);
    placed = placed_old;
    counted = counted_open full;
  }

-- ---- node n joins group g, the last of its class, which has room

module _ (S : ℕ) (T C : List ℕ) (n g : ℕ) (inside : n < 4096) (long : length C ≡ 17696) (few : groups_in C ≤ 2048) (known : g < groups_in C)
    (room : fill_at C g < 4) (own : class_at C g ≡ class_of (node_in S T n).spot) (r : Grouped S T C n) where
  abbrev s : ℕ
  s = sign_of (node_in S T n).prices

  abbrev k : ℕ
  k = fill_at C g

  abbrev w : ℕ
  w = with_entry (nodes_at C g) k n

  abbrev J : List ℕ
  J = joined_to C g n s

  place_is : word_at C g / 65536 % 4 ≡ k
  place_is = omega arith

  word_is : word_at C g % 4294967296 + 65536 ≡ word_at C g + 65536
  word_is = omega (arith, (r.fills g known).1)

  -- a word that is none of the three
  pub join_other : (i : ℕ) → (i ≡ 7456 + 4 * g + k → ⊥) → (i ≡ 15648 + g → ⊥) → (i ≡ 4096 + g → ⊥) → get_or J i 0 ≡ get_or C i 0
  unfolding joined_to
  join_other i a b c =
      rw (place_is, word_is)
      (get_or-set_other (set (set C (7456 + 4 * g + k) s) (15648 + g) w) (4096 + g) i (word_at C g + 65536) 0 c
      ∙ get_or-set_other (set C (7456 + 4 * g + k) s) (15648 + g) i w 0 b
      ∙ get_or-set_other C (7456 + 4 * g + k) i s 0 a)

  join_word : word_at J g ≡ word_at C g + 65536
  unfolding joined_to
  join_word =
      rw (place_is, word_is)
      (get_or-set_same (set (set C (7456 + 4 * g + k) s) (15648 + g) w) (4096 + g) (word_at C g + 65536) 0 (simp length-set (omega arith)))

  join_nodes : nodes_at J g ≡ w
  unfolding joined_to
  join_nodes =
      rw (place_is, word_is)
      (get_or-set_other (set (set C (7456 + 4 * g + k) s) (15648 + g) w) (4096 + g) (15648 + g) (word_at C g + 65536) 0 (λ e. omega arith)
      ∙ get_or-set_same (set C (7456 + 4 * g + k) s) (15648 + g) w 0 (simp length-set (omega arith)))

  join_entry : entry_at J g k ≡ n
  join_entry = ap (λ (x : ℕ). entry_of x k) join_nodes ∙ entry_here (nodes_at C g) k n room inside

  join_shown : shown_at J g k ≡ s
  unfolding joined_to
  join_shown =
      rw (place_is, word_is)
      (get_or-set_other (set (set C (7456 + 4 * g + k) s) (15648 + g) w) (4096 + g) (7456 + 4 * g + k) (word_at C g + 65536) 0 (λ e. omega arith)
      ∙ get_or-set_other (set C (7456 + 4 * g + k) s) (15648 + g) (7456 + 4 * g + k) w 0 (λ e. omega arith)
      ∙ get_or-set_same C (7456 + 4 * g + k) s 0 (omega arith))

  pub join_length : length J ≡ length C
  unfolding joined_to
  join_length = simp length-set

  -- before the words of groups nothing changed, nor between them and the entries' signatures
  pub join_before : (i : ℕ) → i < 4096 → get_or J i 0 ≡ get_or C i 0
  join_before i l = join_other i (λ e. omega arith) (λ e. omega arith) (λ e. omega arith)

  pub join_between : (i : ℕ) → 6144 ≤ i → i < 7456 → get_or J i 0 ≡ get_or C i 0
  join_between i a l = join_other i (λ e. omega arith) (λ e. omega arith) (λ e. omega arith)

  -- the group's word counts one entry more, and the link and the class stay
  fill_new : fill_at J g ≡ k + 1
  fill_new = rw join_word (omega arith)

  word_kept : (f : ℕ) → f < 2048 → (f ≡ g → ⊥) → word_at J f ≡ word_at C f
  word_kept f l d = join_other (4096 + f) (λ e. omega arith) (λ e. omega arith) (λ e. d (omega arith))

  link_all : (f : ℕ) → f < 2048 → link_at J f ≡ link_at C f
  link_all f l = go (ℕ_discrete f g)
    where
      go : Dec (f ≡ g) → link_at J f ≡ link_at C f
      go (yes e) = rw (e, join_word) (omega arith)
      go (no d) = ap (λ (x : ℕ). x % 65536) (word_kept f l d)

  class_all : (f : ℕ) → f < 2048 → class_at J f ≡ class_at C f
  class_all f l = go (ℕ_discrete f g)
    where
      go : Dec (f ≡ g) → class_at J f ≡ class_at C f
      go (yes e) = rw (e, join_word) (omega arith)
      go (no d) = ap (λ (x : ℕ). x / 65536 / 8) (word_kept f l d)

  fill_all : (f : ℕ) → f < 2048 → fill_at C f ≤ fill_at J f
  fill_all f l = go (ℕ_discrete f g)
    where
      go : Dec (f ≡ g) → fill_at C f ≤ fill_at J f
      go (yes e) = rw e (omega (arith, fill_new))
      go (no d) = omega (arith, word_kept f l d)

  fill_low : (f : ℕ) → f < 2048 → fill_at C f ≤ 4 → fill_at J f ≤ 4
  fill_low f l h = go (ℕ_discrete f g)
    where
      go : Dec (f ≡ g) → fill_at J f ≤ 4
      go (yes e) = rw e (omega (arith, fill_new))
      go (no d) = omega (arith, word_kept f l d)

  groups_all : groups_in J ≡ groups_in C
  groups_all = join_between 7168 (omega arith) (omega arith)

  -- an entry that was there
  entry_kept : (f i : ℕ) → f < 2048 → i < 4 → (f ≡ g → i < k) → (entry_at J f i ≡ entry_at C f i) × (shown_at J f i ≡ shown_at C f i)
  entry_kept f i l b d = (
    go (ℕ_discrete f g),
    join_other (7456 + 4 * f + i) (λ e. let q : f ≡ g = omega arith in omega (arith, d q)) (λ e. omega arith) (λ e. omega arith),
  )
    where
      go : Dec (f ≡ g) → entry_at J f i ≡ entry_at C f i
      go (yes e) = rw e (ap (λ (x : ℕ). entry_of x i) join_nodes ∙ entry_before (nodes_at C g) i k n (d e) room)
      go (no q) = ap (λ (x : ℕ). entry_of x i) (join_other (15648 + f) (λ e. omega arith) (λ e. q (omega arith)) (λ e. omega arith))

  entries_new : (f i : ℕ) → f < groups_in C → i < fill_at J f → Entry S T J (suc n) f i
  entries_new f i l b = go (ℕ_discrete f g) (ℕ_discrete i k)
    where
      old : i < fill_at C f → (f ≡ g → i < k) → Entry S T J (suc n) f i
      old low d =
          let e = r.entries f i l low in
          let (is, shows) = entry_kept f i (omega arith) (omega (arith, r.fills f l)) d in
          record {
            inside = omega (arith, is, e.inside);
            shown = shows ∙ e.shown ∙ ap (λ (u : ℕ). sign_of (node_in S T u).prices) (sym is);
            class = ap (λ (u : ℕ). class_of (node_in S T u).spot) is ∙ e.class ∙ sym (class_all f (omega arith));
          }

      here : Entry S T J (suc n) g k
      here = record {
        inside = omega (arith, join_entry);
        shown = join_shown ∙ ap (λ (u : ℕ). sign_of (node_in S T u).prices) (sym join_entry);
        class = ap (λ (u : ℕ). class_of (node_in S T u).spot) join_entry ∙ sym own ∙ sym (class_all g (omega arith));
      }

      go : Dec (f ≡ g) → Dec (i ≡ k) → Entry S T J (suc n) f i
      go (yes p) (yes q) = rw (p, q) here
      go (yes p) (no q) = let b' = rw p at b in let low : i < k = omega (arith, fill_new) in old (rw p low) (λ _. low)
      go (no p) q = old (omega (arith, word_kept f (omega arith) p)) (λ e. absurd (p e))

  placed_new : (w : ℕ) → w < suc n → Placed J w
  placed_new w b = go (below_cases b)
    where
      go : (w < n) ⊎ (w ≡ n) → Placed J w
      go (inl l) =
          let p = r.placed w l in
          let far : p.group < 2048 = omega (arith, p.known) in
          let tiny : p.place < 4 = omega (arith, p.filled, r.fills p.group p.known) in
          let apart : p.group ≡ g → p.place < k = λ e. rw e at p.filled in
          let (is, shows) = entry_kept p.group p.place far tiny apart in
          record {
            group = p.group;
            place = p.place;
            known = omega (arith, groups_all, p.known);
            filled = omega (arith, fill_all p.group far, p.filled);
            is = is ∙ p.is;
          }
      go (inr e) = record { group = g; place = k; known = omega (arith, groups_all); filled = omega (arith, fill_new); is = join_entry ∙ sym e }

  -- each group has an entry if the others have
  pub started_join : ((f : ℕ) → f < groups_in C → (f ≡ g → ⊥) → 0 < fill_at C f) → (f : ℕ) → f < groups_in J → 0 < fill_at J f
  started_join others f l = go (ℕ_discrete f g)
    where
      go : Dec (f ≡ g) → 0 < fill_at J f
      go (yes e) = rw e (omega (arith, fill_new))
      go (no d) = omega (arith, others f (omega (arith, groups_all)) d, fill_all f (omega (arith, groups_all)))

  -- the group is the last of its class, and no other class has it
  counted_join : head_at C (class_at C g) ≡ suc g → 4 * groups_in J ≡ suc n + sum 1024 (λ h. room_at J h)
  counted_join end =
      let h = class_at C g in
      let small : h < 1024 = (r.fills g known).1 in
      let old : room_at C h ≡ 4 - k = free_some C (head_at C h) g end in
      let new : room_at J h ≡ 4 - fill_at J g = free_some J (head_at J h) g (join_between (6144 + h) (omega arith) (omega arith) ∙ end) in
      let sums = sum_change h (λ i. room_at C i) (λ i. room_at J i) 1024 small (λ i b d. free_same C J (head_at C i) (head_at J i)
      (join_between (6144 + i) (omega arith) (omega arith))
      (λ f e. ap (λ (x : ℕ). x / 65536 % 8)
      (word_kept f (omega (arith, r.heads i b)) (λ q. d (sym (r.headed i f b e) ∙ ap (λ (x : ℕ). class_at C x) q))))) in
      omega (arith, groups_all, fill_new, r.counted)

  pub grouped_join : head_at C (class_at C g) ≡ suc g → Grouped S T J (suc n)
  grouped_join end = record {
    fills = λ f l. let b : f < groups_in C = omega (arith, groups_all) in
        (fill_low f (omega arith) (r.fills f b).0, omega (arith, class_all f (omega arith), (r.fills f b).1));
    links = λ f l. let b : f < groups_in C = omega (arith, groups_all) in omega (arith, link_all f (omega arith), r.links f b);
    skips = λ f i l a c e. let b : f < groups_in C = omega (arith, groups_all) in
        r.skips f i b (omega (arith, link_all f (omega arith))) c (sym (class_all i (omega arith)) ∙ e ∙ class_all f (omega arith));
    linked = λ f i l e. let b : f < groups_in C = omega (arith, groups_all) in
        let q = sym (link_all f (omega arith)) ∙ e in
        class_all i (omega (arith, r.links f b)) ∙ r.linked f i b q ∙ sym (class_all f (omega arith));
    heads = λ h b. omega (arith, groups_all, join_between (6144 + h) (omega arith) (omega arith), r.heads h b);
    last = λ h f b a l e. let q : f < groups_in C = omega (arith, groups_all) in
        r.last h f b (omega (arith, join_between (6144 + h) (omega arith) (omega arith))) q (sym (class_all f (omega arith)) ∙ e);
    headed = λ h f b e. let q = sym (join_between (6144 + h) (omega arith) (omega arith)) ∙ e in class_all f (omega (arith, r.heads h b)) ∙ r.headed h f b q;
    entries = λ f i l. entries_new f i (omega (arith, groups_all));
    placed = placed_new;
    counted = counted_join end;
  }
