-- Demand 2: prices along a centre path are exactly the least leaf costs of action sequences, and a path is stuck only where no sequence has it.
-- Assumes nothing.
use Rattle.std.specs.Prelude.{◌≡◌, refl, List, ℕ, suc, ◌≤◌, ◌<◌, length, get_or}
use Rattle.std.proofs.Math.Decide.{dec_lt}
use Rattle.std.proofs.Common.{arith}
use Rattle.loops.specs.Count.{sum}
use Rattle.task.specs.declared.Task.{Task}
use Rattle.task.specs.Meaning.{initial, final}
use Rattle.task.specs.Factors.{number, all_states, leaf_cost}
use Rattle.task.specs.Valid.{Valid}
use Rattle.task.specs.Star.{number_lt}
use Rattle.leaf.specs.Price.{mark}
use Rattle.layer.specs.Layer.{leaf_part}
use Rattle.price.specs.Path.{Layer, first_layer, ends, stuck, walk}
use Rattle.price.specs.Path.Laws.{price, rise, first_settled, first_small, first_at}
use Rattle.price.specs.Demand.{Along, EndsAt, NoSequence, SomeSequence, Priced}
use Rattle.price.specs.Sums.{sum_le}
use Rattle.price.specs.Ways.{WayTo}
use Rattle.price.specs.Ways.Split.{Split, split}
use Rattle.price.specs.Ways.Weave.{join}
use Rattle.price.specs.Live.{Live, first_live, walk_live}
use Rattle.price.specs.Prices.{Centred, price_way, way_to_price, way_to_below, walk_settled, walk_open, walk_ends}

module _ (t : Task) (ok : Valid t) (path : List ℕ) (fits : length path ≤ 4095) where
  -- the ways of a sequence along the path
  parts : (acts : List ℕ) → Along t path acts → Split t (initial t) acts
  parts acts h = split t ok (initial t) acts ok.fields.initial_inside h.carries

  -- where a sequence has just these centre actions, the path's walk ends
  pub along_ends : (acts : List ℕ) → Along t path acts → (l : Layer) × (walk t (first_layer t) path ≡ ends l)
  along_ends acts h =
      let d = parts acts h in
      walk_ends t ok rise (first_layer t) (first_settled t ok) (first_small t ok) (omega arith) refl (rw h.centred at d.passable)
      (λ i b.
      record {
        from = number t (suc i) (initial t);
        inside = number_lt t (suc i) ok.fields.initial_inside;
        below = omega (arith, first_at t ok i b);
        end = number t (suc i) (final t (initial t) acts);
        toll = d.share i;
        way = rw h.centred at (d.ways i b);
      })

  module _ (centred : Centred t path) where
    -- "A centre path is refused 13 only where no action sequence has just those centre actions in that order."
    pub walk_stuck : walk t (first_layer t) path ≡ stuck → NoSequence t path
    walk_stuck e acts h =
        let (l, f) = along_ends acts h in
        let z : ◌≡◌ {A = ℕ} 0 1 = cc in
        omega arith

    module _ (l : Layer) (e : walk t (first_layer t) path ≡ ends l) where
      -- there is a price for every leaf state
      pub walk_full : length l.prices ≡ all_states t
      walk_full = (walk_settled t ok path (first_layer t) l (first_settled t ok) e).full

      -- a choice of priced leaf states: a sequence that ends there, at what the prices add up to
      priced_reached : (xs : ℕ → ℕ) → ((i : ℕ) → i < t.leaves → price t l i (xs i) < mark)
          → (acts : List ℕ) × (EndsAt t path xs acts × (leaf_cost t acts ≡ sum t.leaves (λ i. price t l i (xs i))))
      priced_reached xs h =
          let (acts, w) =
          join t ok (initial t) xs (λ i. price t l i (xs i)) ok.fields.initial_inside (walk_open t ok path centred (first_layer t) l e)
          (λ i b. price_way t ok i b path centred l e (xs i) (h i b)) in
          (acts, (record { along = record { carries = w.carries; centred = w.centred }; chosen = w.lands }, w.paid))

      -- a sequence along the path: its ways' ends are priced, and no price is above its way's cost
      priced_least : (xs : ℕ → ℕ) (acts : List ℕ) → EndsAt t path xs acts
          → ((i : ℕ) → i < t.leaves → price t l i (xs i) < mark) × (sum t.leaves (λ i. price t l i (xs i)) ≤ leaf_cost t acts)
      priced_least xs acts h =
          let le = sum_le t.leaves (λ i. price t l i (xs i)) d.share (λ i b. way_to_price t ok i b l e (way i b)) in
          (λ i b. way_to_below t ok i b l fits e (way i b), omega (arith, d.total))
        where
          d : Split t (initial t) acts
          d = parts acts h.along

          way : (i : ℕ) → i < t.leaves → WayTo t i path (xs i) (d.share i)
          way i b = rw (h.chosen i b, h.along.centred) at (d.ways i b)

      -- "A choice of one leaf state per leaf is priced exactly when such a sequence ends there, and the prices add up to the least leaf cost of
      -- doing so."
      pub walk_priced : Priced t path mark (λ i x. get_or (leaf_part t i l.prices) x mark)
      walk_priced = record { reached = λ xs c h. priced_reached xs h; least = priced_least }

      -- where the walk ends some sequence has just these centre actions: each leaf has a priced state, and a sequence ends where all are chosen
      pub walk_some : SomeSequence t path
      walk_some =
          let (acts, w) = priced_reached (λ i. chosen i (dec_lt i t.leaves)) (λ i b. below i b (dec_lt i t.leaves)) in
          (acts, w.0.along)
        where
          live : Live t l
          live = walk_live t ok path (first_layer t) l centred (first_live t ok) e

          chosen : (i : ℕ) → Dec (i < t.leaves) → ℕ
          chosen i (yes b) = (live i b).0
          chosen i (no n) = 0

          below : (i : ℕ) → i < t.leaves → (d : Dec (i < t.leaves)) → price t l i (chosen i d) < mark
          below i b (yes c) = (live i c).1.1
          below i b (no n) = absurd (n b)
