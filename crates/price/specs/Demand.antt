-- Demand 2 of paths and prices, in the words of crate task and in the paper's numbers: "A centre path is refused 13 only where no action sequence has
-- just those centre actions in that order. A choice of one leaf state per leaf is priced exactly when such a sequence ends there, and the prices add up
-- to the least leaf cost of doing so." Definitions alone.
use Rattle.std.specs.Prelude.{◌≡◌, ◌⊎◌, ◌↔◌, true, List, ℕ, suc, ◌≤◌, ◌<◌, length, get_or, drop}
use Rattle.loops.specs.Count.{sum}
use Rattle.task.specs.declared.Task.{Task}
use Rattle.task.specs.Meaning.{initial, runs, final}
use Rattle.task.specs.Factors.{centre_action, number, states, all_states, centre_actions, leaf_cost}

-- ---- sequences along a path

-- the sequence runs from the initial state and has just these centre actions in this order
pub record Along (t : Task) (path acts : List ℕ) : Type 0 where
  pub carries : runs t (initial t) acts ≡ true
  pub centred : centre_actions t acts ≡ path

-- and it ends with each leaf in the chosen state
pub record EndsAt (t : Task) (path : List ℕ) (xs : ℕ → ℕ) (acts : List ℕ) : Type 0 where
  pub along : Along t path acts
  pub chosen : (i : ℕ) → i < t.leaves → number t (suc i) (final t (initial t) acts) ≡ xs i

-- one leaf state for each leaf
abbrev pub Choice : Task → (ℕ → ℕ) → Type 0
Choice t xs = (i : ℕ) → i < t.leaves → xs i < states t (suc i)

-- no sequence has just those centre actions in that order; some has
abbrev pub NoSequence : Task → List ℕ → Type 0
NoSequence t path = (acts : List ℕ) → Along t path acts → ⊥

abbrev pub SomeSequence : Task → List ℕ → Type 0
SomeSequence t path = (acts : List ℕ) × Along t path acts

-- ---- prices

-- `price i x` is the price of state x of the leaf behind i leaves, and `mark` says unreachable. The record fixes which choices are priced and their
-- sums, as the demand does: prices of one leaf that are all higher by a constant, where another's are lower by it, would meet it too. Which leaf a cost
-- belongs to is left to the equation with the layers (clause `answer`).
pub record Priced (t : Task) (path : List ℕ) (mark : ℕ) (price : ℕ → ℕ → ℕ) : Type 0 where
  -- a sequence ends at every choice that is priced, and its leaf actions cost what the prices add up to
  pub reached : (xs : ℕ → ℕ) → Choice t xs → ((i : ℕ) → i < t.leaves → price i (xs i) < mark)
      → (acts : List ℕ) × (EndsAt t path xs acts × (leaf_cost t acts ≡ sum t.leaves (λ i. price i (xs i))))
  -- a choice where some sequence ends is priced, and no such sequence's leaf actions cost less
  pub least : (xs : ℕ → ℕ) (acts : List ℕ) → EndsAt t path xs acts
      → ((i : ℕ) → i < t.leaves → price i (xs i) < mark) × (sum t.leaves (λ i. price i (xs i)) ≤ leaf_cost t acts)

-- ---- a call of the pricer

-- the reader's number for the record, 0 where it is accepted, and the task that it holds; the path; the slice for the prices as it is lent
pub record PathCall : Type 0 where
  pub verdict : ℕ
  pub task : Task
  pub path : List ℕ
  pub out : List ℕ

-- an entry of a path is a centre action of the task
abbrev pub CentreEntry : Task → ℕ → Type 0
CentreEntry t a = (a < t.actions) × (centre_action t a ≡ true)

-- "12 longer than 4,095, or an entry not a centre action"; and a path that is neither
abbrev pub PathOutside : Task → List ℕ → Type 0
PathOutside t path = (4095 < length path) ⊎ ((k : ℕ) × ((k < length path) × (CentreEntry t (get_or path k 0) → ⊥)))

abbrev pub PathFits : Task → List ℕ → Type 0
PathFits t path = (length path ≤ 4095) × ((k : ℕ) → k < length path → CentreEntry t (get_or path k 0))

-- none of 1 to 11, 12 and 21 is met
pub record PathAccepted (c : PathCall) : Type 0 where
  pub read : c.verdict ≡ 0
  pub fits : PathFits c.task c.path
  pub long : all_states c.task ≤ length c.out

-- each number exactly where its reason holds and none before it does, in the order 1 to 11, 12, 21, 13; 0 is prices
pub record PathDecided (c : PathCall) (number : ℕ) : Type 0 where
  pub in_record : (n : ℕ) → 1 ≤ n → n ≤ 11 → (number ≡ n) ↔ (c.verdict ≡ n)
  pub path_wrong : (number ≡ 12) ↔ ((c.verdict ≡ 0) × PathOutside c.task c.path)
  pub slice_short : (number ≡ 21) ↔ ((c.verdict ≡ 0) × (PathFits c.task c.path × (length c.out < all_states c.task)))
  pub not_applicable : (number ≡ 13) ↔ (PathAccepted c × NoSequence c.task c.path)
  pub priced : (number ≡ 0) ↔ (PathAccepted c × SomeSequence c.task c.path)

-- "writes S prices; words behind them are untouched"; "Refusals leave plan and prices untouched."
pub record PricesUntouched (c : PathCall) (after : List ℕ) (number : ℕ) : Type 0 where
  pub behind : number ≡ 0 → drop (all_states c.task) after ≡ drop (all_states c.task) c.out
  pub whole : (number ≡ 0 → ⊥) → after ≡ c.out

-- all of it: `price i x` is read from the words afterwards
pub record PathMeets (c : PathCall) (mark : ℕ) (price : ℕ → ℕ → ℕ) (after : List ℕ) (number : ℕ) : Type 0 where
  pub decided : PathDecided c number
  pub prices : number ≡ 0 → Priced c.task c.path mark price
  pub untouched : PricesUntouched c after number
