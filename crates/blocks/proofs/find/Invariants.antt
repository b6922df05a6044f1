-- `blocks::find` meets its contract. The invariant: `found` is the first place of the word from place k on. Assumes nothing.
use Rattle.std.proofs.Common.{◌≡◌, List, ℕ, ◌≤◌, ◌<◌, length, get_or}
use Rattle.std.specs.Option.{MatchOption}
use Rattle.blocks.proofs.find.Given as goal

-- none of the keys from place k on and before place f is the word
abbrev pub NoneIn : List ℕ → ℕ → ℕ → ℕ → Type 0
NoneIn K word k f = (i : ℕ) → k ≤ i → i < f → get_or K i 0 ≡ word → ⊥

abbrev pub invariant-loop-k : goal.invariant-loop-k
invariant-loop-k l =
    MatchOption l.found (NoneIn l.words l.word l.k (length l.words))
    (λ f. (f < length l.words) × (get_or l.words f 0 ≡ l.word) × NoneIn l.words l.word l.k f)
