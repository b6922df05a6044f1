-- What the pricer answers, and what the lent slice holds afterwards. Follows "Prices and layers" and "Refused because of the state":
-- the pricer's order is 1 to 11, 12, 21, 13.
pub mod Laws
use Rattle.std.specs.Prelude.{Bool, true, false, ◌&&◌, Result, Ok, Err, List, ◌++◌, ℕ, suc, ◌+◌, ltb, leb, length, get_or, drop}
use Rattle.loops.specs.Count.{all, sum}
use Rattle.task.specs.declared.Task.{Task}
use Rattle.task.specs.Factors.{centre_action, states, all_states}
use Rattle.whole.specs.Verdict.{Verdict, Accepted, Refused}
use Rattle.record.specs.Record.{verdict_number, read_record}
use Rattle.leaf.specs.Price.{mark}
use Rattle.answers.specs.declared.PriceRefusal.{PriceRefusal}
use Rattle.answers.specs.declared.PriceRefusal.TheVariants.{InRecord, PathWrong, SliceShort, NotApplicable}
use Rattle.price.specs.Path.{End, ends, stuck, first_layer, walk}
use Rattle.price.specs.Demand.{PathCall}

-- the answer, how many prices or why none, and the slice's words afterwards
pub record Outcome : Type 0 where
  pub answer : Result ℕ PriceRefusal
  pub words : List ℕ

-- a refusal leaves the slice as it was
abbrev pub refuse : PriceRefusal → List ℕ → Outcome
refuse why out = record { answer = Err why; words = out }

abbrev pub unless : Bool → PriceRefusal → List ℕ → Outcome → Outcome
unless true why out rest = rest
unless false why out rest = refuse why out

-- 12 is not met
unfoldable pub path_fits : Task → List ℕ → Bool
path_fits t path = leb (length path) 4095 && all (length path) (λ k. ltb (get_or path k 0) t.actions && centre_action t (get_or path k 0))

-- "writes S prices, 64 bits each, leaf 1 first; words behind them are untouched"
abbrev pub at_end : Task → List ℕ → End → Outcome
at_end t out (ends l) = record { answer = Ok (all_states t); words = l.prices ++ drop (all_states t) out }
at_end t out stuck = refuse NotApplicable out

-- the answer for a task
unfoldable pub task_prices : Task → List ℕ → List ℕ → Outcome
task_prices t path out =
    unless (path_fits t path) PathWrong out
    (unless (leb (all_states t) (length out)) SliceShort out
    (at_end t out (walk t (first_layer t) path)))

abbrev pub on_verdict : Verdict → Task → List ℕ → List ℕ → Outcome
on_verdict Accepted t path out = task_prices t path out
on_verdict (Refused why) t path out = refuse (InRecord why) out

-- the answer for a record
unfoldable pub prices_of : List ℕ → List ℕ → List ℕ → Outcome
prices_of rec path out = on_verdict (read_record rec).verdict (read_record rec).task path out

-- ---- as the demands see it

-- a call on a record
abbrev pub call_on : List ℕ → List ℕ → List ℕ → PathCall
call_on rec path out = record { verdict = verdict_number (read_record rec).verdict; task = (read_record rec).task; path = path; out = out }

-- the word that holds the price of state x of the leaf behind i leaves
abbrev pub price_in : Task → List ℕ → ℕ → ℕ → ℕ
price_in t words i x = get_or words (sum i (λ j. states t (suc j)) + x) mark
