-- The fields of a record: "Bit-packed, most significant bit first. The width of every field stands in one table."
pub mod Laws
use Rattle.std.specs.Prelude.{ℕ, zero, suc, ◌+◌, ◌-◌, ◌*◌, ◌/◌, ◌%◌, ◌^◌, List, [], ◌∷◌, Bool, cond, length, get_or, leb, eqb}
use Rattle.loops.specs.Parsed.{got, refused}
use Rattle.fields.specs.Answers.{Reading}
use Rattle.fields.specs.declared.Refusal.TheVariants.{RecordEnds}
use Rattle.fields.specs.declared.Field.{Field}
use Rattle.fields.specs.declared.Field.TheVariants.{Variables, Leaves, Actions, Size, Factor, Initial, Pairs, Handling, Distance, Variable, Value}

-- variables minus 1, leaves minus 1, actions; size minus 1, factor, initial value; number of pairs; handling, distance; variable, value
abbrev pub widths : List ℕ
widths = 5 ∷ 3 ∷ 8 ∷ 4 ∷ 4 ∷ 4 ∷ 6 ∷ 12 ∷ 10 ∷ 5 ∷ 4 ∷ []

-- the width of the fields of a kind
abbrev pub width : ℕ → ℕ
width kind = get_or widths kind 0

-- the kinds of fields, in the order in which a record first has them
abbrev pub VARIABLES : ℕ
VARIABLES = 0

abbrev pub LEAVES : ℕ
LEAVES = 1

abbrev pub ACTIONS : ℕ
ACTIONS = 2

abbrev pub SIZE : ℕ
SIZE = 3

abbrev pub FACTOR : ℕ
FACTOR = 4

abbrev pub INITIAL : ℕ
INITIAL = 5

abbrev pub PAIRS : ℕ
PAIRS = 6

abbrev pub HANDLING : ℕ
HANDLING = 7

abbrev pub DISTANCE : ℕ
DISTANCE = 8

abbrev pub VARIABLE : ℕ
VARIABLE = 9

abbrev pub VALUE : ℕ
VALUE = 10

-- the number of a kind
abbrev pub number_of_field : Field → ℕ
number_of_field Variables = VARIABLES
number_of_field Leaves = LEAVES
number_of_field Actions = ACTIONS
number_of_field Size = SIZE
number_of_field Factor = FACTOR
number_of_field Initial = INITIAL
number_of_field Pairs = PAIRS
number_of_field Handling = HANDLING
number_of_field Distance = DISTANCE
number_of_field Variable = VARIABLE
number_of_field Value = VALUE

-- bit k of the record
unfoldable pub bit_of : List ℕ → ℕ → ℕ
bit_of rec k = get_or rec (k / 8) 0 / 2 ^ (7 - k % 8) % 2

-- the number that the w bits from bit k on write
unfoldable pub field_of : List ℕ → ℕ → ℕ → ℕ
field_of rec k zero = 0
field_of rec k (suc w) = field_of rec k w * 2 + bit_of rec (k + w)

-- the next field of a kind, at bit k: "1 record ends inside a field"
unfoldable pub next_field : List ℕ → ℕ → ℕ → Reading ℕ
next_field rec kind k =
    cond (leb (k + width kind) (8 * length rec)) (got (field_of rec k (width kind)) (k + width kind)) (refused RecordEnds)

-- "nothing follows": the record has just the bytes that the bits before bit k need
abbrev pub ends_at : List ℕ → ℕ → Bool
ends_at rec k = eqb (length rec) ((k + 7) / 8)

-- "Zero bits fill the last byte": the number that the bits from bit k to the end of its byte write
abbrev pub fill_of : List ℕ → ℕ → ℕ
fill_of rec k = field_of rec k ((k + 7) / 8 * 8 - k)
