-- The prices of one leaf: they settle inside a layer, and pass over a centre action. A price is a 64-bit word.
use Rattle.std.specs.Prelude.{ℕ}

-- "unreachable is 2^64 − 1"
abbrev pub mark : ℕ
mark = 18446744073709551615
