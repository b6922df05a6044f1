-- The class of a centre state and the signature of prices: what tells nodes apart before a price is read.
pub mod Laws
pub mod Bits
pub mod Few
use Rattle.std.specs.Prelude.{cond, List, ℕ, zero, suc, ◌*◌, ◌/◌, ◌%◌, ◌^◌, ltb, length, get_or}
use Rattle.std.specs.Int.Bits.{bit_or, bit_xor}
use Rattle.task.specs.declared.Centre.{Centre}
use Rattle.leaf.specs.Price.{mark}
use Rattle.rows.specs.Row.{pack_of}

-- the four packs of a centre state, mixed into 32 bits
unfoldable pub mix_of : Centre → ℕ
mix_of c =
    let all = bit_xor (bit_xor (pack_of c 0) (pack_of c 8)) (bit_xor (pack_of c 16) (pack_of c 24)) in
    bit_xor all (all / 2 ^ 32) % 4294967296

-- the class of a centre state, from its four packs; any function of its values below 1,024 is right, only speed depends on it: a remainder by a prime
-- would take three times as many instructions as a product
unfoldable pub class_of : Centre → ℕ
class_of c = mix_of c * 2654435769 / 2 ^ 22 % 1024

-- the signature of the first n states looked at: bit k % 64 is set where state k * step is reachable
unfoldable pub sign_to : ℕ → List ℕ → ℕ → ℕ
sign_to step P zero = 0
sign_to step P (suc k) = cond (ltb (get_or P (k * step) mark) mark) (bit_or (sign_to step P k) (2 ^ (k % 64))) (sign_to step P k)

-- every so many states one is looked at, of n states: each where there are fewer than 128
unfoldable pub stride_of : ℕ → ℕ
stride_of n = cond (ltb n 64) 1 (n / 64)

-- the signature of a node's prices; any states may be looked at, only speed depends on which
unfoldable pub sign_of : List ℕ → ℕ
sign_of P = sign_to (stride_of (length P)) P (length P / stride_of (length P))
