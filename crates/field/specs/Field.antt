-- The field of 256 elements of FIPS 197: a byte is a polynomial over the bits, its lowest bit
-- first, and polynomials count modulo x^8 + x^4 + x^3 + x + 1. Their sum is exclusive or.
use Rattle.std.specs.Prelude.{ℕ, zero, suc, ◌*◌, ◌/◌, ◌%◌}
use Rattle.std.specs.Int.Bits.{bit_xor}

-- x times b: b moved up by a bit, and x^4 + x^3 + x + 1, which is 27, for the x^8 that falls off
unfoldable pub xtime : ℕ → ℕ
xtime b = bit_xor ((b * 2) % 256) (27 * (b / 128))

-- acc, with b added where the bit is 1
abbrev pub add_if : ℕ → ℕ → ℕ → ℕ
add_if zero acc b = acc
add_if (suc bit) acc b = bit_xor acc b

-- acc, with c times b added, for a c of n bits: b for its lowest bit, and the others times x b
abbrev pub mul_on : ℕ → ℕ → ℕ → ℕ → ℕ
mul_on zero c acc b = acc
mul_on (suc n) c acc b = mul_on n (c / 2) (add_if (c % 2) acc b) (xtime b)

-- c times b
unfoldable pub mul : ℕ → ℕ → ℕ
mul c b = mul_on 8 c 0 b

-- b^254, which is the inverse of b, and 0 at 0
unfoldable pub inverse : ℕ → ℕ
inverse b =
    let b2 = mul b b in
    let b3 = mul b b2 in
    let b6 = mul b3 b3 in
    let b12 = mul b6 b6 in
    let b15 = mul b12 b3 in
    let b30 = mul b15 b15 in
    let b60 = mul b30 b30 in
    let b120 = mul b60 b60 in
    let b126 = mul b120 b6 in
    let b127 = mul b126 b in
    mul b127 b127
