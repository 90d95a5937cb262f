-- Numbers of 64 bits.
use Rattle.std.specs.Prelude.{◌<◌, ◌^◌, ℤ, pos, negsuc}

-- the number is one of -2^63 to 2^63 - 1
abbrev pub Has64Bits : ℤ → Type 0
Has64Bits (pos n) = n < 2 ^ 63
Has64Bits (negsuc n) = n < 2 ^ 63
