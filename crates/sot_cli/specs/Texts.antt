-- The longest input, and what is said of a longer one.
use Rattle.std.specs.Prelude.{ℕ, List, codes}

-- the most bytes of an input: 16 MiB
abbrev pub input_limit : ℕ
input_limit = 16777216

abbrev pub long_text : List ℕ
long_text = codes "fault input above 16777216 bytes\n"
