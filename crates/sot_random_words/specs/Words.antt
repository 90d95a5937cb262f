-- The words of a generator (PCG XSH RR, 64 bits of state and 32 of a word).
use Rattle.std.specs.Prelude.{ℕ}
use Rattle.rand_pcg.specs.Lcg.{Lcg, advance, started, increment_of}
use Rattle.rand_pcg.specs.Pcg.{multiplier_64, output_xsh_rr}

-- the generator with this seed on this stream, once it has given i words
abbrev pub words_from : ℕ → ℕ → ℕ → Lcg
words_from seed stream i =
    advance 64 multiplier_64 i (started 64 multiplier_64 seed (increment_of 64 stream))

-- word i, from 0 on, of the generator with this seed on this stream
abbrev pub word : ℕ → ℕ → ℕ → ℕ
word seed stream i = output_xsh_rr (words_from seed stream i).state
