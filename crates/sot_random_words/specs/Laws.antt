-- The words of a generator, by the steps of `rand_pcg`.
use Rattle.std.specs.Prelude.{ℕ, suc, ◌≡◌}
use Rattle.rand_pcg.specs.Lcg.{next, started, increment_of}
use Rattle.rand_pcg.specs.Pcg.{multiplier_64}
use Rattle.sot_random_words.specs.Words.{words_from}

-- before its first word a generator is as it was made
abbrev pub Start : Type 0
Start =
    (seed stream : ℕ)
    → words_from seed stream 0 ≡ started 64 multiplier_64 seed (increment_of 64 stream)

-- after one word more it is one step on
abbrev pub EachIsNext : Type 0
EachIsNext =
    (seed stream i : ℕ)
    → next 64 multiplier_64 (words_from seed stream i) ≡ words_from seed stream (suc i)
