-- Jumps of a generator: what many steps do to its state, as one multiplication and one addition.
use Rattle.std.specs.Prelude.{ℕ, zero, suc, ◌≡◌, ◌+◌, ◌*◌, ◌%◌, ◌^◌}
use Rattle.std.specs.Prelude.{slice_index_or}
use Rattle.rand_pcg.specs.Pcg.{multiplier_64}
use Rattle.sot_flight.specs.declared.few_words.TheConstants.{JUMPS}

-- a multiplier to a power
unfoldable pub power : ℕ → ℕ → ℕ
power m zero = 1
power m (suc n) = power m n * m

-- the sum of a multiplier's first powers, so many of them
unfoldable pub sums : ℕ → ℕ → ℕ
sums m zero = 0
sums m (suc n) = sums m n * m + 1

-- the two numbers of a jump by so many words
abbrev pub IsJump : ℕ → ℕ → ℕ → Type 0
IsJump given by more =
    (by ≡ power multiplier_64 given % 2 ^ 64) × (more ≡ sums multiplier_64 given % 2 ^ 64)

-- the table has the two numbers of the jump by so many words, at a place
abbrev pub IsListed : ℕ → ℕ → Type 0
IsListed place given =
    IsJump given (slice_index_or JUMPS (2 * place) 0) (slice_index_or JUMPS (2 * place + 1) 0)
