-- The parts of a module are due in different instants.
use Rattle.std.proofs.Common.{◌≡◌, ℕ, ◌+◌, ◌-◌, ◌*◌, ◌%◌, ◌<◌, arith}

-- two offsets of parts of period 4, one of which is 2 later
pub fast_apart : (t slow late : ℕ) → slow < 2 → late < 2 → t % 4 ≡ (1 - slow) + 2 * late → t % 4 ≡ (1 - slow) + 2 * (1 - late) → ⊥
fast_apart t slow late s l one other = omega arith

-- an instant of one parity is none of the other
pub slow_apart : (t slow late : ℕ) → slow < 2 → late < 2 → t % 4 ≡ (1 - slow) + 2 * late → t % 2 ≡ slow → ⊥
slow_apart t slow late s l one other = omega arith
