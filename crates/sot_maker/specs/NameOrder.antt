-- Numbers in the byte order of their names: 10 stands between 1 and 2, wherever names end with a
-- number.
use Rattle.std.specs.Prelude.{ℕ, zero, suc, ◌*◌, List, [], ◌∷◌, nat_lt}
use Rattle.std.specs.List.{flat_map, filter}

-- so many numbers, one after another, from k on
unfoldable pub numbers_from : ℕ → ℕ → List ℕ
numbers_from k zero = []
numbers_from k (suc n) = k ∷ numbers_from (suc k) n

-- a digit, and the numbers of two digits that begin with it
abbrev pub led_by : ℕ → List ℕ
led_by digit = digit ∷ numbers_from (10 * digit) 10

-- the numbers of one or two digits, by their decimals
unfoldable pub all_by_name : List ℕ
all_by_name = 0 ∷ flat_map led_by (numbers_from 1 9)

-- those below n, where n is at most 100
unfoldable pub by_name : ℕ → List ℕ
by_name n = filter (λ k. nat_lt k n) all_by_name
