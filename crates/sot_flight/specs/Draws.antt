-- Numbers drawn from the words of a generator.
use Rattle.std.specs.Prelude.{ℕ, suc, ◌<◌, ◌/◌, ◌%◌, ◌==◌, ℤ, pos, ◌+ℤ◌, ◌-ℤ◌, unsigned_abs, List}
use Rattle.std.specs.Prelude.{[], ◌∷◌, if◌then◌else◌}
use Rattle.sot_box.specs.Sides.{Side}
use Rattle.sot_random_words.specs.Words.{word}
use Rattle.sot_flight.specs.declared.spread.Spread.{Spread}
use Rattle.sot_flight.specs.declared.spread.Spread.TheVariants.{Anywhere, Ends}

-- how many numbers a range has
abbrev pub width : Side → ℕ
width r = unsigned_abs ((r.hi -ℤ r.lo) +ℤ pos 1)

-- the number of a range that a word stands for: any one; or one of the two ends, the low one where
-- the word is even
abbrev pub drawn : Spread → Side → ℕ → ℤ
drawn Anywhere r w = r.lo +ℤ pos (w % width r)
drawn (Ends hold) r w = if (w % 2) == 0 then r.lo else r.hi

-- a number for each of these ranges, from word i on, one word each
abbrev pub drawn_from : Spread → ℕ → ℕ → ℕ → List Side → List ℤ
drawn_from spread seed stream i [] = []
drawn_from spread seed stream i (r ∷ rs) =
    drawn spread r (word seed stream i) ∷ drawn_from spread seed stream (suc i) rs

-- an end is held for a tick, or a firing, or longer
abbrev pub IsSpread : Spread → Type 0
IsSpread Anywhere = Unit {0}
IsSpread (Ends hold) = 0 < hold

-- how often words were drawn before this tick, or firing: each time, or once for as long as an end
-- is held
abbrev pub turn : Spread → ℕ → ℕ
turn Anywhere n = n
turn (Ends hold) n = n / hold
