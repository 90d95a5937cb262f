-- Which inputs come by a time, at the front of a list.
use Rattle.std.specs.Prelude.{ℕ, nat_le, if◌then◌else◌, List, [], ◌∷◌}
use Rattle.sot_flight.specs.Plans.{StatedInput}

abbrev pub early : ℕ → List StatedInput → List StatedInput
early time [] = []
early time (x ∷ xs) = if nat_le x.at time then x ∷ early time xs else []
