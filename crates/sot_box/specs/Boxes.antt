-- Points and boxes: a point is a list of numbers, and a box a list of intervals.
use Rattle.std.specs.Prelude.{◌≡◌, ℤ, ◌≤ℤ◌, ◌<ℤ◌, ◌⊎◌, List, [], ◌∷◌, map}
use Rattle.sot_box.specs.Sides.{Side}

-- a point is in a box where each coordinate is in the interval of its axis; both have as many axes
abbrev pub IsWithin : List Side → List ℤ → Type 0
IsWithin [] [] = Unit {0}
IsWithin (r ∷ rs) (x ∷ xs) = (r.lo ≤ℤ x) × (x ≤ℤ r.hi) × IsWithin rs xs
IsWithin [] (x ∷ xs) = ⊥
IsWithin (r ∷ rs) [] = ⊥

-- s comes before t in lexicographical order: it is less in the first coordinate in which they
-- differ
abbrev pub IsBefore : List ℤ → List ℤ → Type 0
IsBefore (x ∷ xs) (y ∷ ys) = (x <ℤ y) ⊎ ((x ≡ y) × IsBefore xs ys)
IsBefore [] ys = ⊥
IsBefore (x ∷ xs) [] = ⊥

-- the corner of the low ends
abbrev pub lows : List Side → List ℤ
lows box = map (λ r. r.lo) box

-- the corner of the high ends
abbrev pub highs : List Side → List ℤ
highs box = map (λ r. r.hi) box

-- the box that holds one point alone
abbrev pub point_box : List ℤ → List Side
point_box s = map (λ x. record { lo = x; hi = x }) s
