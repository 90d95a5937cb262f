-- Boxes that meet, and boxes around boxes, side by side.
use Rattle.std.specs.Prelude.{ℕ, suc, ◌≤◌, ◌≤ℤ◌, ◌≡◌, List, [], ◌∷◌, length}
use Rattle.sot_lists.specs.Places.{At}
use Rattle.sot_box.specs.Sides.{Side}

-- two boxes meet: on each axis neither begins behind the end of the other
abbrev pub Meet : List Side → List Side → Type 0
Meet a b = (k : ℕ) (r q : Side) → At a k r → At b k q → (r.lo ≤ℤ q.hi) × (q.lo ≤ℤ r.hi)

-- a box is around another: on each axis it begins at or before its beginning, and ends at or behind
-- its end
abbrev pub IsAround : List Side → List Side → Type 0
IsAround hull b = (k : ℕ) (r q : Side) → At hull k r → At b k q → (r.lo ≤ℤ q.lo) × (q.hi ≤ℤ r.hi)

-- all boxes have as many axes as each other
abbrev pub AreOfOneWidth : List (List Side) → Type 0
AreOfOneWidth boxes =
    (i j : ℕ) (b c : List Side) → At boxes i b → At boxes j c → length b ≡ length c

-- a box of their width is around each of them
abbrev pub IsAroundAll : List Side → List (List Side) → Type 0
IsAroundAll hull boxes =
    (i : ℕ) (b : List Side) → At boxes i b → (length hull ≡ length b) × IsAround hull b

-- numbers that rise, from n on: each is above the one before it
abbrev pub RiseFrom : ℕ → List ℕ → Type 0
RiseFrom n [] = Unit {0}
RiseFrom n (x ∷ xs) = (n ≤ x) × RiseFrom (suc x) xs

-- the box at place i meets a box
abbrev pub MeetsAt : List (List Side) → List Side → ℕ → Type 0
MeetsAt boxes b i = (c : List Side) × At boxes i c × Meet c b
