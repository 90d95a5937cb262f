-- Between the crate's own functions: hulls of blocks of 64 boxes.
use Rattle.std.specs.Prelude.{ℕ, ◌+◌, ◌*◌, ◌≤◌, ◌<◌, ◌≡◌, List, length}
use Rattle.sot_lists.specs.Places.{At, Has}
use Rattle.sot_box.specs.Sides.{Side}
use Rattle.sot_recover.specs.Meeting.{IsAround, AreOfOneWidth, RiseFrom}

-- place i is in the block that begins at this place
abbrev pub IsInBlock : ℕ → ℕ → Type 0
IsInBlock from i = (from ≤ i) × (i < from + 64)

-- the numbers rise, and lie below n
abbrev pub RiseBelow : ℕ → List ℕ → Type 0
RiseBelow n xs = RiseFrom 0 xs × ((k : ℕ) → Has xs k → k < n)

-- the first hulls are around the boxes of their blocks
abbrev pub AreHullsOf : List (List Side) → List (List Side) → Type 0
AreHullsOf boxes hulls =
    (k i : ℕ) (h b : List Side) → At hulls k h → At boxes i b → IsInBlock (k * 64) i
    → (length h ≡ length b) × IsAround h b

-- each block has its hull
pub record IsBlocked (boxes hulls : List (List Side)) : Type 0 where
  pub widths : AreOfOneWidth boxes
  pub whole : length boxes ≤ length hulls * 64
  pub few : length hulls * 64 ≤ length boxes + 63
  pub around : AreHullsOf boxes hulls
