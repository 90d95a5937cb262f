-- An index of boxes, sorted on their low ends on the first axis.
use Rattle.std.specs.Prelude.{◌≡◌, ℕ, ◌+◌, ◌<◌, ◌≤◌, ◌≤ℤ◌, ℤ, List, [], ◌∷◌, length, slice_index_or}
use Rattle.std.specs.List.Sorted.{IsPermutation}
use Rattle.sot_box.specs.Sides.{Side}
use Rattle.sot_lists.specs.Places.{At}
use Rattle.sot_box.specs.Boxes.{lows, highs}
use Rattle.sot_box.specs.Sweep.{coordinate}
use Rattle.sot_box.specs.declared.index.Entry.{Entry}

-- where each box begins on the first axis, and its place, in the order of the places, which count
-- from n
abbrev pub entries_from : ℕ → List (List Side) → List Entry
entries_from n [] = []
entries_from n (b ∷ bs) =
    record { low = coordinate (lows b) 0; place = n } ∷ entries_from (n + 1) bs

-- the low ends do not fall
abbrev pub AreInOrder : List Entry → Type 0
AreInOrder entries =
    (i j : ℕ) (d : Entry) → i ≤ j → j < length entries
    → (slice_index_or entries i d).low ≤ℤ (slice_index_or entries j d).low

-- at each place a number that no box of the entries up to there passes on the first axis
pub record AreReaches (boxes : List (List Side)) (entries : List Entry) (reaches : List ℤ) : Type 0
  where
    pub width : length reaches ≡ length entries
    pub above : (i j : ℕ) (e : Entry) (b : List Side) → i ≤ j → j < length reaches → At entries i e
        → At boxes e.place b
        → coordinate (highs b) 0 ≤ℤ coordinate reaches j

-- the entries name each box once, in the order of the low ends on the first axis
pub record IsIndex (boxes : List (List Side)) (entries : List Entry) (reaches : List ℤ) : Type 0
  where
    pub names : IsPermutation (entries_from 0 boxes) entries
    pub order : AreInOrder entries
    pub reach : AreReaches boxes entries reaches
