-- What a line says of a draft: each drafted scalar with its number, and whether the number is in
-- the scalar's range.
use Rattle.std.specs.Prelude.{ℕ, ◌+◌, ℤ, Bool, if◌then◌else◌, int_le, ◌&&◌, List, [], ◌∷◌, ◌++◌}
use Rattle.std.specs.Prelude.{Option, Some, None, codes}
use Rattle.sot_lang.specs.Tables.{Tables}
use Rattle.sot_lang.specs.Ranges.{range_of}
use Rattle.sot_trace.specs.Names.{scalar_name}
use Rattle.sot_trace.specs.Numbers.{signed_numeral}

-- the number is in the range of the scalar k
abbrev pub is_in_range : Tables → ℕ → ℤ → Bool
is_in_range p k z = int_le (range_of p.scalars k).lo z && int_le z (range_of p.scalars k).hi

-- `=` before a number in range, `!` before any other
abbrev pub mark : Bool → List ℕ
mark in_range = if in_range then codes "=" else codes "!"

-- ` NAME=V` or ` NAME!V`, and nothing where nothing is drafted
abbrev pub slot_text : Tables → ℕ → Option ℤ → List ℕ
slot_text p k None = []
slot_text p k (Some z) =
    codes " " ++ (scalar_name p k ++ (mark (is_in_range p k z) ++ signed_numeral z))

-- the slots of a draft, each for its scalar; slots past the last scalar are not printed
abbrev pub draft_text : Tables → List ℕ → List (Option ℤ) → List ℕ
draft_text p [] draft = []
draft_text p (k ∷ ks) [] = []
draft_text p (k ∷ ks) (slot ∷ draft) = slot_text p k slot ++ draft_text p ks draft

-- 1 for a number outside its scalar's range
abbrev pub slot_refused : Tables → ℕ → Option ℤ → ℕ
slot_refused p k None = 0
slot_refused p k (Some z) = if is_in_range p k z then 0 else 1

-- how many numbers of a draft are outside their scalars' ranges
abbrev pub draft_refused : Tables → List ℕ → List (Option ℤ) → ℕ
draft_refused p [] draft = 0
draft_refused p (k ∷ ks) [] = 0
draft_refused p (k ∷ ks) (slot ∷ draft) = slot_refused p k slot + draft_refused p ks draft
