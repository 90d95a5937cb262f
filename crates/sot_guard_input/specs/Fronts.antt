-- The front of a talk: a text up to its first line `%observed`.
use Rattle.std.specs.Prelude.{◌≡◌, ℕ, ◌<◌, ◌≤◌, Bool, true, false, List, [], ◌∷◌, ◌++◌}
use Rattle.std.specs.Prelude.{Option, Some, length, take, drop}
use Rattle.std.specs.List.{list_any}
use Rattle.sot_text.specs.LineEnds.{lines}
use Rattle.sot_guard_input.specs.declared.ear.Ear.{Ear}
use Rattle.sot_guard_input.specs.declared.front.MissionFront.{MissionFront}
use Rattle.sot_guard_input.specs.declared.front.MissionFront.TheVariants.{Observed, Unobserved}
use Rattle.sot_guard_input.specs.Marks.{marked_time, is_observed}
use Rattle.sot_guard_input.specs.Reading.{Reads, IsSettled, ends_line, IsAtMostALine}

-- no line of a text is a mark
abbrev pub HasNone : List ℕ → Type 0
HasNone text = list_any is_observed (lines text) ≡ false

-- whole lines, none of which is a mark
pub record IsFront (front : List ℕ) : Type 0 where
  pub whole : ends_line front ≡ true
  pub none : HasNone front

-- a line that marks this time. Only at the end of a source it has no line end
pub record IsMark (mark : List ℕ) (time : ℕ) (ended : Bool) : Type 0 where
  pub one : lines mark ≡ mark ∷ []
  pub is : marked_time mark ≡ Some time
  pub whole : ended ≡ false → ends_line mark ≡ true

-- bytes came of a source, and this is left to be heard
pub record IsRead (left left_after : Option (List ℕ)) (e : Ear) (limit : ℕ) (bytes : List ℕ)
    : Type 0 where
  pub reads : Reads left left_after [] e.buffer bytes
  pub settled : IsSettled left_after e.buffer e.ended
  pub short : length bytes ≤ limit

-- a front and its mark came; or a text that has none, and the source is at its end
abbrev pub Comes : Option (List ℕ) → Option (List ℕ) → Ear → ℕ → MissionFront → Type 0
Comes left left_after e limit (Observed front time) =
    (mark : List ℕ) × IsFront front.items × IsMark mark time e.ended
    × IsRead left left_after e limit (front.items ++ mark)
Comes left left_after e limit (Unobserved text) =
    HasNone text.items × (e.ended ≡ true) × IsRead left left_after e limit text.items

-- a text whose last line begins at this place: it is a mark, and what is before it is the front; or
-- it is none
abbrev pub IsLastFront : List ℕ → ℕ → MissionFront → Type 0
IsLastFront text start (Observed front time) =
    (marked_time (drop start text) ≡ Some time) × (front.items ≡ take start text)
IsLastFront text start (Unobserved whole) =
    (is_observed (drop start text) ≡ false) × (whole.items ≡ text)

-- of the bytes that were passed and those that wait, more than this are at the front, and no mark
-- ends among so many first ones
pub record IsTooLong (passed waiting : List ℕ) (limit : ℕ) : Type 0 where
  pub front : List ℕ
  pub part : List ℕ
  pub rest : List ℕ
  pub bytes_are : passed ++ waiting ≡ (front ++ part) ++ rest
  pub is_front : IsFront front
  pub part_is : IsAtMostALine part
  pub long : limit < length (front ++ part)
