-- How the text of a mission is divided into sections.
use Rattle.std.specs.Prelude.{ℕ, suc, List, [], ◌∷◌, ◌++◌, Bool, false, ◌==◌, nat_le, if◌then◌else◌}
use Rattle.std.specs.Prelude.{length, codes, Option, None, Some, Result, Ok, Err}
use Rattle.std.specs.Option.{option_map}
use Rattle.std.specs.Str.{bytes_eq}
use Rattle.sot_text.specs.LineEnds.{lines, without_last}
use Rattle.sot_sections.specs.declared.mission.Need.{Need}
use Rattle.sot_sections.specs.declared.mission.Need.TheVariants.{Check, Fly, Replay}
use Rattle.sot_sections.specs.declared.mission.Sections.{Sections}
use Rattle.sot_sections.specs.declared.mission.SectionFault.{SectionFault}
use Rattle.sot_sections.specs.declared.mission.SectionKind.TheVariants.{Unknown, Order, Missing}

-- a section line begins with '%'
abbrev pub is_section_line : List ℕ → Bool
is_section_line [] = false
is_section_line (b ∷ bs) = b == 37

-- what a section line says: the line without its LF, and then without a CR at its end
abbrev pub title : List ℕ → List ℕ
title line = without_last 13 (without_last 10 line)

-- the place of a title in the order of the sections behind the program, from 1; any other title has
-- 0
unfoldable pub place : List ℕ → ℕ
place t =
    if bytes_eq t (codes "%certificate") then 1
    else (if bytes_eq t (codes "%flight") then 2
    else (if bytes_eq t (codes "%trace") then 3
    else 0))

-- a section line, by its number, and the bytes from behind it to the next section line or the end
pub record Section : Type 0 where
  pub line : ℕ
  pub mark : List ℕ
  pub body : List ℕ

-- the bytes before the first section line, and the sections in their order
pub record Division : Type 0 where
  pub front : List ℕ
  pub sections : List Section

-- an ordinary line, and a section line, before lines that are divided so
abbrev pub continued : List ℕ → Division → Division
continued l rest = record { front = l ++ rest.front; sections = rest.sections }

abbrev pub opened : ℕ → List ℕ → Division → Division
opened number l rest =
    record {
      front = [];
      sections = record { line = number; mark = l; body = rest.front } ∷
          rest.sections;
    }

-- lines, of which the first has this number, are divided at their section lines
abbrev pub division : ℕ → List (List ℕ) → Division
division number [] = record { front = []; sections = [] }
division number (l ∷ ls) =
    if is_section_line l then opened number l (division (suc number) ls) else continued l
    (division (suc number) ls)

-- the first section line with a fault, behind sections of which the last has this place: its title
-- is none of the known ones, or it does not come after all earlier known ones
abbrev pub fault_behind : ℕ → List Section → Option SectionFault
fault_behind last [] = None
fault_behind last (s ∷ ss) =
    if place (title s.mark) == 0 then Some (record { line = s.line; kind = Unknown })
    else (if nat_le (place (title s.mark)) last then Some (record { line = s.line; kind = Order })
    else fault_behind (place (title s.mark)) ss)

-- the bytes of the section with this place, if it comes
abbrev pub body_of : ℕ → List Section → Option (List ℕ)
body_of k [] = None
body_of k (s ∷ ss) = if place (title s.mark) == k then Some s.body else body_of k ss

-- the parts that a command reads
pub record Parts : Type 0 where
  pub program : List ℕ
  pub cert : List ℕ
  pub flight : Option (List ℕ)
  pub trace : Option (List ℕ)

-- a check needs the certificate; to fly needs the flight too, and to replay the trace as well. None
-- where one of these does not come
abbrev pub needed : Need → List ℕ → Option (List ℕ) → Option (List ℕ) → Option (List ℕ)
    → Option Parts
needed Check program (Some c) flight trace =
    Some (record { program = program; cert = c; flight = None; trace = None })
needed Check program None flight trace = None
needed Fly program (Some c) (Some f) trace =
    Some (record { program = program; cert = c; flight = Some f; trace = None })
needed Fly program (Some c) None trace = None
needed Fly program None flight trace = None
needed Replay program (Some c) (Some f) (Some t) =
    Some (record { program = program; cert = c; flight = Some f; trace = Some t })
needed Replay program (Some c) (Some f) None = None
needed Replay program (Some c) None trace = None
needed Replay program None flight trace = None

abbrev pub or_missing : ℕ → Option Parts → Result Parts SectionFault
or_missing line (Some parts) = Ok parts
or_missing line None = Err (record { line = line; kind = Missing })

abbrev pub unless : Option SectionFault → Result Parts SectionFault → Result Parts SectionFault
unless (Some fault) answer = Err fault
unless None answer = answer

-- the parts of a divided text of so many lines: the first fault of its section lines, else the
-- parts that are needed; one that does not come is missing at the number of lines plus 1
abbrev pub answer_of : Need → ℕ → Division → Result Parts SectionFault
answer_of need count d =
    unless (fault_behind 0 d.sections)
    (or_missing (suc count) (needed need d.front (body_of 1 d.sections) (body_of 2 d.sections)
    (body_of 3 d.sections)))

-- a mission's text, split into the parts that are needed
abbrev pub split_of : List ℕ → Need → Result Parts SectionFault
split_of bytes need = answer_of need (length (lines bytes)) (division 1 (lines bytes))

-- what `split` returned, seen as lists of bytes
abbrev pub parts_of : Sections → Parts
parts_of s =
    record {
      program = s.program.now;
      cert = s.cert.now;
      flight = option_map (λ b. b.now) s.flight;
      trace = option_map (λ b. b.now) s.trace;
    }

abbrev pub answer_seen : Result Sections SectionFault → Result Parts SectionFault
answer_seen (Ok s) = Ok (parts_of s)
answer_seen (Err fault) = Err fault
