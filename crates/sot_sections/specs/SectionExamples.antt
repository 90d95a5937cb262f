-- Worked texts and their sections, and what holds of all texts.
use Rattle.std.specs.Prelude.{◌≡◌, ℕ, List, [], ◌∷◌, ◌++◌, codes, None, Some, Ok, Err}
use Rattle.std.specs.List.{flat_map}
use Rattle.sot_sections.specs.declared.mission.Need.TheVariants.{Check, Fly, Replay}
use Rattle.sot_sections.specs.declared.mission.SectionKind.TheVariants.{Unknown, Order, Missing}
use Rattle.sot_sections.specs.Sections.{Division, division, split_of}
use Rattle.sot_text.specs.LineEnds.{lines}

-- a text and a line end
abbrev pub line : List ℕ → List ℕ
line text = text ++ 10 ∷ []

-- the four parts, of which the trace has no line end
abbrev pub whole : List ℕ
whole =
    line (codes "p % 2") ++ line (codes "%certificate") ++ line (codes "c")
    ++ line (codes "%flight") ++ line (codes "%trace") ++ codes "t"

abbrev pub AllParts : Type 0
AllParts =
    split_of whole Replay ≡ Ok (record {
      program = line (codes "p % 2");
      cert = line (codes "c");
      flight = Some [];
      trace = Some (codes "t");
    })

-- what a command does not need is not handed out
abbrev pub PartsForFlight : Type 0
PartsForFlight =
    split_of whole Fly ≡ Ok (record {
      program = line (codes "p % 2");
      cert = line (codes "c");
      flight = Some [];
      trace = None;
    })

abbrev pub PartsForCheck : Type 0
PartsForCheck =
    split_of whole Check ≡ Ok (record {
      program = line (codes "p % 2");
      cert = line (codes "c");
      flight = None;
      trace = None;
    })

-- one CR before the line end is dropped, also where the text ends
abbrev pub LinesEndWithCr : Type 0
LinesEndWithCr =
    split_of (line (codes "%certificate" ++ 13 ∷ []) ++ codes "%flight" ++ 13 ∷ []) Fly
    ≡ Ok (record { program = []; cert = []; flight = Some []; trace = None })

abbrev pub TwoCrs : Type 0
TwoCrs =
    split_of (line (codes "%certificate" ++ 13 ∷ 13 ∷ [])) Check
    ≡ Err (record { line = 1; kind = Unknown })

-- behind what is needed too
abbrev pub UnknownFarBehind : Type 0
UnknownFarBehind =
    split_of (whole ++ line [] ++ codes "%x") Check ≡ Err (record { line = 7; kind = Unknown })

abbrev pub Repeated : Type 0
Repeated =
    split_of (line (codes "%certificate") ++ line (codes "c") ++ line (codes "%certificate")
    ++ codes "%x") Check ≡ Err (record { line = 3; kind = Order })

abbrev pub OutOfOrder : Type 0
OutOfOrder =
    split_of (line (codes "%flight") ++ codes "%certificate") Fly
    ≡ Err (record { line = 2; kind = Order })

-- a part that is skipped is missing at the end; the empty text has no line
abbrev pub Skipped : Type 0
Skipped =
    split_of (line (codes "p") ++ codes "%flight") Check ≡ Err (record { line = 3; kind = Missing })

abbrev pub EmptyText : Type 0
EmptyText = split_of [] Check ≡ Err (record { line = 1; kind = Missing })

-- the text before the first section line, the section lines and what stands behind each are the
-- text
abbrev pub joined : Division → List ℕ
joined d = d.front ++ flat_map (λ s. s.mark ++ s.body) d.sections

abbrev pub SectionsAreTheText : Type 0
SectionsAreTheText = (bytes : List ℕ) → joined (division 1 (lines bytes)) ≡ bytes
