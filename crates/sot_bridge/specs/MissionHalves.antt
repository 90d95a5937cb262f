-- The two missions of a text, which is divided at its first line `%bridge`.
use Rattle.std.specs.Prelude.{ℕ, List, [], ◌∷◌, ◌++◌, codes, Option, Some, None, Bool}
use Rattle.std.specs.Prelude.{if◌then◌else◌}
use Rattle.std.specs.Option.{option_map}
use Rattle.std.specs.Str.{bytes_eq}
use Rattle.sot_text.specs.LineEnds.{lines}
use Rattle.sot_sections.specs.Sections.{title}
use Rattle.sot_bridge.specs.declared.halves.MissionHalves.{MissionHalves as Slices}

-- the bytes before that line, and those behind it
pub record MissionHalves : Type 0 where
  pub a : List ℕ
  pub b : List ℕ

abbrev pub halves_seen : Slices → MissionHalves
halves_seen h = record { a = h.a.now; b = h.b.now }

abbrev pub is_bridge : List ℕ → Bool
is_bridge line = bytes_eq (title line) (codes "%bridge")

-- lines, one behind another
abbrev pub joined : List (List ℕ) → List ℕ
joined [] = []
joined (l ∷ ls) = l ++ joined ls

-- halves with a line in front
abbrev pub behind : List ℕ → MissionHalves → MissionHalves
behind l h = record { a = l ++ h.a; b = h.b }

-- lines are divided at the first one that says `%bridge`; there may be none
abbrev pub halves_in : List (List ℕ) → Option MissionHalves
halves_in [] = None
halves_in (l ∷ ls) =
    if is_bridge l then Some (record { a = []; b = joined ls })
    else option_map (behind l) (halves_in ls)

abbrev pub halves_of : List ℕ → Option MissionHalves
halves_of bytes = halves_in (lines bytes)
