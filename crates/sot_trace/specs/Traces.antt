-- The text of a history.
use Rattle.std.specs.Prelude.{ℕ, ℤ, List, [], ◌∷◌, ◌++◌, length, map, sum_by}
use Rattle.sot_lang.specs.Tables.{Tables}
use Rattle.sot_world.specs.HistoryEntry.{Logged}
use Rattle.sot_trace.specs.Lines.{line_of, header, start_lines, end_line, ticks_in, refused_in}

-- lines, each with a line end (LF)
abbrev pub text_of : List (List ℕ) → List ℕ
text_of [] = []
text_of (line ∷ lines) = line ++ (10 ∷ text_of lines)

-- the last line counts the ticks, the entries and the numbers outside their ranges
abbrev pub last_line : Tables → List Logged → List ℕ
last_line p entries =
    end_line (sum_by ticks_in entries) (length entries) (sum_by (refused_in p) entries)

-- the lines of a history from these points
abbrev pub trace_lines : Tables → List (List ℤ) → List Logged → List (List ℕ)
trace_lines p start entries =
    header ∷ (start_lines p.plants start ++ (map (line_of p) entries ++ (last_line p entries ∷ [])))

-- the text of a history from these points
abbrev pub trace_text : Tables → List (List ℤ) → List Logged → List ℕ
trace_text p start entries = text_of (trace_lines p start entries)
