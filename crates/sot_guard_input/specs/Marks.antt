-- The line behind which a robot speaks, and the time at which it begins.
use Rattle.std.specs.Prelude.{ℕ, ◌^◌, ◌==◌, ◌&&◌, nat_le, length, Bool, false, List, [], ◌∷◌}
use Rattle.std.specs.Prelude.{Option, None, Some, take, drop, codes, if◌then◌else◌}
use Rattle.std.specs.List.{list_all}
use Rattle.std.specs.Option.{is_some}
use Rattle.std.specs.Char.{is_ascii_digit}
use Rattle.std.specs.Str.{bytes_eq}
use Rattle.sot_text.specs.Lexeme.{value}
use Rattle.sot_sections.specs.Sections.{title}

-- digits alone, and no zero in front of others
abbrev pub is_numeral : List ℕ → Bool
is_numeral [] = false
is_numeral (d ∷ ds) =
    if d == 48 then length ds == 0 else list_all is_ascii_digit (d ∷ ds)

-- the time that a text says, in ticks: a numeral, at most 10^12
abbrev pub time_said : List ℕ → Option ℕ
time_said text =
    if is_numeral text && nat_le (value text) (10 ^ 12) then Some (value text) else None

-- .. behind these words
abbrev pub time_behind : List ℕ → Option ℕ
time_behind text =
    if bytes_eq (take 10 text) (codes "%observed ") then time_said (drop 10 text) else None

-- the time at which a robot begins behind a line, if the line is such a mark: 0 where it says none
abbrev pub marked_time : List ℕ → Option ℕ
marked_time line =
    if bytes_eq (title line) (codes "%observed") then Some 0 else time_behind (title line)

abbrev pub is_observed : List ℕ → Bool
is_observed line = is_some (marked_time line)
