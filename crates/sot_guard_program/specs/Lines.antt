-- The texts that are always the same, and the line of a line at fault.
use Rattle.std.specs.Prelude.{ℕ, List, ◌++◌, codes}
use Rattle.sot_trace.specs.Numbers.{numeral}

abbrev pub usage_text : List ℕ
usage_text = codes "usage: soter_guard\n"

-- the lines end before each plant was observed
abbrev pub missing_word : List ℕ
missing_word = codes "Missing"

-- `fault observed line L KIND`; lines count from 1, behind the line `%observed`
abbrev pub at_line : ℕ → List ℕ → List ℕ
at_line line word =
    codes "fault observed line " ++ (numeral line ++ (codes " " ++ (word ++ codes "\n")))
