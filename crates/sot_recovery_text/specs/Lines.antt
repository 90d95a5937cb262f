-- The lines of what is found of modules.
use Rattle.std.specs.Prelude.{ℕ, ℤ, ◌+◌, ◌*◌, List, [], ◌∷◌, ◌++◌, codes, slice_get}
use Rattle.std.specs.Option.{option_map_or}
use Rattle.std.specs.Fmt.{decimal}
use Rattle.sot_lang.specs.Tables.{Tables}
use Rattle.sot_lang.specs.Names.{module_name}
use Rattle.sot_report.specs.Pieces.{line}
use Rattle.sot_report.specs.RefusalTexts.{gap_line}

-- what is found of a module: its rank, or the point of its safe region that the cells of all ranks
-- leave out
pub data Outcome : Type 0 where
  Within : (holds : ℕ) → Outcome
  Never : (point : List ℤ) → Outcome

-- the period of a module's safe node
abbrev pub safe_period : Tables → ℕ → ℕ
safe_period t m =
    option_map_or (λ a. option_map_or (λ n. n.period) (slice_get t.nodes a.sc) 0)
    (slice_get t.modules m) 0

-- `recover MODULE holds N ticks T`: a hold lasts for the safe node's period and the jitter at most
abbrev pub recover_line : Tables → ℕ → ℕ → ℕ → List ℕ
recover_line t jitter m n =
    codes "recover " ++ (module_name t m ++ (codes " holds " ++ (decimal n
    ++ (codes " ticks " ++ line (decimal (n * (safe_period t m + jitter)))))))

-- the line of module m, where it recovers, and where it never does
abbrev pub line_within : Tables → ℕ → ℕ → Outcome → List ℕ
line_within t jitter m (Within n) = recover_line t jitter m n
line_within t jitter m (Never point) = []

abbrev pub line_never : Tables → ℕ → Outcome → List ℕ
line_never t m (Within n) = []
line_never t m (Never point) = gap_line (codes "recover") t m point

-- of these outcomes, which are those of the modules from m on: a line for each module that recovers
abbrev pub recover_lines : Tables → ℕ → ℕ → List Outcome → List ℕ
recover_lines t jitter m [] = []
recover_lines t jitter m (o ∷ os) = line_within t jitter m o ++ recover_lines t jitter (m + 1) os

-- and a line for each that never does
abbrev pub never_lines : Tables → ℕ → List Outcome → List ℕ
never_lines t m [] = []
never_lines t m (o ∷ os) = line_never t m o ++ never_lines t (m + 1) os
