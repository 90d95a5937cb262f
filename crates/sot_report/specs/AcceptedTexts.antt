-- What is written of an accepted mission.
use Rattle.std.specs.Prelude.{ℕ, ◌+◌, List, [], ◌∷◌, ◌++◌, Option, None, Some, length, codes}
use Rattle.std.specs.Fmt.{decimal}
use Rattle.sot_lang.specs.Tables.{Tables}
use Rattle.sot_lang.specs.declared.cert.Cells.{Cells}
use Rattle.sot_lang.specs.declared.cert.Cert.{Cert}
use Rattle.sot_report.specs.Pieces.{line}

-- how many cells an entry has, closed cells and reach cells together
abbrev pub entry_count : Option Cells → ℕ
entry_count None = 0
entry_count (Some cells) = length cells.closed.boxes + length cells.reach.boxes

-- how many all entries have
abbrev pub cell_count : List (Option Cells) → ℕ
cell_count [] = 0
cell_count (x ∷ xs) = entry_count x + cell_count xs

-- `accepted`, and a line of counts: `modules M nodes N cells C`
abbrev pub counts_text : ℕ → ℕ → ℕ → List ℕ
counts_text modules nodes cells =
    line (codes "accepted") ++ (codes "modules "
    ++ (decimal modules ++ (codes " nodes "
    ++ (decimal nodes ++ (codes " cells " ++ line (decimal cells))))))

-- what is said of a program's tables with a certificate
abbrev pub accepted_text : Tables → Cert → List ℕ
accepted_text t cert =
    counts_text (length t.modules) (length t.nodes) (cell_count cert.modules.items)
