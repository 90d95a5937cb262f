-- The line of a summary.
use Rattle.std.specs.Prelude.{ℕ, ℤ, List, ◌++◌, codes}
use Rattle.std.specs.Fmt.{decimal, signed_decimal}
use Rattle.sot_summary.specs.declared.summary.Summary.{Summary}

-- `soak modules M nodes N horizon H`: how large program and flight are
abbrev pub sizes_text : ℕ → ℕ → ℕ → List ℕ
sizes_text modules nodes horizon =
    codes "soak modules " ++ (decimal modules
    ++ (codes " nodes " ++ (decimal nodes ++ (codes " horizon " ++ decimal horizon))))

-- ` firings F ticks T refused R outside O sum X` and a line end: what was counted of the history
abbrev pub counts_text : ℕ → ℕ → ℕ → ℕ → ℤ → List ℕ
counts_text firings ticks refused outside sum =
    codes " firings " ++ (decimal firings
    ++ (codes " ticks " ++ (decimal ticks ++ (codes " refused " ++ (decimal refused
    ++ (codes " outside " ++ (decimal outside
    ++ (codes " sum " ++ (signed_decimal sum ++ codes "\n")))))))))

-- both, in one line
abbrev pub summary_text : Summary → List ℕ
summary_text s =
    sizes_text s.modules s.nodes s.horizon
    ++ counts_text s.firings s.ticks s.refused s.outside s.sum
