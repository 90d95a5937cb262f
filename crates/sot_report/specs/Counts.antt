-- Entries with few cells.
use Rattle.std.specs.Prelude.{ℕ, ◌≤◌, List, Option}
use Rattle.sot_lists.specs.Places.{At}
use Rattle.sot_lang.specs.declared.cert.Cells.{Cells}
use Rattle.sot_report.specs.AcceptedTexts.{entry_count}

-- each of these entries has at most 8,192 cells
abbrev pub AreFew : List (Option Cells) → Type 0
AreFew xs = (m : ℕ) (x : Option Cells) → At xs m x → entry_count x ≤ 8192
