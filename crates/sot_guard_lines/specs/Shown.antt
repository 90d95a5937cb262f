-- What is looked at of a line: numbers of at most 64 bits, and of larger ones that they are larger.
use Rattle.std.specs.Prelude.{ℕ, ◌≡◌, ℤ, Bool, List, Option, Some, None}
use Rattle.sot_lang.specs.Tables.{Tables}
use Rattle.sot_lang.specs.TableRules.{MeetsTableRules}
use Rattle.sot_trace.specs.Words.{AreWords}
use Rattle.sot_trace_lines.specs.Shown.{Holds, ShowsDraft}
use Rattle.sot_guard_lines.specs.declared.said.Said.{Said}
use Rattle.sot_guard_lines.specs.declared.said.Said.TheVariants.{Start, Input, Draft, Go, Tick}
use Rattle.sot_guard_lines.specs.declared.said.Said.TheVariants.{Resume}
use Rattle.sot_guard_lines.specs.Sayings.{Saying, StartSaid, InputSaid, DraftSaid, GoSaid, TickSaid}
use Rattle.sot_guard_lines.specs.Sayings.{ResumeSaid, IsSaid}

-- what is looked at of a line that says s; the numbers of a start, of an input and of a tick stand
-- in the list
abbrev pub ShowsSaid : Said → List ℤ → Saying → Type 0
ShowsSaid (Start plant whole) list s =
    (point : List ℤ) × (s ≡ StartSaid plant point) × Holds whole list point
ShowsSaid (Input topic whole) list s =
    (value : List ℤ) × (s ≡ InputSaid topic value) × Holds whole list value
ShowsSaid (Draft node draft) list s =
    (slots : List (Option (Bool × ℤ))) × (s ≡ DraftSaid node slots) × ShowsDraft draft slots
ShowsSaid Go list s = s ≡ GoSaid
ShowsSaid Resume list s = s ≡ ResumeSaid
ShowsSaid (Tick whole) list s =
    (states : List ℤ) × (s ≡ TickSaid states) × Holds whole list states

-- the answer for a line: what is looked at of what it says; or it says nothing
abbrev pub AnswersSaid : Tables → List ℕ → List ℤ → Option Said → Type 0
AnswersSaid p line list (Some l) = (s : Saying) × IsSaid p line s × ShowsSaid l list s
AnswersSaid p line list None = (s : Saying) → IsSaid p line s → ⊥

-- a line says one thing at most
abbrev pub SaidOnce : Type 0
SaidOnce = (p : Tables) (line : List ℕ) (s t : Saying) → MeetsTableRules p → AreWords p
    → IsSaid p line s → IsSaid p line t → s ≡ t
