-- How single answers are written.
use Rattle.std.specs.Prelude.{◌≡◌, ℕ, ℤ, ◌∷◌, [], List, Option, Result, Ok, Err, slice_index_or}
use Rattle.std.specs.declared.alloc.AllocError.{AllocError}
use Rattle.sot_lists.specs.Places.{At}
use Rattle.sot_lang.specs.declared.tables.ModuleInfo.{ModuleInfo}
use Rattle.sot_lang.specs.Tables.{Tables}
use Rattle.sot_ports.specs.Outside.{Written}
use Rattle.sot_text_output.specs.declared.spool.Spool.{Spool}
use Rattle.sot_text_output.specs.Spools.{IsSpooled}
use Rattle.sot_text_output.specs.SpoolViews.{spooling}
use Rattle.sot_report.specs.RefusalTexts.{start_text}
use Rattle.sot_trace.specs.Traces.{text_of}
use Rattle.sot_guard_lines.specs.Lines.{end_line}
use Rattle.sot_guard_protocol.specs.Talks.{Talking, time_of}
use Rattle.sot_cli.specs.declared.answer.Answer.{Answer}
use Rattle.sot_guard_program.specs.declared.halt.Stop.{Stop}
use Rattle.sot_guard_program.specs.declared.halt.Stop.TheVariants as stops
use Rattle.sot_guard_program.specs.Lines.{missing_word, at_line}
use Rattle.sot_guard_protocol.specs.Answers.{misheard_word}
use Rattle.sot_guard_program.specs.Moments.{Mouth}
use Rattle.sot_guard_program.specs.Says.{end_status}

-- the line that refuses to begin since this module's plant, observed so, is not held safe
abbrev pub IsStartLine : Tables → List (List ℤ) → ℕ → List ℕ → Type 0
IsStartLine p starts m text =
    (a : ModuleInfo) → At p.modules m a
    → text ≡ start_text p m (slice_index_or starts a.plant [])

-- nothing is written, and this is the status
abbrev pub IsQuiet : ℕ → Mouth → Mouth → ℕ → Type 0
IsQuiet said x y status = (status ≡ said) × (y ≡ x)

-- a text is written with this status
abbrev pub Tells : ℕ → List ℕ → Mouth → Mouth → ℕ → Type 0
Tells said text x y status = Written x.held y.held x.faults y.faults said text status

-- whatever was put into a spool, since its sink held this and had so many faults, is written with
-- this status
abbrev pub TellsPut : {K : Type 0} → (K → Option (List ℕ)) → (K → ℕ) → Spool K → Spool K → ℕ → ℕ
    → Type 0
TellsPut held faults before after said status =
    (held_first : Option (List ℕ)) (faults_first : ℕ) (text : List ℕ)
    → IsSpooled held_first faults_first (spooling held faults before) text
    → Written held_first (held after.sink.now) faults_first (faults after.sink.now) said text status

-- an answer is written, with its status; where there was no memory for one, nothing is
abbrev pub TellsAnswer : Result Answer AllocError → Mouth → Mouth → ℕ → Type 0
TellsAnswer (Ok a) x y status = Tells a.status a.text.items x y status
TellsAnswer (Err e) x y status = IsQuiet 6 x y status

-- why nothing more is heard is told, at the line of this number
abbrev pub TellsStop : Stop → ℕ → Mouth → Mouth → ℕ → Type 0
TellsStop (stops.Misheard why) line x y status =
    Tells 3 (at_line line (misheard_word why)) x y status
TellsStop stops.Missing line x y status = Tells 3 (at_line line missing_word) x y status
TellsStop stops.Source line x y status = IsQuiet 4 x y status
TellsStop stops.Sink line x y status = IsQuiet 5 x y status

-- the last line of a talk
abbrev pub last_text : Talking → List ℕ
last_text u = text_of (end_line (time_of u) u.events ∷ [])

abbrev pub TellsEnd : Talking → Mouth → Mouth → ℕ → Type 0
TellsEnd u x y status = Tells (end_status u) (last_text u) x y status
