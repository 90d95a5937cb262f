-- Worked lines of the running example, written out by hand.
use Rattle.std.specs.Prelude.{◌≡◌, ℕ, pos, negsuc, List, [], ◌∷◌, ◌++◌, codes}
use Rattle.std.specs.Global.{Global}
use Rattle.sot_lang.specs.Line.{line}
use Rattle.sot_lang.specs.Tables.{Tables}
use Rattle.sot_guard_lines.specs.Lines.{hold_line, begins_line, ready_line, outside_line}
use Rattle.sot_guard_lines.specs.Lines.{end_line}
use Rattle.sot_guard_lines.specs.Outline.{outline_text}
use Rattle.sot_guard_lines.specs.Lines.{resumed_line, refused_resume_line}
use Rattle.sot_guard_lines.specs.Sayings.{Saying, ResumeSaid, IsSaid}

-- its one plant takes its one command
abbrev pub HeldByACommand : Global → Type 0
HeldByACommand g =
    (hold_line (line g) 0 0 (pos 2 ∷ []) ≡ codes "0 hold pos cmd=2")
    × (hold_line (line g) 1204 0 (negsuc 1 ∷ []) ≡ codes "1204 hold pos cmd=-2")
    × (hold_line (line g) 7 1 (pos 2 ∷ []) ≡ codes "7 hold ")

-- from 0, with the command 2, it goes to 1 to 3, and is observed at 4
abbrev pub OutsideItsInterval : Global → Type 0
OutsideItsInterval g =
    (outside_line (line g) 1 0 0 (record { lo = pos 1; hi = pos 3 }) (pos 4)
    ≡ codes "1 outside plant pos state x [1..3] observed 4")
    × (outside_line (line g) 30 0 0 (record { lo = negsuc 12; hi = negsuc 10 }) (pos 0)
    ≡ codes "30 outside plant pos state x [-13..-11] observed 0")

-- its one external node is due at each fourth time, and its safe node is coded
abbrev pub ReadyForATick : Global → Type 0
ReadyForATick g =
    (begins_line (line g) 0 ≡ codes "0 begins fast")
    × (begins_line (line g) 6 ≡ codes "6 begins")
    × (ready_line (line g) 0 ≡ codes "0 ready")
    × (ready_line (line g) 3 ≡ codes "3 ready fast")
    × (ready_line (line g) 4 ≡ codes "4 ready")
    × (ready_line (line g) 4294967295 ≡ codes "4294967295 ready fast")
    × (ready_line (line g) 4294967299 ≡ codes "4294967299 ready fast")

-- all that a robot has to know of it
abbrev pub KnownToARobot : Global → Type 0
KnownToARobot g =
    outline_text (line g)
    ≡ codes "says state pos x scale 0 range -9223372036854775808 9223372036854775807\n"
    ++ (codes "says command pos cmd scale 0 range -2 2\nsays external fast\n"
    ++ codes "says draft fast cmd scale 0 range -2 2\nsays module nav\nsays all\n")

abbrev pub OtherLines : Type 0
OtherLines = end_line 20 61 ≡ codes "end 20 events 61"

abbrev pub SaysNothing : Tables → List ℕ → Type 0
SaysNothing p line = (s : Saying) → IsSaid p line s → ⊥

-- `resume` is a line by itself, of any program: no other line that begins so says anything
abbrev pub ResumesAlone : Tables → Type 0
ResumesAlone p =
    IsSaid p (codes "resume") ResumeSaid
    × SaysNothing p (codes "resume now") × SaysNothing p (codes "resume ")
    × SaysNothing p (codes "resumed") × SaysNothing p (codes "resum")
    × SaysNothing p (codes " resume") × SaysNothing p (codes "Resume")

-- how it is answered; the one module of the running example is called `nav`
abbrev pub AnswersToResume : Global → Type 0
AnswersToResume g =
    (resumed_line 31 ≡ codes "31 resumed")
    × (resumed_line 4294967299 ≡ codes "4294967299 resumed")
    × (refused_resume_line (line g) 31 0 ≡ codes "31 refused resume module nav")
