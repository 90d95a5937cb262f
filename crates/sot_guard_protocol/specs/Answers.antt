-- The lines that a robot is answered with.
use Rattle.std.specs.Prelude.{ℕ, ◌+◌, ◌<◌, ℤ, List, [], ◌∷◌, ◌++◌, Option, Some, None, map, length}
use Rattle.std.specs.Prelude.{codes}
use Rattle.sot_lists.specs.Places.{At}
use Rattle.sot_lang.specs.declared.tables.PlantInfo.{PlantInfo}
use Rattle.sot_lang.specs.Tables.{Tables}
use Rattle.sot_world.specs.declared.outcome.Firing.{Firing}
use Rattle.sot_world.specs.HistoryEntry.{FireAt, DecideAt}
use Rattle.sot_trace.specs.Lines.{line_of}
use Rattle.sot_trace.specs.Numbers.{numeral}
use Rattle.sot_trace.specs.Traces.{text_of}
use Rattle.sot_guard.specs.declared.misheard.Misheard.{Misheard}
use Rattle.sot_guard.specs.declared.misheard.Misheard.TheVariants as misheard
use Rattle.sot_guard.specs.declared.outside.Outside.{Outside}
use Rattle.sot_guard.specs.declared.told.Told.{Told}
use Rattle.sot_guard.specs.declared.told.Told.TheVariants.{Decided, Fired}
use Rattle.sot_guard_lines.specs.Lines.{hold_line, begins_line, ready_line, outside_line}
use Rattle.sot_guard_lines.specs.Lines.{resumed_line, refused_resume_line}
use Rattle.sot_guard_protocol.specs.declared.aside.Aside.{Aside}
use Rattle.sot_guard_protocol.specs.declared.aside.Aside.TheVariants as aside
use Rattle.sot_guard_protocol.specs.Asides.{about_text}

-- what happened at a time, as a trace tells it
abbrev pub told_line : Tables → ℕ → Told → List ℕ
told_line p time (Decided m mode) = line_of p (DecideAt time m mode)
told_line p time (Fired n firing) = line_of p (FireAt time n firing.draft firing.enabled)

-- the nodes that fired are there
abbrev pub AreThere : Tables → List Told → Type 0
AreThere p told = (i n : ℕ) (firing : Firing) → At told i (Fired n firing) → n < length p.nodes

-- the commands that hold each of these plants, which are numbered from this place on
abbrev pub hold_lines : Tables → ℕ → List ℤ → ℕ → List PlantInfo → List (List ℕ)
hold_lines p time scalars k [] = []
hold_lines p time scalars k (x ∷ xs) =
    hold_line p time k scalars ∷ hold_lines p time scalars (k + 1) xs

-- the line with which a talk begins
abbrev pub begins_text : Tables → ℕ → List ℕ
begins_text p time = text_of (begins_line p time ∷ [])

-- the lines of an instant: what happened in order, the commands in force, and that it is over, with
-- the external nodes that are due after the tick
abbrev pub instant_lines : Tables → ℕ → List ℤ → List Told → List (List ℕ)
instant_lines p time scalars told =
    map (told_line p time) told
    ++ (hold_lines p time scalars 0 p.plants ++ (ready_line p time ∷ []))

-- the line of a state variable that is observed outside its interval, if one is
abbrev pub outside_lines : Tables → ℕ → Option Outside → List (List ℕ)
outside_lines p time None = []
outside_lines p time (Some o) =
    outside_line p time o.plant o.state o.bounds o.value ∷ []

-- the line of a `resume` that is taken: the models are trusted again, or a module keeps them from
-- being
abbrev pub resume_line : Tables → ℕ → Option ℕ → List ℕ
resume_line p time None = resumed_line time
resume_line p time (Some m) = refused_resume_line p time m

-- why a line is not taken
abbrev pub misheard_word : Misheard → List ℕ
misheard_word misheard.OutOfTurn = codes "OutOfTurn"
misheard_word misheard.NotALine = codes "NotALine"
misheard_word misheard.NotDue = codes "NotDue"
misheard_word misheard.AlreadyDrafted = codes "AlreadyDrafted"
misheard_word misheard.OutsideType = codes "OutsideType"
misheard_word misheard.TooFar = codes "TooFar"
misheard_word misheard.NotSeen = codes "NotSeen"

abbrev pub aside_word : Aside → List ℕ
aside_word aside.Draft = codes "draft"
aside_word aside.Input = codes "input"
aside_word aside.Resume = codes "resume"

-- `T ignored draft NODE KIND`, `T ignored input TOPIC KIND` and `T ignored resume KIND`: such a line
-- is not taken. NODE and TOPIC are left out where the line names none that is declared
abbrev pub ignored_line : Tables → ℕ → Aside → List ℕ → Misheard → List ℕ
ignored_line p time a line why =
    numeral time
    ++ (codes " ignored "
    ++ (aside_word a ++ (about_text p a line ++ (codes " " ++ misheard_word why))))

-- `T blind KIND`: another line that is not taken, so that the models are trusted no more
abbrev pub blind_line : ℕ → Misheard → List ℕ
blind_line time why = numeral time ++ (codes " blind " ++ misheard_word why)
