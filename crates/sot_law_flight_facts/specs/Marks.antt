-- Traces whose numbers are outside their ranges, written out by hand.
use Rattle.std.specs.Prelude.{◌≡◌, pos, true, false, Some, None, [], ◌∷◌, codes}
use Rattle.std.specs.Global.{Global}
use Rattle.sot_trace.specs.Examples.{wide}
use Rattle.sot_trace.specs.Traces.{trace_text}
use Rattle.sot_law_flight_facts.specs.Versions.{fires}

-- two of the three numbers of one firing are marked, and both count
abbrev pub TwoMarksOfOneFiring : Global → Type 0
TwoMarksOfOneFiring g =
    trace_text (wide g) ((pos 0 ∷ []) ∷ (pos 4 ∷ []) ∷ [])
    (fires (Some (pos 7)) (Some (pos 20)) (Some (pos 1)) true ∷ [])
    ≡
    codes
    "soter trace 1\nstart pos 0\nstart p 4\n0 fire fast cmd!7 goal.x!20 goal.y=1\nend 0 events 1 refused 2\n"

-- the mark of a disabled node counts as any other one
abbrev pub IdleMarksCount : Global → Type 0
IdleMarksCount g =
    trace_text (wide g) ((pos 0 ∷ []) ∷ (pos 4 ∷ []) ∷ [])
    (fires (Some (pos 7)) None None false ∷ fires (Some (pos 2)) None None false ∷ [])
    ≡
    codes
    "soter trace 1\nstart pos 0\nstart p 4\n0 idle fast cmd!7\n0 idle fast cmd=2\nend 0 events 2 refused 1\n"
