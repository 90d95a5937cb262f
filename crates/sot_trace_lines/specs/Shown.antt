-- What is looked at of a line of a trace: numbers of at most 64 bits, and of larger ones that they
-- are larger.
use Rattle.std.specs.Prelude.{ℕ, ◌<◌, ◌≡◌, ℤ, pos, Bool, true, false, List, map, length, Option}
use Rattle.std.specs.Prelude.{Some, None}
use Rattle.std.specs.Option.{option_map}
use Rattle.sot_lists.specs.Places.{Has}
use Rattle.sot_code.specs.Recorded.{in_slots}
use Rattle.sot_trace_lines.specs.Bits.{Has64Bits}
use Rattle.sot_lang.specs.Tables.{Tables}
use Rattle.sot_trace_lines.specs.Spelled.{Spelled, IsSpelled, InputLine, FireLine, DecideLine}
use Rattle.sot_trace_lines.specs.Spelled.{TickLine, EndLine}
use Rattle.sot_trace_lines.specs.declared.line.Line.{Line}
use Rattle.sot_trace_lines.specs.declared.line.Line.TheVariants.{Input, Fire, Decide, Tick, End}
use Rattle.sot_trace_lines.specs.declared.line.LineFront.{LineFront}
use Rattle.sot_trace_lines.specs.declared.line.LineFront.TheVariants as fronts

-- the number, or nothing where it has more than 64 bits
abbrev pub Reads : Option ℤ → ℤ → Type 0
Reads (Some v) z = v ≡ z
Reads None z = Has64Bits z → ⊥

-- the list holds these numbers, or one of them has more than 64 bits
abbrev pub Holds : Bool → List ℤ → List ℤ → Type 0
Holds true list zs = list ≡ zs
Holds false list zs = (z : ℤ) × Has zs z × (Has64Bits z → ⊥)

-- the draft without the marks, in eight slots, or some number of it has more than 64 bits
abbrev pub ShowsDraft : Option (List (Option ℤ)) → List (Option (Bool × ℤ)) → Type 0
ShowsDraft (Some draft) slots = draft ≡ in_slots (map (option_map (λ slot. slot.1)) slots)
ShowsDraft None slots = (slot : Bool × ℤ) × Has slots (Some slot) × (Has64Bits slot.1 → ⊥)

-- what is looked at of a line that spells s; a value and the disturbances of a tick stand in the
-- list
abbrev pub Shows : Line → List ℤ → Spelled → Type 0
Shows (Input time topic whole) list s =
    (t : ℕ) × (value : List ℤ) × (s ≡ InputLine t topic value) × Reads time (pos t)
    × Holds whole list value
Shows (Fire time node draft) list s =
    (t : ℕ) × (enabled : Bool) × (slots : List (Option (Bool × ℤ)))
    × (s ≡ FireLine t node enabled slots) × Reads time (pos t) × ShowsDraft draft slots
Shows (Decide time decider) list s =
    (t : ℕ) × (mode : _) × (s ≡ DecideLine t decider mode) × Reads time (pos t)
Shows (Tick time whole) list s =
    (t : ℕ) × (noise : List ℤ) × (states : List ℤ) × (s ≡ TickLine t noise states)
    × Reads time (pos t) × Holds whole list noise
Shows (End ticks) list s =
    (h : ℕ) × (events : ℕ) × (refused : ℕ) × (s ≡ EndLine h events refused) × Reads ticks (pos h)

-- the answer for a line: what is looked at of what it spells; or it spells nothing
abbrev pub AnswersLine : Tables → List ℕ → List ℤ → Option Line → Type 0
AnswersLine p line list (Some l) = (s : Spelled) × IsSpelled p line s × Shows l list s
AnswersLine p line list None = (s : Spelled) → IsSpelled p line s → ⊥

-- a firing of this node at this time
abbrev pub BeginsFiring : Option ℤ → ℕ → Spelled → Type 0
BeginsFiring time node s =
    (t : ℕ) × (enabled : Bool) × (slots : List (Option (Bool × ℤ)))
    × (s ≡ FireLine t node enabled slots) × Reads time (pos t)

-- a tick at this time
abbrev pub BeginsTick : Option ℤ → Spelled → Type 0
BeginsTick time s =
    (t : ℕ) × (noise : List ℤ) × (states : List ℤ) × (s ≡ TickLine t noise states)
    × Reads time (pos t)

-- the answer for the front of a line: what it spells can only be such a firing or such a tick; or
-- what is looked at of the whole line
abbrev pub AnswersFront : Tables → List ℕ → List ℤ → Option LineFront → Type 0
AnswersFront p line list None = AnswersLine p line list None
AnswersFront p line list (Some (fronts.Firing time node)) =
    (node < length p.nodes) × ((s : Spelled) → IsSpelled p line s → BeginsFiring time node s)
AnswersFront p line list (Some (fronts.Tick time)) =
    (s : Spelled) → IsSpelled p line s → BeginsTick time s
AnswersFront p line list (Some (fronts.Whole l)) = AnswersLine p line list (Some l)
