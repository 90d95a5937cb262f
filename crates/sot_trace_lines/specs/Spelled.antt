-- What the lines of a trace spell, whether they are true of a flight or not.
use Rattle.std.specs.Prelude.{ℕ, ◌<◌, ◌≡◌, ℤ, Bool, true, List, [], ◌∷◌, ◌++◌, Option, Some, None}
use Rattle.std.specs.Prelude.{length, codes}
use Rattle.sot_lists.specs.Places.{At}
use Rattle.sot_lang.specs.declared.tables.TopicInfo.{TopicInfo}
use Rattle.sot_lang.specs.declared.tables.PlantInfo.{PlantInfo}
use Rattle.sot_lang.specs.Tables.{Tables}
use Rattle.sot_world.specs.declared.mode.Mode.{Mode}
use Rattle.sot_world.specs.Events.{noise_count}
use Rattle.sot_board.specs.Counts.{state_count}
use Rattle.sot_lang.specs.Names.{topic_name, node_name, module_name}
use Rattle.sot_trace.specs.Names.{scalar_name}
use Rattle.sot_trace.specs.Numbers.{numeral, signed_numeral, numbers}
use Rattle.sot_trace.specs.Drafts.{mark}
use Rattle.sot_trace.specs.Moves.{moves_text}
use Rattle.sot_trace.specs.Lines.{writes_of, firing_word, mode_word, start_line, end_line}

-- what a line behind the start lines spells: an input; a firing, or an idle one, with nothing or a
-- mark and a number for each scalar that the node writes; a decision; a tick; or the end. Numbers
-- have any size
pub data Spelled : Type 0 where
  InputLine : (time topic : ℕ) (value : List ℤ) → Spelled
  FireLine : (time node : ℕ) (enabled : Bool) (slots : List (Option (Bool × ℤ))) → Spelled
  DecideLine : (time decider : ℕ) (mode : Mode) → Spelled
  TickLine : (time : ℕ) (noise states : List ℤ) → Spelled
  EndLine : (ticks events refused : ℕ) → Spelled

-- the time that a line begins with; the end tells the count of ticks
abbrev pub spelled_time : Spelled → ℕ
spelled_time (InputLine time topic value) = time
spelled_time (FireLine time node enabled slots) = time
spelled_time (DecideLine time decider mode) = time
spelled_time (TickLine time noise states) = time
spelled_time (EndLine ticks events refused) = ticks

-- ` NAME=V` or ` NAME!V`, with the mark as it stands, be the number in its range or not
abbrev pub marked_text : Tables → ℕ → Option (Bool × ℤ) → List ℕ
marked_text p k None = []
marked_text p k (Some slot) =
    codes " " ++ (scalar_name p k ++ (mark slot.0 ++ signed_numeral slot.1))

-- the marked numbers of a node's scalars, in order
abbrev pub marks_text : Tables → List ℕ → List (Option (Bool × ℤ)) → List ℕ
marks_text p [] slots = []
marks_text p (k ∷ ks) [] = []
marks_text p (k ∷ ks) (slot ∷ slots) = marked_text p k slot ++ marks_text p ks slots

-- the line without its line end
abbrev pub spelled_text : Tables → Spelled → List ℕ
spelled_text p (InputLine time topic value) =
    numeral time ++ (codes " input " ++ (topic_name p topic ++ (codes "=" ++ numbers value)))
spelled_text p (FireLine time node enabled slots) =
    numeral time ++ (firing_word enabled
    ++ (node_name p node ++ marks_text p (writes_of p node) slots))
spelled_text p (DecideLine time decider mode) =
    numeral time ++ (codes " decide " ++ (module_name p decider ++ mode_word mode))
spelled_text p (TickLine time noise states) =
    numeral time ++ (codes " tick" ++ moves_text p.plants noise states)
spelled_text p (EndLine ticks events refused) = end_line ticks events refused

-- a line names what is there and of the right sort, and has as many numbers as this has
abbrev pub Fits : Tables → Spelled → Type 0
Fits p (InputLine time topic value) =
    (info : TopicInfo) × At p.topics topic info × (info.outside ≡ true)
    × (length value ≡ info.count)
Fits p (FireLine time node enabled slots) =
    (node < length p.nodes) × (length slots ≡ length (writes_of p node))
Fits p (DecideLine time decider mode) = decider < length p.modules
Fits p (TickLine time noise states) =
    (length noise ≡ noise_count p.plants) × (length states ≡ state_count p.plants)
Fits p (EndLine ticks events refused) = Unit {0}

-- a line spells this
abbrev pub IsSpelled : Tables → List ℕ → Spelled → Type 0
IsSpelled p line s = Fits p s × (line ≡ spelled_text p s)

-- a line is spelled as a start line: of a plant that is there, with a number for each of its state
-- variables
abbrev pub IsStartLine : Tables → List ℕ → Type 0
IsStartLine p line =
    (k : ℕ) × (plant : PlantInfo) × (point : List ℤ) × At p.plants k plant
    × (length point ≡ length plant.states.items) × (line ≡ start_line plant point)
