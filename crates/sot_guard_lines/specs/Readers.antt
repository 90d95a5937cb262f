-- How whole lines of a robot are read, with the readers of lines of a trace.
use Rattle.std.specs.Prelude.{ℕ, ℤ, List, [], ◌∷◌, ◌++◌, true, Option, Some, None, length}
use Rattle.std.specs.Prelude.{slice_get, codes}
use Rattle.std.specs.Option.{option_map_or}
use Rattle.sot_lang.specs.declared.tables.PlantInfo.{PlantInfo}
use Rattle.sot_lang.specs.Tables.{Tables}
use Rattle.sot_trace_lines.specs.Spelled.{Spelled, InputLine, FireLine, DecideLine, TickLine}
use Rattle.sot_trace_lines.specs.Spelled.{EndLine}
use Rattle.sot_trace_lines.specs.Pieces.{◌>>=◌, behind, at_end, row_at}
use Rattle.sot_trace_lines.specs.Readers.{word_at, place_of, input_at, fire_at, move_front}
use Rattle.sot_guard_lines.specs.declared.said.Said.{Said}
use Rattle.sot_guard_lines.specs.Sayings.{Saying, StartSaid, InputSaid, DraftSaid, GoSaid, TickSaid}
use Rattle.sot_guard_lines.specs.Sayings.{ResumeSaid}
use Rattle.sot_guard_lines.specs.Shown.{ShowsSaid}

-- an input, as a trace tells it
abbrev pub said_input : Spelled → Option Saying
said_input (InputLine time topic value) = Some (InputSaid topic value)
said_input (FireLine time node enabled slots) = None
said_input (DecideLine time decider mode) = None
said_input (TickLine time noise states) = None
said_input (EndLine ticks events refused) = None

-- a draft, as a trace tells that of a firing
abbrev pub said_draft : Spelled → Option Saying
said_draft (InputLine time topic value) = None
said_draft (FireLine time node enabled slots) = Some (DraftSaid node slots)
said_draft (DecideLine time decider mode) = None
said_draft (TickLine time noise states) = None
said_draft (EndLine ticks events refused) = None

abbrev pub input_said_at : Tables → List ℕ → Option Saying
input_said_at p text = input_at p 0 text >>= said_input

abbrev pub draft_said_at : Tables → List ℕ → Option Saying
draft_said_at p text = fire_at p true 0 text >>= said_draft

-- the numbers of a row, and what stands behind the `)` behind them
abbrev pub closed_at : List ℤ × List ℕ → Option (List ℤ × List ℕ)
closed_at row = behind (codes ")") row.1 >>= λ rest. Some (row.0, rest)

-- the coordinates of a plant, and what stands behind
abbrev pub point_at : PlantInfo → List ℕ → Option (List ℤ × List ℕ)
point_at plant text = row_at (length plant.states.items) text >>= closed_at

-- a plant in its place
abbrev pub place_at : PlantInfo → List ℕ → Option (List ℤ × List ℕ)
place_at plant text = move_front plant text >>= point_at plant

-- all plants, one after another
abbrev pub places_at : List PlantInfo → List ℕ → Option (List ℤ × List ℕ)
places_at [] text = Some ([], text)
places_at (k ∷ ks) text =
    place_at k text >>= λ m. places_at ks m.1 >>= λ n. Some (m.0 ++ n.0, n.1)

abbrev pub plant_named : Tables → List ℕ → Option ℕ
plant_named p word = place_of (λ (x : PlantInfo). x.name) p.plants word

-- the first state of the plant in place k
abbrev pub start_of : ℕ → PlantInfo → List ℕ → Option Saying
start_of k plant text = point_at plant text >>= λ x. at_end (StartSaid k x.0) x.1

abbrev pub start_said_at : Tables → List ℕ → Option Saying
start_said_at p text =
    place_of (λ (x : PlantInfo). x.name) p.plants (word_at text).0 >>= λ k.
    slice_get p.plants k >>= λ plant. behind (codes "(") (word_at text).1 >>= start_of k plant

abbrev pub tick_said_at : Tables → List ℕ → Option Saying
tick_said_at p text = places_at p.plants text >>= λ m. at_end (TickSaid m.0) m.1

abbrev pub go_said_at : List ℕ → Option Saying
go_said_at text = at_end GoSaid text

abbrev pub resume_said_at : List ℕ → Option Saying
resume_said_at text = at_end ResumeSaid text

-- what a line says, without those kinds of lines that stand before in this list
abbrev pub behind_go : Tables → List ℕ → Option Saying
behind_go p line =
    option_map_or resume_said_at (behind (codes "resume") line)
    (option_map_or (start_said_at p) (behind (codes "start ") line) None)

abbrev pub behind_draft : Tables → List ℕ → Option Saying
behind_draft p line = option_map_or go_said_at (behind (codes "go") line) (behind_go p line)

abbrev pub behind_input : Tables → List ℕ → Option Saying
behind_input p line =
    option_map_or (draft_said_at p) (behind (codes "draft ") line) (behind_draft p line)

abbrev pub behind_tick : Tables → List ℕ → Option Saying
behind_tick p line =
    option_map_or (input_said_at p) (behind (codes "input ") line) (behind_input p line)

-- what a line says
abbrev pub said_at : Tables → List ℕ → Option Saying
said_at p line = option_map_or (tick_said_at p) (behind (codes "tick") line) (behind_tick p line)

-- what is looked at of what was read, if anything was
abbrev pub ShowsReadSaid : List ℤ → Option Said → Option Saying → Type 0
ShowsReadSaid list (Some l) (Some s) = ShowsSaid l list s
ShowsReadSaid list None None = Unit {0}
ShowsReadSaid list (Some l) None = ⊥
ShowsReadSaid list None (Some s) = ⊥
