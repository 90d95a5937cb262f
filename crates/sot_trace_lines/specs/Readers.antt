-- How whole lines are read, with the same readers.
use Rattle.std.specs.Prelude.{ℕ, ℤ, List, [], ◌∷◌, ◌++◌, Bool, true, false, ◌==◌, if◌then◌else◌}
use Rattle.std.specs.Prelude.{Option, Some, None, is_some, length, take, drop, slice_get, codes}
use Rattle.std.specs.List.{prefix_len, position, list_any}
use Rattle.std.specs.Option.{option_map_or}
use Rattle.std.specs.Str.{bytes_eq}
use Rattle.sot_text.specs.Lexeme.{is_in_word}
use Rattle.sot_lang.specs.declared.tables.TopicInfo.{TopicInfo}
use Rattle.sot_lang.specs.declared.tables.PlantInfo.{PlantInfo}
use Rattle.sot_lang.specs.declared.tables.NodeInfo.{NodeInfo}
use Rattle.sot_lang.specs.declared.tables.ModuleInfo.{ModuleInfo}
use Rattle.sot_lang.specs.Tables.{Tables}
use Rattle.sot_world.specs.declared.mode.Mode.{Mode}
use Rattle.sot_world.specs.declared.mode.Mode.TheVariants.{Ac, Sc}
use Rattle.sot_trace.specs.Names.{scalar_name}
use Rattle.sot_trace.specs.Lines.{writes_of}
use Rattle.sot_trace_lines.specs.Pieces.{◌>>=◌, behind, at_end, numeral_at, number_at, row_at}
use Rattle.sot_trace_lines.specs.Spelled.{Spelled, InputLine, FireLine, DecideLine, TickLine}
use Rattle.sot_trace_lines.specs.Spelled.{EndLine}

-- a word, which may be empty, and what stands behind it
abbrev pub word_at : List ℕ → List ℕ × List ℕ
word_at text = (take (prefix_len is_in_word text) text, drop (prefix_len is_in_word text) text)

-- the place of the first thing of this name
abbrev pub place_of : {A : Type 0} → (A → List ℕ) → List A → List ℕ → Option ℕ
place_of name things word = position (λ x. bytes_eq (name x) word) things

abbrev pub topic_named : Tables → List ℕ → Option ℕ
topic_named p word = place_of (λ (x : TopicInfo). x.name) p.topics word

abbrev pub node_named : Tables → List ℕ → Option ℕ
node_named p word = place_of (λ (x : NodeInfo). x.name) p.nodes word

abbrev pub module_named : Tables → List ℕ → Option ℕ
module_named p word = place_of (λ (x : ModuleInfo). x.name) p.modules word

-- a value for a topic, if it is an environment topic
abbrev pub numbers_for : ℕ → ℕ → TopicInfo → List ℕ → Option Spelled
numbers_for time topic info text =
    row_at info.count text >>= λ v. at_end (InputLine time topic v.0) v.1

abbrev pub value_at : ℕ → ℕ → TopicInfo → List ℕ → Option Spelled
value_at time topic info text =
    if info.outside then (behind (codes "=") text >>= numbers_for time topic info) else None

abbrev pub input_at : Tables → ℕ → List ℕ → Option Spelled
input_at p time text =
    place_of (λ (x : TopicInfo). x.name) p.topics (word_at text).0 >>= λ k.
    slice_get p.topics k >>= λ info. value_at time k info (word_at text).1

-- `=` or `!`
abbrev pub mark_at : List ℕ → Option (Bool × List ℕ)
mark_at [] = None
mark_at (b ∷ bs) = if b == 61 then Some (true, bs) else (if b == 33 then Some (false, bs) else None)

-- a blank, the scalar's name and its mark
abbrev pub slot_front : Tables → ℕ → List ℕ → Option (Bool × List ℕ)
slot_front p k text = behind (codes " ") text >>= λ r. behind (scalar_name p k) r >>= mark_at

abbrev pub marked : Bool → ℤ × List ℕ → Option (Option (Bool × ℤ) × List ℕ)
marked m c = Some (Some (m, c.0), c.1)

-- the number of a slot, if the slot is there
abbrev pub slot_number : List ℕ → Option (Bool × List ℕ) → Option (Option (Bool × ℤ) × List ℕ)
slot_number text None = Some (None, text)
slot_number text (Some front) = number_at front.1 >>= marked front.0

-- the slots of these scalars, each of which may be left out
abbrev pub slots_at : Tables → List ℕ → List ℕ → Option (List (Option (Bool × ℤ)) × List ℕ)
slots_at p [] text = Some ([], text)
slots_at p (k ∷ ks) text =
    slot_number text (slot_front p k text) >>= λ s. slots_at p ks s.1 >>= λ d. Some (s.0 ∷ d.0, d.1)

abbrev pub fire_at : Tables → Bool → ℕ → List ℕ → Option Spelled
fire_at p enabled time text =
    place_of (λ (x : NodeInfo). x.name) p.nodes (word_at text).0 >>= λ n.
    slots_at p (writes_of p n) (word_at text).1 >>= λ d. at_end (FireLine time n enabled d.0) d.1

-- the mode that ends the line
abbrev pub mode_of : List ℕ → Option Mode
mode_of text =
    if bytes_eq text (codes " ac") then Some Ac else
    (if bytes_eq text (codes " sc") then Some Sc else None)

abbrev pub decide_at : Tables → ℕ → List ℕ → Option Spelled
decide_at p time text =
    place_of (λ (x : ModuleInfo). x.name) p.modules (word_at text).0 >>= λ m.
    mode_of (word_at text).1 >>= λ mode. Some (DecideLine time m mode)

-- one plant: its states behind its disturbances, its disturbances, and its name in front
abbrev pub states_at : PlantInfo → List ℤ → List ℕ → Option (List ℤ × List ℤ × List ℕ)
states_at k noise text = row_at (length k.states.items) text >>= λ x. Some (noise, x.0, x.1)

abbrev pub noise_at : PlantInfo → List ℕ → Option (List ℤ × List ℤ × List ℕ)
noise_at k text =
    row_at (length k.noise.items) text >>= λ w. behind (codes ")=") w.1 >>= states_at k w.0

abbrev pub move_front : PlantInfo → List ℕ → Option (List ℕ)
move_front k text = behind (codes " ") text >>= λ a. behind k.name a >>= behind (codes "(")

abbrev pub move_at : PlantInfo → List ℕ → Option (List ℤ × List ℤ × List ℕ)
move_at k text = move_front k text >>= noise_at k

abbrev pub moves_at : List PlantInfo → List ℕ → Option (List ℤ × List ℤ × List ℕ)
moves_at [] text = Some ([], [], text)
moves_at (k ∷ ks) text =
    move_at k text >>= λ m. moves_at ks m.2 >>= λ n. Some (m.0 ++ n.0, m.1 ++ n.1, n.2)

abbrev pub tick_at : Tables → ℕ → List ℕ → Option Spelled
tick_at p time text = moves_at p.plants text >>= λ m. at_end (TickLine time m.0 m.1) m.2

-- the counts of the last line, from the last on
abbrev pub refused_at : ℕ → ℕ → List ℕ → Option Spelled
refused_at ticks events text = numeral_at text >>= λ n. at_end (EndLine ticks events n.0) n.1

abbrev pub events_at : ℕ → List ℕ → Option Spelled
events_at ticks text =
    numeral_at text >>= λ n. behind (codes " refused ") n.1 >>= refused_at ticks n.0

abbrev pub counts_at : List ℕ → Option Spelled
counts_at text = numeral_at text >>= λ n. behind (codes " events ") n.1 >>= events_at n.0

-- what stands behind the time, without those kinds of events that stand before in this list
abbrev pub event_behind_idle : Tables → ℕ → List ℕ → Option Spelled
event_behind_idle p time text =
    option_map_or (decide_at p time) (behind (codes " decide ") text)
    (option_map_or (tick_at p time) (behind (codes " tick") text) None)

abbrev pub event_behind_fire : Tables → ℕ → List ℕ → Option Spelled
event_behind_fire p time text =
    option_map_or (fire_at p false time) (behind (codes " idle ") text)
    (event_behind_idle p time text)

abbrev pub event_behind_input : Tables → ℕ → List ℕ → Option Spelled
event_behind_input p time text =
    option_map_or (fire_at p true time) (behind (codes " fire ") text)
    (event_behind_fire p time text)

-- what stands behind the time
abbrev pub event_at : Tables → ℕ → List ℕ → Option Spelled
event_at p time text =
    option_map_or (input_at p time) (behind (codes " input ") text) (event_behind_input p time text)

-- what a line spells
abbrev pub spelled_at : Tables → List ℕ → Option Spelled
spelled_at p line =
    option_map_or counts_at (behind (codes "end ") line)
    (numeral_at line >>= λ t. event_at p t.0 t.1)

-- a start line of this plant, behind its first word
abbrev pub point_at : PlantInfo → List ℕ → Option (List ℤ)
point_at plant text = row_at (length plant.states.items) text >>= λ x. at_end x.0 x.1

abbrev pub start_front : PlantInfo → List ℕ → Option (List ℕ)
start_front plant text = behind plant.name text >>= behind (codes " ")

abbrev pub start_at : PlantInfo → List ℕ → Option (List ℤ)
start_at plant text = start_front plant text >>= point_at plant

-- whether a line is a start line of some plant
abbrev pub starts_some : Tables → List ℕ → Bool
starts_some p line =
    option_map_or (λ text. list_any (λ plant. is_some (start_at plant text)) p.plants)
    (behind (codes "start ") line) false
