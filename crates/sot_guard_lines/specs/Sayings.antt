-- What the lines of a robot say: where its plants were observed, what came from outside, what its
-- own controllers draft, that an instant is over, and that the models are to be trusted again.
use Rattle.std.specs.Prelude.{ℕ, ◌<◌, ◌≡◌, ℤ, Bool, true, List, [], ◌∷◌, ◌++◌, Option}
use Rattle.std.specs.Prelude.{length, codes, take, drop, slice_get}
use Rattle.std.specs.Option.{option_map_or}
use Rattle.sot_lists.specs.Places.{At}
use Rattle.sot_lang.specs.declared.tables.TopicInfo.{TopicInfo}
use Rattle.sot_lang.specs.declared.tables.PlantInfo.{PlantInfo}
use Rattle.sot_lang.specs.Tables.{Tables}
use Rattle.sot_lang.specs.Names.{topic_name, node_name}
use Rattle.sot_board.specs.Counts.{state_count}
use Rattle.sot_trace.specs.Lines.{writes_of}
use Rattle.sot_trace.specs.Numbers.{numbers}
use Rattle.sot_trace_lines.specs.Spelled.{marks_text}

-- the first state of a plant; a value that came on an environment topic; what an external node
-- drafts, with a mark and a number or nothing for each scalar that it writes; that this was all of
-- an instant; that the models are to be trusted again; the states of all plants after a tick.
-- Numbers have any size
pub data Saying : Type 0 where
  StartSaid : (plant : ℕ) (point : List ℤ) → Saying
  InputSaid : (topic : ℕ) (value : List ℤ) → Saying
  DraftSaid : (node : ℕ) (slots : List (Option (Bool × ℤ))) → Saying
  GoSaid : Saying
  ResumeSaid : Saying
  TickSaid : (states : List ℤ) → Saying

-- `PLANT(X,..)`, behind a blank
abbrev pub place_text : PlantInfo → List ℤ → List ℕ
place_text plant point = codes " " ++ (plant.name ++ (codes "(" ++ (numbers point ++ codes ")")))

-- one plant after another, each with its part of the states
abbrev pub places_text : List PlantInfo → List ℤ → List ℕ
places_text [] states = []
places_text (k ∷ ks) states =
    place_text k (take (length k.states.items) states)
    ++ places_text ks (drop (length k.states.items) states)

-- the line without its line end
abbrev pub said_text : Tables → Saying → List ℕ
said_text p (StartSaid plant point) =
    codes "start" ++ option_map_or (λ k. place_text k point) (slice_get p.plants plant) []
said_text p (InputSaid topic value) =
    codes "input " ++ (topic_name p topic ++ (codes "=" ++ numbers value))
said_text p (DraftSaid node slots) =
    codes "draft " ++ (node_name p node ++ marks_text p (writes_of p node) slots)
said_text p GoSaid = codes "go"
said_text p ResumeSaid = codes "resume"
said_text p (TickSaid states) = codes "tick" ++ places_text p.plants states

-- a line names what is there and of the right sort, and has as many numbers as this has
abbrev pub FitsSaying : Tables → Saying → Type 0
FitsSaying p (StartSaid plant point) =
    (k : PlantInfo) × At p.plants plant k × (length point ≡ length k.states.items)
FitsSaying p (InputSaid topic value) =
    (info : TopicInfo) × At p.topics topic info × (info.outside ≡ true)
    × (length value ≡ info.count)
FitsSaying p (DraftSaid node slots) =
    (node < length p.nodes) × (length slots ≡ length (writes_of p node))
FitsSaying p GoSaid = Unit {0}
FitsSaying p ResumeSaid = Unit {0}
FitsSaying p (TickSaid states) = length states ≡ state_count p.plants

-- a line says this
abbrev pub IsSaid : Tables → List ℕ → Saying → Type 0
IsSaid p line s = FitsSaying p s × (line ≡ said_text p s)
