-- The lines of a trace, each without its line end.
use Rattle.std.specs.Prelude.{ℕ, ℤ, Bool, true, false, List, [], ◌∷◌, ◌++◌, slice_get, codes}
use Rattle.std.specs.Option.{option_map_or}
use Rattle.sot_lang.specs.declared.tables.PlantInfo.{PlantInfo}
use Rattle.sot_lang.specs.Tables.{Tables}
use Rattle.sot_world.specs.declared.mode.Mode.{Mode}
use Rattle.sot_world.specs.declared.mode.Mode.TheVariants.{Ac, Sc}
use Rattle.sot_world.specs.HistoryEntry.{Logged, InputAt, FireAt, DecideAt, TickAt}
use Rattle.sot_lang.specs.Names.{topic_name, node_name, module_name}
use Rattle.sot_trace.specs.Numbers.{numeral, numbers}
use Rattle.sot_trace.specs.Drafts.{draft_text, draft_refused}
use Rattle.sot_trace.specs.Moves.{moves_text}

-- the scalars that a node writes, in order
abbrev pub writes_of : Tables → ℕ → List ℕ
writes_of p n = option_map_or (λ x. x.writes.items) (slice_get p.nodes n) []

-- whether the node that fires is enabled
abbrev pub firing_word : Bool → List ℕ
firing_word true = codes " fire "
firing_word false = codes " idle "

-- the mode after a decision
abbrev pub mode_word : Mode → List ℕ
mode_word Ac = codes " ac"
mode_word Sc = codes " sc"

-- `T input TOPIC=V,..`, `T fire NODE WRITES`, `T idle NODE WRITES`, `T decide MODULE MODE` and `T
-- tick PLANT(W,..)=X,..`
abbrev pub line_of : Tables → Logged → List ℕ
line_of p (InputAt time topic value) =
    numeral time ++ (codes " input " ++ (topic_name p topic ++ (codes "=" ++ numbers value)))
line_of p (FireAt time node draft enabled) =
    numeral time ++ (firing_word enabled
    ++ (node_name p node ++ draft_text p (writes_of p node) draft))
line_of p (DecideAt time decider mode) =
    numeral time ++ (codes " decide " ++ (module_name p decider ++ mode_word mode))
line_of p (TickAt time noise states) =
    numeral time ++ (codes " tick" ++ moves_text p.plants noise states)

-- the first line
abbrev pub header : List ℕ
header = codes "soter trace 1"

-- `start PLANT X,..`
abbrev pub start_line : PlantInfo → List ℤ → List ℕ
start_line plant point = codes "start " ++ (plant.name ++ (codes " " ++ numbers point))

-- a line for each plant, with its point
abbrev pub start_lines : List PlantInfo → List (List ℤ) → List (List ℕ)
start_lines [] points = []
start_lines (k ∷ ks) [] = []
start_lines (k ∷ ks) (x ∷ xs) = start_line k x ∷ start_lines ks xs

-- `end H events E refused R`
abbrev pub end_line : ℕ → ℕ → ℕ → List ℕ
end_line ticks events refused =
    codes "end " ++ (numeral ticks ++ (codes " events "
    ++ (numeral events ++ (codes " refused " ++ numeral refused))))

-- 1 for a tick
abbrev pub ticks_in : Logged → ℕ
ticks_in (InputAt time topic value) = 0
ticks_in (FireAt time node draft enabled) = 0
ticks_in (DecideAt time decider mode) = 0
ticks_in (TickAt time noise states) = 1

-- how many numbers of a firing are outside their scalars' ranges: how often its line has a `!`
abbrev pub refused_in : Tables → Logged → ℕ
refused_in p (InputAt time topic value) = 0
refused_in p (FireAt time node draft enabled) = draft_refused p (writes_of p node) draft
refused_in p (DecideAt time decider mode) = 0
refused_in p (TickAt time noise states) = 0
