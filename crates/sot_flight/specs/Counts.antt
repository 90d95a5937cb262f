-- How many events and numbers a flight has, counted from the calendar.
use Rattle.std.specs.Prelude.{ℕ, zero, suc, ◌+◌, ◌*◌, ◌-◌, ◌%◌, ◌==◌, nat_le, ◌&&◌, if◌then◌else◌}
use Rattle.std.specs.Prelude.{List, [], ◌∷◌, length}
use Rattle.sot_lang.specs.declared.tables.PlantInfo.{PlantInfo}
use Rattle.sot_lang.specs.declared.tables.NodeInfo.{NodeInfo}
use Rattle.sot_lang.specs.declared.tables.ModuleInfo.{ModuleInfo}
use Rattle.sot_lang.specs.Tables.{Tables}
use Rattle.sot_flight.specs.Plans.{StatedInput, Plan}

-- 1 where it is due at t, and else 0
abbrev pub due_once : ℕ → ℕ → ℕ → ℕ
due_once period offset t = if nat_le offset t && ((t - offset) % period == 0) then 1 else 0

-- how often it is due from 0 up to and including the horizon
abbrev pub due_count : ℕ → ℕ → ℕ → ℕ
due_count period offset zero = due_once period offset zero
due_count period offset (suc h) = due_count period offset h + due_once period offset (suc h)

-- the firings of these nodes, the decisions of these modules
abbrev pub firing_count : ℕ → List NodeInfo → ℕ
firing_count h [] = 0
firing_count h (n ∷ ns) = due_count n.period n.offset h + firing_count h ns

abbrev pub decision_count : ℕ → List ModuleInfo → ℕ
decision_count h [] = 0
decision_count h (m ∷ ms) = due_count m.period m.offset h + decision_count h ms

-- the events up to and including a horizon: the firings, decisions and inputs, and the ticks
abbrev pub events_of : Tables → ℕ → List StatedInput → ℕ
events_of p h inputs = firing_count h p.nodes + decision_count h p.modules + length inputs + h

-- the events of a flight
abbrev pub event_count : Tables → Plan → ℕ
event_count p f = events_of p f.horizon f.inputs

-- the numbers of a tick: each plant's disturbances and state variables
abbrev pub tick_numbers : List PlantInfo → ℕ
tick_numbers [] = 0
tick_numbers (k ∷ ks) = length k.noise.items + length k.states.items + tick_numbers ks

-- the numbers of the firings: for each one a number a scalar that the node writes
abbrev pub draft_numbers : ℕ → List NodeInfo → ℕ
draft_numbers h [] = 0
draft_numbers h (n ∷ ns) =
    due_count n.period n.offset h * length n.writes.items + draft_numbers h ns

abbrev pub input_numbers : List StatedInput → ℕ
input_numbers [] = 0
input_numbers (x ∷ xs) = length x.value + input_numbers xs

-- the numbers up to and including a horizon: those of its ticks, of its firings and of its inputs
abbrev pub numbers_of : Tables → ℕ → List StatedInput → ℕ
numbers_of p h inputs = h * tick_numbers p.plants + draft_numbers h p.nodes + input_numbers inputs

-- the numbers of a flight
abbrev pub number_count : Tables → Plan → ℕ
number_count p f = numbers_of p f.horizon f.inputs
