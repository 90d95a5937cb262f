-- What formulas see of a flight.
use Rattle.std.specs.Prelude.{ℤ, pos, List, [], map, slice_index_or}
use Rattle.sot_lang.specs.Tables.{Tables}
use Rattle.sot_world.specs.declared.mode.Mode.{Mode}
use Rattle.sot_world.specs.declared.mode.Mode.TheVariants.{Ac, Sc}
use Rattle.sot_world.specs.HistoryEntry.{Logged}
use Rattle.sot_formula.specs.declared.quantity.Quantity.{Quantity}
use Rattle.sot_formula.specs.declared.quantity.Quantity.TheVariants as quantities
use Rattle.sot_monitor.specs.Holding.{Moment}
use Rattle.sot_history_state.specs.Scenes.{Scene, opening, moments}

-- a mode as a number
abbrev pub mode_number : Mode → ℤ
mode_number Ac = pos 1
mode_number Sc = pos 0

-- the number of each quantity in a scene
abbrev pub number_in : Scene → Quantity → ℤ
number_in s (quantities.Scalar k) = slice_index_or s.scalars k (pos 0)
number_in s (quantities.State k v) = slice_index_or (slice_index_or s.points k []) v (pos 0)
number_in s (quantities.Mode m) = mode_number (slice_index_or s.modes m Sc)

-- the moments of a history from these points: before each tick, and the last one
abbrev pub moments_told : Tables → List (List ℤ) → List Logged → List Moment
moments_told p start entries = map number_in (moments p (opening p start) entries)
