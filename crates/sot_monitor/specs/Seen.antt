-- Which moment comes with an entry.
use Rattle.std.specs.Prelude.{List, [], ◌∷◌}
use Rattle.sot_world.specs.HistoryEntry.{Logged, InputAt, FireAt, DecideAt, TickAt}
use Rattle.sot_monitor.specs.Holding.{Moment}
use Rattle.sot_history_state.specs.Scenes.{Scene}
use Rattle.sot_monitor.specs.Moments.{number_in}

-- before a tick what is there, and before the others nothing
abbrev pub seen_before : Scene → Logged → List Moment
seen_before s (TickAt time noise states) = number_in s ∷ []
seen_before s (InputAt time topic value) = []
seen_before s (FireAt time n draft enabled) = []
seen_before s (DecideAt time m mode) = []
