-- The entries of a history, as contracts see them.
use Rattle.std.specs.Prelude.{ℕ, ◌+◌, length}
use Rattle.sot_world.specs.declared.history.Entry.{Entry}
use Rattle.sot_world.specs.declared.history.Entry.TheVariants.{Input, Fire, Decide, Tick}
use Rattle.sot_world.specs.HistoryEntry.{Logged, InputAt, FireAt, DecideAt, TickAt}

-- an entry that is handed in or out
abbrev pub entry_of : Entry → Logged
entry_of (Input time topic value) = InputAt time topic value.now
entry_of (Fire time node draft enabled) = FireAt time node draft enabled
entry_of (Decide time m mode) = DecideAt time m mode
entry_of (Tick time noise states) = TickAt time noise.now states.now

-- how many numbers an entry's slices hold
abbrev pub numbers_in : Logged → ℕ
numbers_in (InputAt time topic value) = length value
numbers_in (FireAt time node draft enabled) = 0
numbers_in (DecideAt time m mode) = 0
numbers_in (TickAt time noise states) = length noise + length states
