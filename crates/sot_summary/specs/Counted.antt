-- What is counted of each entry of a history.
use Rattle.std.specs.Prelude.{ℕ, ℤ, pos, ◌+ℤ◌, if◌then◌else◌, List, [], ◌∷◌}
use Rattle.sot_lang.specs.Tables.{Tables}
use Rattle.sot_world.specs.HistoryEntry.{Logged, InputAt, FireAt, DecideAt, TickAt}
use Rattle.sot_summary.specs.Outside.{is_outside}

-- 1 for a firing of a node, enabled or not, and for a decision of a module
abbrev pub firings_in : Logged → ℕ
firings_in (InputAt time topic value) = 0
firings_in (FireAt time node draft enabled) = 1
firings_in (DecideAt time decider mode) = 1
firings_in (TickAt time noise states) = 0

-- 1 for a tick after which some plant is outside its safe region, however many are
abbrev pub outside_in : Tables → Logged → ℕ
outside_in p (InputAt time topic value) = 0
outside_in p (FireAt time node draft enabled) = 0
outside_in p (DecideAt time decider mode) = 0
outside_in p (TickAt time noise states) = if is_outside p states then 1 else 0

-- the sum of numbers
abbrev pub total : List ℤ → ℤ
total [] = pos 0
total (x ∷ xs) = x +ℤ total xs

-- the sum of the states of all plants after a tick
abbrev pub states_in : Logged → ℤ
states_in (InputAt time topic value) = pos 0
states_in (FireAt time node draft enabled) = pos 0
states_in (DecideAt time decider mode) = pos 0
states_in (TickAt time noise states) = total states

-- that of all ticks
abbrev pub states_sum : List Logged → ℤ
states_sum [] = pos 0
states_sum (e ∷ es) = states_in e +ℤ states_sum es
