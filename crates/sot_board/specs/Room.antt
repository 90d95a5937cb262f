-- How many events and numbers of a flight are still to come.
use Rattle.std.specs.Prelude.{ℕ, zero, suc, ◌+◌, ◌*◌, ◌≤◌, ◌≡◌, Bool, true, false, List, [], ◌∷◌}
use Rattle.std.specs.Prelude.{length, map}
use Rattle.sot_lang.specs.Tables.{Tables}
use Rattle.sot_flight.specs.Counts.{due_once, tick_numbers, input_numbers}
use Rattle.sot_board.specs.Flown.{Position}

-- how often it is due in the k ticks after t
abbrev pub due_after : ℕ → ℕ → ℕ → ℕ → ℕ
due_after period offset t zero = 0
due_after period offset t (suc k) =
    due_once period offset (suc t) + due_after period offset (suc t) k

abbrev pub one_if : Bool → ℕ
one_if true = 1
one_if false = 0

-- of things with these periods and offsets, how many are left at t, and how often they are due in
-- the k ticks after it
abbrev pub to_come : ℕ → ℕ → List (ℕ × ℕ) → List Bool → ℕ
to_come t k [] left = 0
to_come t k (x ∷ xs) [] = due_after x.0 x.1 t k + to_come t k xs []
to_come t k (x ∷ xs) (b ∷ left) = (one_if b + due_after x.0 x.1 t k) + to_come t k xs left

-- the periods and offsets of the nodes and of the modules
abbrev pub node_times : Tables → List (ℕ × ℕ)
node_times p = map (λ n. (n.period, n.offset)) p.nodes

abbrev pub module_times : Tables → List (ℕ × ℕ)
module_times p = map (λ m. (m.period, m.offset)) p.modules

-- how many events come at most, with k ticks to the horizon: firings, decisions, inputs and ticks
abbrev pub events_to_come : Tables → ℕ → Position → ℕ
events_to_come p k P =
    to_come P.at.time k (node_times p) P.at.left + to_come P.at.time k (module_times p) P.at.left_dm
    + length P.inputs + k

-- how many numbers of inputs and of ticks these have
abbrev pub numbers_to_come : Tables → ℕ → Position → ℕ
numbers_to_come p k P = k * tick_numbers p.plants + input_numbers P.inputs

-- there is room for so many entries, with so many numbers, as are still to come up to the horizon
pub record HasRoom (p : Tables) (horizon : ℕ) (P : Position) (entries numbers : ℕ) : Type 0 where
  pub ticks : ℕ
  pub horizon_is : P.at.time + ticks ≡ horizon
  pub events : events_to_come p ticks P ≤ entries
  pub all_numbers : numbers_to_come p ticks P ≤ numbers
