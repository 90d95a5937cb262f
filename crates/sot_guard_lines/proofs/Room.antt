-- The room that the numbers of a line take.
use Rattle.std.proofs.Common.{ℕ, ◌+◌, ◌≤◌, ◌<◌, ◌≡◌, List, ◌∷◌, length, drop, ap, arith}
use Rattle.std.specs.Prelude.{ℤ, vec_len, vec_capacity}
use Rattle.std.specs.Global.{Vec}
use Rattle.std.proofs.lemmas.Option.{slice_get_within}
use Rattle.sot_lists.specs.Places.{At}
use Rattle.sot_lang.specs.declared.tables.PlantInfo.{PlantInfo}
use Rattle.sot_lang.specs.Tables.{Tables}
use Rattle.sot_lang.specs.TableRules.{MeetsTableRules}
use Rattle.sot_board.specs.Counts.{state_count}
use Rattle.sot_trace.proofs.StateCounts.{few_states}
use Rattle.sot_trace_lines.specs.Room.{TakesRoom}
use Rattle.sot_guard_lines.specs.Room.{said_room, HasRoom}

-- the states of all plants have room among the numbers of any line
pub states_fit : (p : Tables) → MeetsTableRules p → state_count p.plants ≤ said_room p
states_fit p rules = (let few = few_states p rules in omega (arith, few))

-- .. and so have those of one
pub point_fits : (p : Tables) (k : ℕ) (plant : PlantInfo) → MeetsTableRules p → At p.plants k plant → length plant.states.items ≤ said_room p
point_fits p k plant rules at =
    let few = (rules.plants k plant at).states in
    let within : k < length p.plants = slice_get_within p.plants k plant at in
    omega (arith, few, within)

pub roomier : (few many : ℕ) (list : Vec ℤ) → few ≤ many → HasRoom many list → HasRoom few list
roomier few many list le room = omega (arith, le, room)

-- plants are read one by one, from the i-th one on
module _
    (ks : List PlantInfo) (i : ℕ) (k : PlantInfo) (first old new : Vec ℤ) (at : drop i ks ≡ k ∷ drop (i + 1) ks)
    (len : vec_len old + state_count (drop i ks) ≤ vec_len first + state_count ks)
    (capacity : vec_capacity first ≤ vec_capacity old)
  where
    count_is : state_count (drop i ks) ≡ length k.states.items + state_count (drop (i + 1) ks)
    count_is = ap state_count at

    -- there is room for the next one
    pub has_next : HasRoom (state_count ks) first → HasRoom (length k.states.items) old
    has_next room = omega (arith, room, len, capacity, count_is)

    -- .. and behind it for those that are left
    pub left_over : TakesRoom (length k.states.items) old new → vec_len new + state_count (drop (i + 1) ks) ≤ vec_len first + state_count ks
    left_over takes = omega (arith, takes.len, len, count_is)
