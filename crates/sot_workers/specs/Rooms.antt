-- The memory that a flight takes.
use Rattle.std.specs.Prelude.{ℕ, ◌≤◌, ◌≡◌, [], vec_capacity}
use Rattle.sot_workers.specs.declared.room.Room.{Room}
use Rattle.sot_workers.specs.Lists.{AreEmpty}

-- an empty list for each of so many nodes, and room for so many guests while they are out
pub record HasRoom {C : Type 0} (nodes guests : ℕ) (room : Room C) : Type 0 where
  pub lists : AreEmpty nodes room.lists.items
  pub no_stations : room.stations.items ≡ []
  pub stations : nodes ≤ vec_capacity room.stations
  pub no_away : room.away.items ≡ []
  pub away : nodes ≤ vec_capacity room.away
  pub no_relieved : room.relieved.items ≡ []
  pub relieved : nodes ≤ vec_capacity room.relieved
  pub no_places : room.places.items ≡ []
  pub places : guests ≤ vec_capacity room.places
  pub no_dones : room.dones.items ≡ []
  pub dones : guests ≤ vec_capacity room.dones
