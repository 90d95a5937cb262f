-- What contracts see of a flight.
use Rattle.std.specs.Prelude.{ℕ, ℤ, List, Option}
use Rattle.sot_flight.specs.declared.spread.Spread.{Spread}

-- an input: the time at which it comes, its topic, and a number for each scalar of the topic
pub record StatedInput : Type 0 where
  pub at : ℕ
  pub topic : ℕ
  pub value : List ℤ

-- what drives the disturbances of a plant: none, where it has none; the low or the high bound of
-- each; a list of disturbances for each tick, of which the last one stays; or words of a generator,
-- which stand for any number in the bounds or for held ends of them
pub data Sway : Type 0 where
  Still : Sway
  Low : Sway
  High : Sway
  Listed : (rows : List (List ℤ)) → Sway
  Drawn : (spread : Spread) (seed stream : ℕ) → Sway

-- who drafts for a node: its own code; a list of drafts for each firing, of which the last one
-- stays; words of a generator, which stand for any number of a range or for held ends; or the guest
-- of that number
pub data Crew : Type 0 where
  Coded : Crew
  Script : (drafts : List (List (Option ℤ))) → Crew
  Wild : (spread : Spread) (seed stream : ℕ) → Crew
  Guest : (index : ℕ) → Crew

-- a flight: how many ticks it has, where its plants start, its inputs in order, a sway for each
-- plant, a crew for each node, how many events it has, and how many numbers
pub record Plan : Type 0 where
  pub horizon : ℕ
  pub start : List (List ℤ)
  pub inputs : List StatedInput
  pub sways : List Sway
  pub crews : List Crew
  pub events : ℕ
  pub numbers : ℕ
