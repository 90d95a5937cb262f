-- what contracts see of a flight
pub mod Plans
-- what it states for a tick and for a firing, by their numbers
pub mod Draws
pub mod Jumps
pub mod Stated
-- what a flight of a program satisfies
pub mod Counts
pub mod Fits
pub mod NoiseRules
-- a flight to which another board sends
pub mod Relayed
-- what JSON says as a flight
pub mod ListForms
pub mod FlightFormat
-- the flight as it is kept
pub mod FlightView
-- theorems, and worked values
pub mod Laws
pub mod DrawExamples
pub mod FlightExamples
-- between the crate's own functions
pub mod EarlyInputs
