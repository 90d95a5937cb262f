-- what the flying of a flight promises
pub mod Flying
pub mod Lists
pub mod Asked
pub mod Pairs
pub mod Sent
pub mod Stations
pub mod Back
pub mod Forms
pub mod Threads
pub mod Rooms
pub mod Leaving
-- what an instant's work promises
pub mod Instants
