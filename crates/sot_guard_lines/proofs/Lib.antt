-- plants in their places, read one by one
pub mod KeptPlaces
-- the room that the numbers of a line take
pub mod Room
-- a plant's place is read as it is spelled
pub mod ReadPlaces
-- what is read is what a line says, and what a line says is read
pub mod Sayings
-- what is looked at of it
pub mod ShownSaid
-- `resume` is a line by itself
pub mod Resuming
mod Named
-- what a test chooses
mod Chosen
