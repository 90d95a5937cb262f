-- what a reader has to trust
pub mod Formulas
pub mod Phrases
pub mod Meanings
pub mod Answers
-- a formula as the list of its parts
pub mod Parts
-- what the functions inside the crate promise each other
pub mod Words
pub mod Finding
pub mod Reading
pub mod LaidView
pub mod Judging
