-- what a trace prints
pub mod Names
pub mod Numbers
pub mod Drafts
pub mod Moves
pub mod Lines
pub mod Traces
-- what a history must be to be printed, and for its text to tell it
pub mod Fitting
pub mod Words
pub mod Telling
-- worked traces
pub mod Examples
