pub mod Runs
pub mod Told
pub mod Drafts
pub mod Modes
-- how a history so far goes on to its end
mod Covering
mod Keeping
mod GoingOn
pub mod Completing
pub mod FromStart
pub mod Possible
