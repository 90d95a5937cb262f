pub mod DraftsWithin
pub mod Commands
pub mod Walking
pub mod HeldRegions
pub mod Alone
