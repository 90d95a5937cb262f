pub mod Reaches
pub mod Executes
pub mod Rows
pub mod ActRows
pub mod LineReach
pub mod LineRules
pub mod Places
pub mod SafeRegions
pub mod Owners
pub mod Topics
pub mod NamesOnce
pub mod Words
mod DraftSlots
