pub mod SafeHulls
pub mod SlotReadings
pub mod Verdicts
mod NodeReads
pub mod SafeReadings
