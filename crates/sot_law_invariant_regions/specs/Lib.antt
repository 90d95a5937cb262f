-- what the public contracts say
pub mod Following
pub mod Theorems
pub mod Alone
pub mod Shown
-- between crates that follow tubes
pub mod Walks
