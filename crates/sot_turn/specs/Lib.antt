-- what the public contracts say
pub mod Prefixes
pub mod Passes
pub mod Lending
-- the rule of the lock, and what its steps tell
pub mod Views
pub mod Kept
pub mod Steps
pub mod Places
