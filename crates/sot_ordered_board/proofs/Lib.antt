-- what goes on in order
pub mod Extending
-- one history in order
pub mod OneHistory
