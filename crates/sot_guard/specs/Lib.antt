-- what the public contracts say
pub mod Outside
pub mod Guarding
pub mod Changes
pub mod Resuming
pub mod Beginning
pub mod Instants
pub mod Examples
pub mod Hearing
pub mod Conversations
-- between the crate's own functions
pub mod GuardView
pub mod Running
pub mod HeldParts
pub mod InstantParts
pub mod SessionView
