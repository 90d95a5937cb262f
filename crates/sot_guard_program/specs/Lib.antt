-- how a call of `guard` may end, to be read first
pub mod Ends
-- what is said at each status, and in which words
pub mod Says
pub mod Conversations
pub mod Lines
-- what the functions below it promise
pub mod Moments
pub mod Hearing
pub mod Tellings
pub mod Beginning
