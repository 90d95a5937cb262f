pub mod Drafts
pub mod Sights
pub mod Relayed
