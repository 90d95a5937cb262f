pub mod Topics
pub mod Refused
pub mod Drafts
pub mod Many
pub mod Cells
