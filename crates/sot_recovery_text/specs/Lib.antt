-- what a reader has to trust
pub mod Recovery
pub mod Lines
-- the law
pub mod Laws
-- between the crate's own functions
pub mod Steps
