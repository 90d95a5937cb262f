-- what a reader has to trust
pub mod Distrust
-- worked rows
pub mod Examples
