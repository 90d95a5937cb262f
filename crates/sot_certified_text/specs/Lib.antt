-- what the contracts cite
pub mod CertText
pub mod ReadBack
pub mod FailTexts
pub mod Lines
pub mod Made
-- what the laws on the lines of a program's text say
pub mod Plain
pub mod Missions
-- what the laws on a text that is read again say
pub mod ReadAgain
-- worked texts
pub mod Examples
