-- between the crate's own functions
pub mod Conditions
pub mod Made
pub mod Certifying
pub mod Points
pub mod Laws
pub mod Steps
pub mod Cuts
pub mod Findings
pub mod Widest
pub mod HalvingLaws
pub mod Examples
