-- what the public contracts rest on
pub mod Tubes
pub mod Topics
pub mod Composition
pub mod Modules
pub mod WellFormed
pub mod Certified
pub mod Admitted
pub mod Leaves
pub mod Refusals
pub mod Checks
pub mod Verdict
pub mod Theorems
pub mod Examples
pub mod RefusalExamples
pub mod Calls
pub mod Walk
