-- when a plant is outside its safe region
pub mod Outside
-- what is counted, and the line that says it
pub mod Counted
pub mod Summaries
pub mod SummaryText
-- laws on summaries
pub mod Laws
-- worked summaries
pub mod Examples
-- what the functions inside the crate promise each other
pub mod Fronts
