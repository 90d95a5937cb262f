-- the conditions that speak of no cells
pub mod Carried
pub mod Conditions
-- the lists of cells
pub mod Halving
-- what `certify` answers
pub mod Answers
pub mod Certify
pub mod Entries
-- what the checker refuses
pub mod Refusals
pub mod Looks
