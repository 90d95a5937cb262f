-- lists
pub mod Lists
pub mod Joined
pub mod Tests
-- names, and what they mean
pub mod Once
pub mod Declared
pub mod Meanings
-- expressions and bodies in which no rule fails
pub mod Ranges
pub mod Times
pub mod Readings
pub mod FormulaRules
pub mod SortCases
pub mod Expressions
pub mod Statements
-- the tables, list by list
pub mod Seen
pub mod Topics
pub mod ScalarFacts
pub mod TopicLists
pub mod PlantFacts
pub mod NodeFacts
pub mod ModuleFacts
pub mod DeclaredNames
pub mod Owners
pub mod Meets
-- how the tables are made
pub mod Scalars
pub mod Counting
pub mod Counted
pub mod FoundThing
pub mod Gathered
mod Filled
pub mod Fitting
-- expressions and bodies with places for names
mod Rows
mod Searches
mod Faultless
mod Prefixes
mod PartLoops
mod ActLoops
mod Listings
pub mod Small
mod OwnerFaults
