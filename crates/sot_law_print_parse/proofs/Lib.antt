-- words and tokens
pub mod Takes
pub mod Texts
-- each production, from leaves to programs
pub mod Kept
pub mod Leaves
pub mod Lists
pub mod Phrases
pub mod Calls
pub mod Operators
pub mod Expressions
pub mod Statements
pub mod Clauses
pub mod Regions
pub mod Topics
pub mod Plants
pub mod Nodes
pub mod Modules
pub mod Programs
-- the laws
pub mod Canonical
pub mod SameWords
pub mod Apart
-- what a text spells is formed
pub mod FormedPrograms
