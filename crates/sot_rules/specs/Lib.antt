-- what names mean, and of which sort an expression is
pub mod Sorts
pub mod Names
pub mod TreeSorts
-- the rules of typing
pub mod Lists
pub mod Tests
pub mod Fails
pub mod First
-- all faults as a list
pub mod Faults
-- worked programs
pub mod ExampleParts
pub mod FaultyPrograms
pub mod FaultlessPrograms
pub mod Examples
-- what the code keeps in tables
pub mod NameTables
pub mod Indexes
pub mod Scopes
pub mod NameLists
pub mod Alike
pub mod Meanings
pub mod Kinds
pub mod Operands
pub mod Groups
pub mod Behind
pub mod Reached
pub mod Nexts
