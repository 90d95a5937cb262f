-- each list of faults and the rules that fail
pub mod Members
pub mod TreeFaults
pub mod StatementFaults
pub mod ListFaults
pub mod PartFaults
pub mod DeclarationFaults
-- the least of a list
pub mod Least
pub mod FirstFault
pub mod Behind
pub mod Fronts
pub mod BodiesBehind
pub mod PlantsBehind
-- how the walk notes it
pub mod Loops
pub mod Calls
pub mod Branches
pub mod Repeats
pub mod Limits
pub mod Pairs
pub mod Sizes
pub mod Sequences
pub mod Mapped
pub mod Nexts
pub mod Bodies
pub mod Reached
-- names in tables and sets
pub mod Lookups
pub mod FewNames
pub mod NameTables
pub mod Indexes
pub mod Distinct
pub mod StandsFor
pub mod Alike
