-- what tables that look the same have in common
pub mod Seen
-- certificates' texts
pub mod Certificates
pub mod Flights
-- intervals, by what looks the same
pub mod Expressions
pub mod Bodies
pub mod Plants
pub mod Nodes
-- the conditions of a certificate
pub mod Modules
pub mod Cells
pub mod Certified
pub mod Verdicts
-- programs without places, and their tables
pub mod Lists
pub mod Names
pub mod Declared
pub mod Terms
pub mod Tables
-- what is wrong with a program without places
pub mod FaultLists
pub mod ExpressionFaults
pub mod DeclarationFaults
pub mod Faultless
-- what does not trap without places, step by step
pub mod Steps
pub mod PlacelessExpressions
pub mod PlacelessBodies
-- what tables that are alike but for places have in common
pub mod PlacelessSeen
pub mod PlacelessCertificates
pub mod PlacelessPlants
pub mod PlacelessNodes
-- the conditions of a certificate without places
pub mod PlacelessModules
pub mod PlacelessCells
pub mod PlacelessCertified
-- programs of canonical texts
pub mod Formatted
-- the worked tables of the running example, part by part
pub mod Worked
