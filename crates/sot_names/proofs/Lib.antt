-- loops over names
pub mod Steps
-- names in tables and sets
pub mod FewNames
pub mod SeenNames
pub mod NameSets
pub mod NameTables
