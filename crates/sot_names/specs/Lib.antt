-- what names are, and what is in a table or a set of them
pub mod Names
pub mod NameTables
pub mod NameSets
pub mod SeenNames
-- how a table hashes them
pub mod NameHashes
