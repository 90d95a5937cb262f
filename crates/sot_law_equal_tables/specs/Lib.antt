-- what the public contracts say
pub mod Laws
pub mod UnplacedTables
pub mod Places
-- worked expressions and statements
pub mod Examples
-- tables of the running example that look the same
pub mod OneLine
