-- the canonical text, from words with their layout up to whole programs
pub mod Words
pub mod Leaves
pub mod Expressions
pub mod Statements
pub mod Canonical
-- which words are read back
pub mod Layout
-- worked texts
pub mod Examples
