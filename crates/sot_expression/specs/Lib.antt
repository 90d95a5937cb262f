-- what contracts rest on: the grammar, what is read of tokens from the left, and what a function
-- returned of it
pub mod Lexemes
pub mod Phrases
pub mod Laws
pub mod Stream
pub mod Readers
pub mod ExpressionReaders
pub mod Returned
-- what the functions inside the crate promise each other
pub mod Operators
pub mod Parts
