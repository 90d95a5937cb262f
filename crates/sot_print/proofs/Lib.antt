-- lemmas on what is written, and then on reading it back
pub mod Laying
pub mod Lists
pub mod Blocks
pub mod Numerals
pub mod NumeralTexts
pub mod Declarations
pub mod Ends
pub mod ReadBack
pub mod Sits
pub mod LeafSits
pub mod ExpressionSits
pub mod StatementSits
pub mod ProgramSits
