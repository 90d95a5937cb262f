-- each mission meets the rules of tables, and broken tables do not
mod Short
pub mod DivideRules
mod LineTerms
pub mod LineRules
mod PairTerms
pub mod PairRules
mod DoubleTerms
pub mod DoubleRules
pub mod BrokenRules
