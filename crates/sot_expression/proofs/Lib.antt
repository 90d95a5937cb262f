-- what is read is of the grammar, what is of the grammar is read, and how one token follows another
pub mod StreamLaws
pub mod TokenTests
pub mod ReadSteps
pub mod FirstTokens
pub mod Tiers
pub mod Climbs
pub mod Founds
pub mod Soundness
pub mod Chains
pub mod AtomsRead
pub mod EachRead
pub mod PhraseLaws
pub mod ChainEnds
