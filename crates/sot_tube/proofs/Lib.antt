pub mod Tubes
pub mod ByScalars
pub mod Certificate
pub mod Gaps
pub mod Exact
pub mod Leaving
pub mod CellsNarrow
pub mod VerdictExact
pub mod Acceptance
pub mod LineBoxes
pub mod LineTubes
pub mod LineCertified
pub mod LineRefused
pub mod Walks
pub mod WalkRanges
pub mod Follows
pub mod Kept
mod Covered
mod SaferPoints
