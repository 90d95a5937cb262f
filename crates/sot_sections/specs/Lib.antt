-- what the contract of `split` rests on
pub mod Sections
pub mod SectionExamples
-- what the functions inside the crate promise each other
pub mod Dividing
