-- how lines divide a text
pub mod Divided
pub mod SectionStarts
pub mod SectionSteps
pub mod SectionLaws
