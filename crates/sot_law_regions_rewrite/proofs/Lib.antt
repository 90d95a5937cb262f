-- a program with other regions is formed
pub mod Formed
-- its canonical text is read back
pub mod Written
pub mod Programs
-- nothing else changes: neither what names mean, nor tables, nor faults
pub mod Names
pub mod Tables
pub mod Faultless
