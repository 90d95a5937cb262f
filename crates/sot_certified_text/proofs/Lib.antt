-- plain texts, byte by byte
pub mod PlainTexts
pub mod Digits
-- a certificate behind a program
pub mod Missions
-- the words of programs
pub mod Tidy
pub mod TidyLeaves
pub mod TidyStatements
pub mod TidyPrograms
-- a certificate's parts, read back
pub mod Items
pub mod Shapes
pub mod ReadBack
pub mod Modules
-- the line of a certificate
pub mod JsonLines
pub mod JsonEnds
pub mod JsonBack
pub mod LineBack
pub mod Lines
pub mod Made
-- the whole text, read again
pub mod Written
