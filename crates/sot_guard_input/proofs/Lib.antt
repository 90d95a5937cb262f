-- line ends in bytes that come piece by piece
pub mod Ends
-- texts of whole lines, and lines that come in pieces
pub mod LineTexts
pub mod Pieces
-- a numeral that is a whole text
pub mod Marks
