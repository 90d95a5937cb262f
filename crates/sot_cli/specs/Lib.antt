-- what the public contracts say
pub mod Texts
pub mod Starts
-- the words of a process, and how it ends
pub mod Words
-- what the functions below a program's call promise it
pub mod Steps
