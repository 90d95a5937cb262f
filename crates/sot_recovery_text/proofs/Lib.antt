-- one line more, and what follows from answers
pub mod More
-- what is told of tables that look the same
pub mod Alike
