-- a list that is made element by element
pub mod Steps
