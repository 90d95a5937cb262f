-- what every contract on lists speaks of
pub mod Places
-- worked lists
pub mod Sevens
