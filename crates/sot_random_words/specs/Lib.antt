-- what the contracts of those who draw words cite
pub mod Words
-- what the law says
pub mod Laws
