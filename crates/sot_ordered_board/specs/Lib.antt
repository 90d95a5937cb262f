-- which nodes guests fly
pub mod Crews
-- what may come next, and flights that are flown so
pub mod Order
-- the node that fires next
pub mod Turns
-- laws on flights in order
pub mod Laws
