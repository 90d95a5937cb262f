-- which places of a fault the grammar allows, and the law
pub mod Places
pub mod Laws
