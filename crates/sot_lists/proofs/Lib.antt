pub mod Places
pub mod Numbers
pub mod ShortLists
pub mod Sevens
