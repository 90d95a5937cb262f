-- what the public contract cites
pub mod OtherRegions
