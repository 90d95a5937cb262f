pub mod Firings
pub mod LineFlight
pub mod Views
pub mod Fits
