-- where reading stops, what was read begins a form of the grammar
pub mod Stops
pub mod Tokens
pub mod PieceStops
pub mod ListStops
pub mod ExpressionStops
pub mod StatementStops
pub mod DeclarationStops
pub mod Tracks
pub mod ListTracks
pub mod ExpressionTracks
pub mod StatementTracks
pub mod DeclarationTracks
pub mod ExactPlaces
pub mod ExactPlacesExist
pub mod OnePlace
