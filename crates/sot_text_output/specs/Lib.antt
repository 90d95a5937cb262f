-- what the public contracts say
pub mod Scratches
pub mod Spools
pub mod SpoolViews
-- why what is put grows piece by piece
pub mod ScratchLaws
pub mod SpoolLaws
