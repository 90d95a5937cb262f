-- what the public contracts say
pub mod FlatForm
-- what instructions and steps do, and what they compute
pub mod Instructions
pub mod Flows
pub mod Shapes
pub mod Carries
