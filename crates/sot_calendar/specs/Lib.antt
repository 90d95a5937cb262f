-- what the public contracts say, and what the semantics says of the calendar
pub mod Due
