pub mod Cards
pub mod Opening
pub mod Runs
pub mod Law
pub mod Lying
pub mod Openings
pub mod Worked
