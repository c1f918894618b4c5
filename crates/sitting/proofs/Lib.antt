pub mod Lying
pub mod Settled
