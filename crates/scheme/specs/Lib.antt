pub mod Questions
pub mod Figures
pub mod Polynomial
pub mod Dealing
pub mod Held
pub mod Fitting
pub mod Worked
