pub mod Field
pub mod Doubling
pub mod Polynomial
pub mod Count
pub mod Decoder
pub mod Theorems
