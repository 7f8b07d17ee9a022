pub mod Building
pub mod Digits
pub mod Lengths
pub mod Lines
pub mod Types
pub mod Determined
pub mod Theorems
