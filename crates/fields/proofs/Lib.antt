pub mod Sides
pub mod Theorems
