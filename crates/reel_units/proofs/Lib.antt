pub mod Calling
pub mod Theorems
