pub mod First
pub mod Theorems
