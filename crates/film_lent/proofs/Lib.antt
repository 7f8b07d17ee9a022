pub mod Left
pub mod Halves
pub mod States
pub mod Calling
pub mod Theorems
