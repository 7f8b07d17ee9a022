pub mod Starred
pub mod TwoFaults
pub mod Theorems
