pub mod Zeros
pub mod Numbered
