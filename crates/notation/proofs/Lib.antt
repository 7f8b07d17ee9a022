pub mod Cutting
pub mod Digits
pub mod Taking
pub mod Gathering
pub mod Telling
pub mod Written
pub mod Listed
pub mod Theorems
