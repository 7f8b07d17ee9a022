pub mod Room
pub mod Each
pub mod Bytes
pub mod Sum
pub mod Part
pub mod Flat
