pub mod Value
pub mod Layout
pub mod Order
pub mod Reading
pub mod Writing
pub mod Lent
pub mod Places
