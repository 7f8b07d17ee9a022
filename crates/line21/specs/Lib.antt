pub mod Value
pub mod Layout
pub mod Reading
pub mod Writing
pub mod Lent
pub mod Order
pub mod Places
