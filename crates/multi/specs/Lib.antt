pub mod Value
pub mod Layout
pub mod Order
pub mod Reading
pub mod Lent
pub mod Writing
pub mod Places
pub mod Inside
