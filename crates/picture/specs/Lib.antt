pub mod Kinds
pub mod Value
pub mod Reading
pub mod Writing
pub mod Lent
pub mod Inside
pub mod Order
pub mod Places
