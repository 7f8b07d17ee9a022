pub mod Layout
pub mod Reading
pub mod Writing
pub mod Order
pub mod Places
pub mod Inside
