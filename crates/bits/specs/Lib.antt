pub mod Bits
pub mod Table
pub mod Peek
pub mod Inside
