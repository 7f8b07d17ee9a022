pub mod Words
pub mod Value
pub mod Inside
