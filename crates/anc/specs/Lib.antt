pub mod Words
pub mod Inside
pub mod Order
