pub mod Texts
pub mod Inside
