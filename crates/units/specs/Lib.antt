pub mod Layout
pub mod Split
pub mod Inside
