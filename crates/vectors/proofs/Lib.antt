pub mod Patterns
pub mod Spaces
