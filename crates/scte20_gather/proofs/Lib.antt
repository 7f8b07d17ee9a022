pub mod Heads
pub mod Numbering
pub mod Held
pub mod Blanks
pub mod Vouching
