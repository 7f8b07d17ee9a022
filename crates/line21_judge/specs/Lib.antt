pub mod Judging
pub mod Seen
