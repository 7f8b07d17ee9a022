pub mod Verdict
pub mod Numbers
pub mod Checks
pub mod Answers
pub mod Order
