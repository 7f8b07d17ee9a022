-- The definitions that the contracts cite. Assumes nothing.
pub mod Digits
pub mod Lines
pub mod Numbers
pub mod Tallies
