-- The definition that the contracts cite. Assumes nothing.
pub mod Counts
