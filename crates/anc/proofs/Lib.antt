pub mod Folds
pub mod Words
pub mod Judged
pub mod Placed
pub mod Sequence
pub mod Determined
pub mod Theorems
