pub mod Cut
pub mod Writing
pub mod OneByOne
pub mod Lent
pub mod Order
pub mod Fitting
