pub mod Packing
pub mod Pieces
pub mod Penned
