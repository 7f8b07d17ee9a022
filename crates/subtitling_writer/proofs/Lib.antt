pub mod Words
pub mod Stored
pub mod Sealing
pub mod Structures
pub mod Laying
