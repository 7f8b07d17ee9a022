pub mod Laying
pub mod Surrounding
pub mod Theorems
