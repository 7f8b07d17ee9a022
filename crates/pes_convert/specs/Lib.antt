pub mod Converting
pub mod Order
