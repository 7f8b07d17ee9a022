pub mod Value
pub mod Layout
pub mod User
pub mod SlotVerdict
pub mod Inside
pub mod Order
pub mod SlotFaults
pub mod Places
