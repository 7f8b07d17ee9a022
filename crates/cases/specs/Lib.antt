pub mod Table
pub mod TwoFaults
