pub mod Tags
pub mod Terms
pub mod Fault
pub mod Values
