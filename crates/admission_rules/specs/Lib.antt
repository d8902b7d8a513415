pub mod Admission
pub mod Fault
