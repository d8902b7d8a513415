pub mod Text
pub mod Fault
pub mod Flags
pub mod Order
pub mod Listing
pub mod Difference
