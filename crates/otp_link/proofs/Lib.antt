pub mod Cuts
pub mod Exits
pub mod Sends
