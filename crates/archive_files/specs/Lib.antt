pub mod Taking
pub mod Text
pub mod Turning
pub mod Waiting
