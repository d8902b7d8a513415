pub mod Telling
pub mod Following
