pub mod Texts
pub mod Events
pub mod Verdicts
pub mod Entries
pub mod Following
