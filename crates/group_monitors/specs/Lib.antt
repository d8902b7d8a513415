pub mod Monitors
pub mod Fetches
pub mod Counts
pub mod Follows
