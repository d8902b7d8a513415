pub mod States
pub mod Peer
pub mod Pending
pub mod Checks
pub mod Frames
pub mod Named
pub mod Stopped
pub mod Meeting
