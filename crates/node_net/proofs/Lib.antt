pub mod Counts
pub mod LaneLemmas
