pub mod Playing
pub mod Transcript
pub mod Runs
