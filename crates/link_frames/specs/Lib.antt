pub mod Fault
pub mod Spelling
pub mod Parts
pub mod Undoing
pub mod Reading
pub mod PartReading
pub mod Stream
pub mod Held
