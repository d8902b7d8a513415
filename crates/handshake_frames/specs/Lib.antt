pub mod Frame
pub mod Spelling
pub mod Reading
pub mod BodySoFar
pub mod Held
pub mod Stream
