pub mod Alive
pub mod Head
pub mod Port
