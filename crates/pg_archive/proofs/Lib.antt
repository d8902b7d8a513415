pub mod Compared
pub mod Plain
pub mod Played
