pub mod NameLists
pub mod Peers
