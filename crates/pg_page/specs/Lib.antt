pub mod Escaping
pub mod Health
