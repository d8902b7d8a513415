pub mod Brake
