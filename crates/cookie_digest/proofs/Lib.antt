pub mod Differing
pub mod StandardFacts
