pub mod WorldLines
pub mod Names
pub mod StepLines
pub mod Settling
pub mod Showing
pub mod Following
pub mod Faults
