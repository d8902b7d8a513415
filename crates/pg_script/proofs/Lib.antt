pub mod Kept
pub mod Played
pub mod StepLemmas
pub mod WorkedScripts
