pub mod FoundFrames
pub mod HeldLemmas
pub mod ReadingLemmas
pub mod StandardFacts
pub mod StreamLemmas
