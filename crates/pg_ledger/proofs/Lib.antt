pub mod Placing
pub mod Saying
pub mod Going
pub mod Behind
