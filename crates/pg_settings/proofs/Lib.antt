pub mod Taken
pub mod Renewed
pub mod Lives
pub mod Told
pub mod Settles
