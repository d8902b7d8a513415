pub mod Moved
