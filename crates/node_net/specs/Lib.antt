pub mod LaneCalls
pub mod Listings
