mod Words
pub mod Stepping
pub mod Queues
pub mod Turning
pub mod Naming
pub mod Refusals
pub mod Wired
mod Puts
mod Entering
mod Ends
mod Joining
mod Sharing
mod Moments
mod UnderWay
mod Starting
mod Steady
mod Losing
mod Next
mod Calling
mod Opening
mod Carrying
mod Staying
mod Playing
mod Exchanged
