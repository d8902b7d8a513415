mod Places
mod Counted
mod Settled
mod Shown
