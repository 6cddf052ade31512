-- The law of late Invalidates.
pub mod Between
pub mod GivenUp
pub mod Moves
pub mod Places
pub mod Quiet
pub mod Rising
pub mod SetCount
pub mod Steps
pub mod Ticks
pub mod Touched
pub mod TouchesLeft
pub mod Waiting
