pub mod Pacing
pub mod Steps
pub mod Laws
pub mod Seats
