pub mod Actors
pub mod Beginnings
