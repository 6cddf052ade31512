pub mod Reached
pub mod Segments
