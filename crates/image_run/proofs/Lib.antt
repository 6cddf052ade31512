pub mod Intervals
pub mod Moved
