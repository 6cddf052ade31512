pub mod Readings
pub mod Parts
pub mod Division
pub mod Aligned
