pub mod Counting
pub mod Streams
pub mod Supply
pub mod Store
pub mod Whole
pub mod Tally
pub mod Holds
