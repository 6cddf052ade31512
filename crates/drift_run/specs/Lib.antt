pub mod BoundedRuns
pub mod Crews
pub mod Finishes
pub mod Holds
pub mod Parts
pub mod Rigs
