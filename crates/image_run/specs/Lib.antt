pub mod Ends
pub mod Modes
