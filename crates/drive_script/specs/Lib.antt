pub mod Finishing
pub mod Loops
pub mod Open
pub mod Scripts
pub mod Views
pub mod Worlds
