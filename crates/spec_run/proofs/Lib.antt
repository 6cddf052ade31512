pub mod InTurn
pub mod Crossed
pub mod Noting
pub mod Running
