pub mod Words
pub mod Alu
pub mod Branch
pub mod Target
pub mod Access
