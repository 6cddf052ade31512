pub mod Invalidated
pub mod Lawful
pub mod Others
pub mod Sets
