pub mod Cores
pub mod Entries
pub mod Laws
pub mod Table
