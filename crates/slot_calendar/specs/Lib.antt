pub mod Asks
pub mod Entries
pub mod Laws
pub mod Slots
