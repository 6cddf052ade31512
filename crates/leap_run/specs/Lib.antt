pub mod Laws
pub mod Leaps
pub mod Views
