pub mod Lists
pub mod Seated
pub mod Lawful
pub mod Allowed
