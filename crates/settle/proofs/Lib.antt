pub mod Lists
pub mod Gathering
pub mod WorldOf
pub mod Growing
