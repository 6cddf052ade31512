pub mod Becoming
pub mod Numbered
pub mod Staying
pub mod Whole
