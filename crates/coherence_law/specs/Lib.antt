pub mod Breaks
pub mod Coherent
pub mod Invariant
pub mod LineLaws
pub mod Lines
pub mod Steps
pub mod Texts
pub mod Unbroken
