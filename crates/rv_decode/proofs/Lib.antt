pub mod Found
pub mod InRange
pub mod Only
pub mod Immediates
pub mod OneWord
