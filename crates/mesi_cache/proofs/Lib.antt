pub mod CacheSteps
pub mod Finding
pub mod Kept
pub mod Once
pub mod Order
pub mod SetSteps
pub mod Slots
