pub mod Dump
pub mod Json
pub mod Lines
pub mod Listing
pub mod Notes
pub mod Report
