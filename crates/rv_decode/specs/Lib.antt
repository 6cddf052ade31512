pub mod Decoding
pub mod Encodes
pub mod Fields
pub mod Operations
pub mod Ranges
pub mod Texts
