pub mod Caches
pub mod Copies
pub mod Lines
pub mod Places
pub mod Sets
pub mod Words
