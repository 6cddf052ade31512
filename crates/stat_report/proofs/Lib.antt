mod Dumping
pub mod Fitting
mod ListedLines
mod NoFloats
mod NumberedLines
mod Order
mod Places
mod Unique
