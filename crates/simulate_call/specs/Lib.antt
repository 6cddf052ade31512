pub mod Answers
pub mod Coherence
pub mod Headline
pub mod Inputs
pub mod Outputs
pub mod RunValues
pub mod Texts
pub mod Writing
