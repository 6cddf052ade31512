pub mod LockstepEnds
pub mod Speculative
