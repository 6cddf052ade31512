pub mod Exact
pub mod Laws
pub mod Open
pub mod Pieces
pub mod QuantumRuns
pub mod Views
