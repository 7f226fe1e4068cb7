pub mod Tree
pub mod View
pub mod Standing
pub mod Signatures
pub mod WellFormed
