pub mod Tokens
pub mod Machine
pub mod Reads
pub mod Operands
pub mod Parts
pub mod Ahead
pub mod Nodes
