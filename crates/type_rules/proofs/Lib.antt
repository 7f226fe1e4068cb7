pub mod Ancestors
pub mod Rows
