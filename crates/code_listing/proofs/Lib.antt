pub mod Kept
pub mod Grown
