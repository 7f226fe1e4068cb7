pub mod Live
pub mod Slices
