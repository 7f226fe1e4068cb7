pub mod Runs
pub mod Ints
