pub mod Fields
pub mod Halves
pub mod Heads
pub mod Names
pub mod Readings
pub mod Written
