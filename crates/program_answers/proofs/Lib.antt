pub mod Steps
pub mod Codes
pub mod Named
pub mod Ran
