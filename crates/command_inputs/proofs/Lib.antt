pub mod Digits
pub mod Names
pub mod Found
pub mod Sensed
pub mod Sizes
pub mod Stopped
pub mod Saying
