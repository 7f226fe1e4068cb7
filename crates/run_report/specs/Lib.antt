pub mod Step
pub mod Status
pub mod Blocks
pub mod Answer
pub mod Ends
