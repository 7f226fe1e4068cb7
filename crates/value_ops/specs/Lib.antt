pub mod Ends
pub mod Heaps
