pub mod Chunks
pub mod Formats
pub mod Frames
pub mod Waves
