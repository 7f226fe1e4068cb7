pub mod Values
pub mod Frames
pub mod Extents
