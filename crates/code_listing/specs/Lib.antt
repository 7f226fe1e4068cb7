pub mod Names
pub mod Listing
pub mod Words
pub mod Kept
