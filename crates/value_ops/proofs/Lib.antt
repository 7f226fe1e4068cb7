pub mod Ones
pub mod Wraps
pub mod Pairs
pub mod Items
pub mod Keeps
pub mod Wants
pub mod Changes
pub mod Makes
