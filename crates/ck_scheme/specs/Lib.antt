pub mod Texts
pub mod Tails
pub mod Scheme
pub mod Follows
