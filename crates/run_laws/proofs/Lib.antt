pub mod Changes
pub mod Kept
pub mod Sporks
pub mod Counted
pub mod Numbers
pub mod RunStores
pub mod Lawful
pub mod Settles
