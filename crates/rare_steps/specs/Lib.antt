pub mod Rare
pub mod Keys
