pub mod Words
pub mod Sense
pub mod Senses
pub mod Reading
