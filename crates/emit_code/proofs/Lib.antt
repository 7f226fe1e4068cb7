mod Bodies
mod Emits
mod Seams
mod Exits
mod Within
mod Loops
pub mod NewObjects
pub mod Rows
