mod Firsts
pub mod Tables
mod Turns
mod Examples
pub mod Limits
