pub mod Floors
pub mod Clamps
pub mod Texts
mod Arches
mod Products
