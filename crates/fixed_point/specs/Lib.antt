pub mod Rounding
pub mod Fix
pub mod Decimals
pub mod Phase
pub mod Wanting
