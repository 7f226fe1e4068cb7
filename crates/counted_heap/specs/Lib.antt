pub mod Places
pub mod Cells
pub mod Counted
pub mod Stands
pub mod Reach
pub mod Left
