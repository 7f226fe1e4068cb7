pub mod Steps
pub mod Wakes
pub mod Sheets
pub mod RunWritten
