pub mod Sheets
pub mod Untold
