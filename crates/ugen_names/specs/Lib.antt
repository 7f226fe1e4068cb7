pub mod ParameterNames
pub mod Table
pub mod Rows
