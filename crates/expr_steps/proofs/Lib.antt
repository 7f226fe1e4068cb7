pub mod Most
pub mod Costs
pub mod Operations
pub mod Names
pub mod Expressions
