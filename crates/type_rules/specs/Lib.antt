pub mod Fitting
pub mod Operators
pub mod OperatorNames
pub mod Calls
pub mod CallRows
pub mod CallNames
pub mod Parameters
pub mod ParameterRows
